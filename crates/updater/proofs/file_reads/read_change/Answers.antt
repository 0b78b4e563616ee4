use Rattle.std.proofs.Common.{◌<◌, List, ℕ, length, subst}
use Rattle.osm_base.specs.declared.bounds.limits.TheConstants.{MAX_ENTRIES}
use Rattle.osm_base.specs.declared.values.object.Entry.{Entry}
use Rattle.osm_base.specs.declared.bounds.limits.LimitNumbers.{LimitNumbers}
use Rattle.outside.specs.Bytes.{IfTold}
use Rattle.opl_files.specs.Entries.{IsAccepted}
use Rattle.updater.proofs.FileLaws.{too_many}
use Rattle.updater.proofs.file_reads.read_change.Goals as goal

pub returns-then-entries-gt-MAX_ENTRIES-clause-reads : goal.returns-then-entries-gt-MAX_ENTRIES-clause-reads
returns-then-entries-gt-MAX_ENTRIES-clause-reads g c =
    let old = g.I.Inputs.view c.args.inputs.now in
    let new = g.I.Inputs.view c.read_parallel.new.inputs in
    record {
      ok = tt;
      err = too_many c.args.file c.in-Ok.change old new
          (subst (λ (limits : LimitNumbers). IfTold (old.left c.args.file) (λ (bytes : List ℕ). IsAccepted limits bytes c.in-Ok.change))
          c.standard-limits.ensures.numbers c.in-Ok.ensures.accepted)
          (subst (λ (entries : List Entry). MAX_ENTRIES < length entries) c.entries.ensures.entries c.if-entries-gt-MAX_ENTRIES.true)
          c.read_parallel.ensures.read.alone;
      asked = c.read_parallel.ensures.read.asked;
    }
