use Rattle.std.proofs.Common.{List, ap, subst, ◌∙◌}
use Rattle.osm_base.specs.declared.values.object.Entry.{Entry}
use Rattle.osm_base.specs.map.Objects.{folded_all}
use Rattle.opl_files.specs.Reading.{ReadsAll}
use Rattle.tag_rows.specs.TrimmedChange.{TrimmedEntries, with_entry}
use Rattle.tag_rows.proofs.TrimmedLaws.{taken-reads}
use Rattle.updater.proofs.commands.lines.change.Goals as goal

pub returns-clause-ok : goal.returns-clause-ok
returns-clause-ok g c =
    let old = c.args.rows.now in
    let change = c.scan_parallel.new.keeper in
    let left = (g.I.Inputs.view c.args.inputs.now).left c.args.file in
    let rest = (g.I.Inputs.view c.scan_parallel.new.inputs).left c.args.file in
    taken-reads c.args.limits.now old c.apply.new.self change left rest
    (c.in_ok-apply.ensures.ok ∙ ap (λ (entries : List Entry). record { key = old.key; objects = folded_all old.objects entries })
    c.into_change.ensures.entries)
    (subst (λ (start : TrimmedEntries). ReadsAll with_entry c.args.limits.now start change left rest) c.begin-change.ensures.empty
    c.in_ok-scan_parallel.ensures.ok)
