use Rattle.std.proofs.Common.{◌∙◌, Some, ap, sym}
use Rattle.table_versions.proofs.reading.MapReaderReads.count.Goals as goal

pub invariant_of-self-2 : goal.invariant_of-self-2
invariant_of-self-2 c = (
  c.self.invariant.0 ∙ sym c.in-Some.ensures.book,
  c.leave.ensures.1
      ∙ (c.in-Some.ensures.inside.1 ∙ ap Some (sym c.in-Some.ensures.book)),
)
