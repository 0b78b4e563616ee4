use Rattle.std.proofs.Common.{◌∙◌, Some, ap, sym}
use Rattle.table_versions.proofs.reading.MapReaderReads.look.Goals as goal

pub invariant_of-self-in-Ok : goal.invariant_of-self-in-Ok
invariant_of-self-in-Ok c = (
  c.self.invariant.0 ∙ sym c.in-Some.ensures.book,
  c.leave.ensures.1
      ∙ (c.in-Some.ensures.inside.1 ∙ ap Some (sym c.in-Some.ensures.book)),
)
