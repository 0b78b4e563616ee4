use Rattle.std.proofs.Common.{◌≡◌}
use Rattle.std.specs.Prelude.{drop}
use Rattle.std.specs.List.{find}
use Rattle.style_read.specs.Causes.{order}
use Rattle.style_read.proofs.part.first_cause.Given as goal

-- the first cause of those that are left is the first of all
abbrev pub invariant-loop-why : goal.invariant-loop-why
invariant-loop-why g l = find (g.P.Part.has l.part) (drop l.why-index l.why-items) ≡ find (g.P.Part.has l.part) order
