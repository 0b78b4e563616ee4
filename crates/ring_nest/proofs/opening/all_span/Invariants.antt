use Rattle.std.proofs.Common.{length}
use Rattle.std.specs.List.{AllByRecursion}
use Rattle.ring_nest.specs.Edges.{Spans}
use Rattle.ring_nest.proofs.opening.all_span.Given as goal

abbrev pub invariant-loop-rest : goal.invariant-loop-rest
invariant-loop-rest l = AllByRecursion (Spans l.low l.high) l.rest → AllByRecursion (Spans l.low l.high) l.edges

abbrev pub decreases-loop-rest : goal.decreases-loop-rest
decreases-loop-rest l = length l.rest
