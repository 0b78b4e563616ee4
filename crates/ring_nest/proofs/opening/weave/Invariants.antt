use Rattle.std.proofs.Common.{◌≡◌, ◌++◌, length}
use Rattle.ring_nest.specs.Opening.{woven}
use Rattle.ring_nest.proofs.opening.weave.Given as goal

abbrev pub invariant-loop-first : goal.invariant-loop-first
invariant-loop-first l = l.edges.items ++ woven l.first l.second ≡ woven l.minus l.plus

abbrev pub decreases-loop-first : goal.decreases-loop-first
decreases-loop-first l = length l.first
