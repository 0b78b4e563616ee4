use Rattle.std.proofs.Common.{◌≡◌, ◌++◌, length}
use Rattle.ring_nest.specs.Edges.{rising}
use Rattle.ring_nest.proofs.ring_edges.rising.Given as goal

-- the edges so far, and then those of what is left
abbrev pub invariant-loop-rest : goal.invariant-loop-rest
invariant-loop-rest l = l.edges.items ++ rising l.rest ≡ rising l.ring

abbrev pub decreases-loop-rest : goal.decreases-loop-rest
decreases-loop-rest l = length l.rest
