use Rattle.std.proofs.Common.{◌≤◌, ◌-◌, length}
use Rattle.ring_nest.proofs.Lats.{HasSoFar}
use Rattle.ring_nest.proofs.latitudes.lats_of.Given as goal

-- those of the rings so far, and those of the rings that are left
abbrev pub invariant-loop-at : goal.invariant-loop-at
invariant-loop-at l = (l.at ≤ length l.rings) × HasSoFar l.rings l.marks l.at l.lats.items

abbrev pub decreases-loop-at : goal.decreases-loop-at
decreases-loop-at l = length l.rings - l.at
