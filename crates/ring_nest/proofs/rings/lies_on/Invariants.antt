use Rattle.std.proofs.Common.{◌≡◌, ◌≤◌, ◌-◌, length, drop}
use Rattle.lanes_geo.specs.Nesting.{lies_on}
use Rattle.ring_nest.proofs.rings.lies_on.Given as goal

-- it is told by what is left
abbrev pub invariant-loop-at : goal.invariant-loop-at
invariant-loop-at l = (l.at ≤ length l.ring) × (lies_on (drop l.at l.ring) l.place ≡ lies_on l.ring l.place)

abbrev pub decreases-loop-at : goal.decreases-loop-at
decreases-loop-at l = length l.ring - l.at
