use Rattle.std.proofs.Common.{◌≡◌, ◌+◌, ◌-◌, ◌≤◌, drop, length}
use Rattle.lanes_geo.specs.Crossing.{crossings}
use Rattle.lanes_geo.proofs.crossings.crossings_of.Given as goal

-- those so far, and those of what is left
abbrev pub invariant-loop-at : goal.invariant-loop-at
invariant-loop-at l = (l.at ≤ length l.ring) × (l.count + crossings (drop l.at l.ring) l.place ≡ crossings l.ring l.place)

abbrev pub decreases-loop-at : goal.decreases-loop-at
decreases-loop-at l = length l.ring - l.at
