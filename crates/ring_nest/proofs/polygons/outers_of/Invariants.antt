use Rattle.std.proofs.Common.{◌≡◌, ◌≤◌, ◌-◌, ◌++◌, [], length, drop}
use Rattle.ring_nest.specs.Polygons.{polygons_from}
use Rattle.ring_nest.proofs.polygons.outers_of.Given as goal

-- the polygons so far, and those of what is left
abbrev pub invariant-loop-at : goal.invariant-loop-at
invariant-loop-at l = (l.at ≤ length l.rings)
    × (l.polygons.items ++ polygons_from l.rings [] l.at (drop l.at l.rings) ≡ polygons_from l.rings [] 0 l.rings)

abbrev pub decreases-loop-at : goal.decreases-loop-at
decreases-loop-at l = length l.rings - l.at
