use Rattle.std.proofs.Common.{◌≡◌, ◌≤◌, ◌-◌, length, map, take}
use Rattle.lanes_geo.specs.Nesting.{depth}
use Rattle.ring_nest.proofs.holders.depths_of.Given as goal

-- the depths of the rings so far
abbrev pub invariant-loop-at : goal.invariant-loop-at
invariant-loop-at l = record {
  within : l.at ≤ length l.rings;
  depths_so_far : l.depths.items ≡ map (depth l.rings) (take l.at l.rings);
}

abbrev pub decreases-loop-at : goal.decreases-loop-at
decreases-loop-at l = length l.rings - l.at
