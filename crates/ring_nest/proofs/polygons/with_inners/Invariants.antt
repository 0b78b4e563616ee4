use Rattle.std.proofs.Common.{◌≡◌, ◌≤◌, ◌-◌, true, length, take}
use Rattle.std.specs.List.{list_all}
use Rattle.lanes_geo.specs.Nesting.{has_place}
use Rattle.ring_nest.specs.Polygons.{polygons_from}
use Rattle.ring_nest.proofs.polygons.with_inners.Given as goal

-- the polygons with the inner rings so far, each of which has a place
abbrev pub invariant-loop-at : goal.invariant-loop-at
invariant-loop-at l = record {
  within : l.at ≤ length l.rings;
  placed : list_all (has_place l.rings) (take l.at l.rings) ≡ true;
  polygons_so_far : l.polygons.items ≡ polygons_from l.rings (take l.at l.rings) 0 l.rings;
}

abbrev pub decreases-loop-at : goal.decreases-loop-at
decreases-loop-at l = length l.rings - l.at
