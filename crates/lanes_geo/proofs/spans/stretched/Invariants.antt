use Rattle.std.proofs.Common.{◌≡◌, ◌≤◌, drop, take, map, min, max}
use Rattle.std.specs.List.{AllByRecursion}
use Rattle.lanes_geo.specs.Grid.{IsPlace, east_of, north_of, least_of, greatest_of}
use Rattle.lanes_geo.proofs.spans.stretched.Given as goal

-- the sides so far, and what is left
abbrev pub invariant-loop-place : goal.invariant-loop-place
invariant-loop-place l = record {
  west_fits : l.west ≤ 4294967295;
  south_fits : l.south ≤ 4294967295;
  west : min l.west (least_of (map east_of (drop l.place-index l.places))) ≡ min l.fn.sides.west (least_of (map east_of l.places));
  south : min l.south (least_of (map north_of (drop l.place-index l.places))) ≡ min l.fn.sides.south (least_of (map north_of l.places));
  east : max l.most_east (greatest_of (map east_of (drop l.place-index l.places)))
      ≡ max l.fn.sides.east (greatest_of (map east_of l.places));
  north : max l.most_north (greatest_of (map north_of (drop l.place-index l.places)))
      ≡ max l.fn.sides.north (greatest_of (map north_of l.places));
  on_earth : AllByRecursion IsPlace (take l.place-index l.places);
}
