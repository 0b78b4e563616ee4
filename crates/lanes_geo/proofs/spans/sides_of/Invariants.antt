use Rattle.std.proofs.Common.{◌≡◌, ◌≤◌, ◌-◌, length, take, map}
use Rattle.std.specs.List.{AllByRecursion}
use Rattle.lanes_geo.specs.Grid.{IsPlace, east_of, north_of, least_of, greatest_of}
use Rattle.lanes_geo.proofs.spans.sides_of.Given as goal

-- the sides of the places so far
abbrev pub invariant-loop-at : goal.invariant-loop-at
invariant-loop-at l = record {
  within : l.at ≤ length l.places;
  lanes : length l.west ≡ 16 × length l.south ≡ 16 × length l.east ≡ 16 × length l.north ≡ 16;
  west : least_of l.west ≡ least_of (map east_of (take l.at l.places));
  south : least_of l.south ≡ least_of (map north_of (take l.at l.places));
  east : greatest_of l.east ≡ greatest_of (map east_of (take l.at l.places));
  north : greatest_of l.north ≡ greatest_of (map north_of (take l.at l.places));
  on_earth : AllByRecursion IsPlace (take l.at l.places);
}

abbrev pub decreases-loop-at : goal.decreases-loop-at
decreases-loop-at l = length l.places - l.at
