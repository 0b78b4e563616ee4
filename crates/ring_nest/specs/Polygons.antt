-- How the polygons are made: an outer ring after the other, and then an inner ring after the other is put into its polygon.
use Rattle.std.specs.Prelude.{ℕ, ◌+◌, ◌%◌, ◌==◌, List, [], ◌∷◌, Option, Some, None, if◌then◌else◌}
use Rattle.std.specs.List.{filter, list_all}
use Rattle.lanes_geo.specs.Nesting.{Ring, is_outer, belongs, has_place}

-- the polygons of the rings from a number on, with some of the inner rings
abbrev pub polygons_from : List Ring → List Ring → ℕ → List Ring → List (List Ring)
polygons_from rings inner number [] = []
polygons_from rings inner number (ring ∷ rest) =
    if is_outer rings ring
    then (ring ∷ filter (belongs rings number) inner) ∷ polygons_from rings inner (number + 1) rest
    else polygons_from rings inner (number + 1) rest

-- the polygons with all of their inner rings, where each has a place
abbrev pub filled : List Ring → Option (List (List Ring))
filled rings = if list_all (has_place rings) rings then Some (polygons_from rings rings 0 rings) else None

-- the place of each ring's polygon among the polygons, from a place on, by the depths of the rings
abbrev pub slots_from : ℕ → List ℕ → List ℕ
slots_from place [] = []
slots_from place (depth ∷ depths) = place ∷ slots_from (if depth % 2 == 0 then place + 1 else place) depths
