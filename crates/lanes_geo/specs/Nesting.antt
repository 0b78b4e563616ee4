-- Which rings hold which, and the polygons that they make.
-- OGC Simple Feature Access, "Polygon": one exterior boundary and none, one or more interior boundaries, each a closed ring.
use Rattle.std.specs.Prelude.{ℕ, ◌+◌, ◌%◌, ◌==◌, ℤ, Bool, false, not, ◌&&◌, ◌||◌, if◌then◌else◌, List, [], ◌∷◌, length, map, Option, Some}
use Rattle.std.specs.Prelude.{None, is_some, int_le, count_by, slice_index_or}
use Rattle.std.specs.List.{filter, list_any, list_all, position_from, range_with_len}
use Rattle.osm_base.specs.values.Place.{PlaceOf}
use Rattle.lanes_geo.specs.Crossing.{Segment, segments, across, along, odd}

-- the places of a ring in order, from its first to its first again
abbrev pub Ring : Type 0
Ring = List PlaceOf

-- whether a number lies between two others, in whichever order they are
abbrev pub is_between : ℤ → ℤ → ℤ → Bool
is_between first last number = (int_le first number && int_le number last) || (int_le last number && int_le number first)

-- whether two products are equal
abbrev pub are_equal : ℤ → ℤ → Bool
are_equal one other = int_le one other && int_le other one

-- whether a place lies on a segment, its ends included: between its ends, and on its line
abbrev pub lies_within : PlaceOf → Segment → Bool
lies_within place segment =
    (is_between segment.start.lon segment.end.lon place.lon && is_between segment.start.lat segment.end.lat place.lat)
    && are_equal (across place segment) (along place segment)

-- whether a place lies on a ring: on one of its segments
abbrev pub lies_on : List PlaceOf → PlaceOf → Bool
lies_on ring place = list_any (lies_within place) (segments ring)

-- the first place that does not lie on a ring
abbrev pub first_off : List PlaceOf → List PlaceOf → Option PlaceOf
first_off ring [] = None
first_off ring (place ∷ places) = if lies_on ring place then first_off ring places else Some place

-- whether a place, where there is one, is within a ring
abbrev pub is_inside : List PlaceOf → Option PlaceOf → Bool
is_inside ring None = false
is_inside ring (Some place) = odd ring place

-- whether a ring holds another one: by the first place of that which does not lie on it
abbrev pub holds : List PlaceOf → List PlaceOf → Bool
holds ring other = is_inside ring (first_off ring other)

-- how many rings hold a ring
abbrev pub depth : List Ring → Ring → ℕ
depth rings ring = count_by (λ other. holds other ring) rings

-- an outer ring is held by an even number of rings
abbrev pub is_outer : List Ring → Ring → Bool
is_outer rings ring = depth rings ring % 2 == 0

-- whether a ring holds another one, and has a depth one less
abbrev pub owns : List Ring → Ring → Ring → Bool
owns rings ring other = holds ring other && (depth rings ring + 1 == depth rings other)

-- the ring that an inner ring belongs to: the lowest that holds it and has a depth one less, by its number
abbrev pub owner : List Ring → Ring → Option ℕ
owner rings other = position_from (λ ring. owns rings ring other) 0 rings

-- whether a number is this one
abbrev pub is_number : ℕ → Option ℕ → Bool
is_number number None = false
is_number number (Some other) = other == number

-- whether a ring is an inner one of the ring with a number
abbrev pub belongs : List Ring → ℕ → Ring → Bool
belongs rings number ring = not (is_outer rings ring) && is_number number (owner rings ring)

-- whether a ring is an outer one, or belongs to one
abbrev pub has_place : List Ring → Ring → Bool
has_place rings ring = is_outer rings ring || is_some (owner rings ring)

-- the ring with a number
abbrev pub ring_at : List Ring → ℕ → Ring
ring_at rings number = slice_index_or rings number []

-- the numbers of the outer rings, in order
abbrev pub outers : List Ring → List ℕ
outers rings = filter (λ number. is_outer rings (ring_at rings number)) (range_with_len 0 (length rings))

-- the polygon of an outer ring: it, followed by the rings that belong to it, in order
abbrev pub polygon : List Ring → ℕ → List Ring
polygon rings number = ring_at rings number ∷ filter (belongs rings number) rings

-- the polygons of rings: those of the outer rings in order. None where an inner ring belongs to no ring.
abbrev pub nested : List Ring → Option (List (List Ring))
nested rings = if list_all (has_place rings) rings then Some (map (polygon rings) (outers rings)) else None
