-- How often the half line that runs east from a place crosses a ring.
-- OGC Simple Feature Access, "Polygon": a polygon has its interior on one side of its rings, so that a half line from a place
-- within it leaves it once more than it enters it.
use Rattle.std.specs.Prelude.{ℕ, ◌%◌, ◌==◌, Bool, true, false, List, [], ◌∷◌, ℤ, ◌-ℤ◌, ◌*ℤ◌, int_lt, if◌then◌else◌, count_by}
use mathlib.Core.Bool.{beq}
use Rattle.osm_base.specs.values.Place.{PlaceOf}

-- a segment from its start to its end
pub record Segment : Type 0 where
  pub start : PlaceOf
  pub end : PlaceOf

-- the segments of a line that goes on from a place
abbrev pub segments_from : PlaceOf → List PlaceOf → List Segment
segments_from start [] = []
segments_from start (end ∷ rest) = record { start = start; end = end } ∷ segments_from end rest

-- the segments of a line or a ring: from each place to the one after it
abbrev pub segments : List PlaceOf → List Segment
segments [] = []
segments (start ∷ rest) = segments_from start rest

-- whether one end of a segment is north of a place and the other one is not
abbrev pub straddles : PlaceOf → Segment → Bool
straddles place segment =
    if beq (int_lt place.lat segment.start.lat) (int_lt place.lat segment.end.lat) then false else true

-- the two products whose order says on which side of a segment a place is
abbrev pub across : PlaceOf → Segment → ℤ
across place segment = (place.lon -ℤ segment.start.lon) *ℤ (segment.end.lat -ℤ segment.start.lat)

abbrev pub along : PlaceOf → Segment → ℤ
along place segment = (segment.end.lon -ℤ segment.start.lon) *ℤ (place.lat -ℤ segment.start.lat)

-- whether a segment crosses the latitude of a place strictly east of it
abbrev pub crosses : PlaceOf → Segment → Bool
crosses place segment =
    if straddles place segment
    then (if int_lt segment.start.lat segment.end.lat
    then int_lt (across place segment) (along place segment)
    else int_lt (along place segment) (across place segment))
    else false

-- how many segments of a ring cross the latitude of a place strictly east of it
abbrev pub crossings : List PlaceOf → PlaceOf → ℕ
crossings ring place = count_by (crosses place) (segments ring)

-- whether they are odd in number
abbrev pub odd : List PlaceOf → PlaceOf → Bool
odd ring place = crossings ring place % 2 == 1
