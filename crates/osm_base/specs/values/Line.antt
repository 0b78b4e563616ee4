-- Lines, the ends of a line, and the lines that bound an area.
-- OGC Simple Features, "Curve": a line that ends where it begins is closed; "LinearRing": a ring is a closed line, so it has at
-- least four points, the last one counted.
use Rattle.std.specs.Prelude.{◌≡◌, ◌-◌, ◌≤◌, Bool, true, ◌&&◌, pos, List, length, slice_index_or}
use Rattle.std.specs.Ordering.{int_eq}
use Rattle.osm_base.specs.values.Place.{PlaceOf}

-- a line, or a piece of one: its points in order
abbrev pub Line : Type 0
Line = List PlaceOf

-- whether two places are one
abbrev pub same_place : PlaceOf → PlaceOf → Bool
same_place place other = int_eq place.lon other.lon && int_eq place.lat other.lat

-- the end that a list without points is said to have
abbrev pub no_place : PlaceOf
no_place = record { lon = pos 0; lat = pos 0 }

-- the two ends of a line
abbrev pub first_place : Line → PlaceOf
first_place line = slice_index_or line 0 no_place

abbrev pub last_place : Line → PlaceOf
last_place line = slice_index_or line (length line - 1) no_place

-- whether a line ends where it begins
abbrev pub is_closed : Line → Bool
is_closed line = same_place (first_place line) (last_place line)

-- a line that may bound an area
pub record IsRing (ring : Line) : Type 0 where
  pub points : 4 ≤ length ring
  pub closed : is_closed ring ≡ true
