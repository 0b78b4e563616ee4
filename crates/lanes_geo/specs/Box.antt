-- Boxes of longitudes and latitudes, their sides included.
-- OGC Simple Feature Access, "Envelope": the least and the greatest longitude and latitude of a geometry.
use Rattle.std.specs.Prelude.{Bool, ◌&&◌, ℤ, List, [], ◌∷◌, map, int_le, Some, None, Option, ◌≤ℤ◌}
use Rattle.std.specs.Int.{int_min, int_max}
use Rattle.std.specs.List.{fold}
use Rattle.osm_base.specs.values.Place.{PlaceOf}
use Rattle.osm_base.specs.declared.values.place.GeoBox.{GeoBox}

-- whether two spans, their ends included, have a number in common
abbrev pub overlap : ℤ → ℤ → ℤ → ℤ → Bool
overlap low high other_low other_high = int_le other_low high && int_le low other_high

-- whether two boxes have a place in common
abbrev pub meets : GeoBox → GeoBox → Bool
meets asked box = overlap asked.west asked.east box.west box.east && overlap asked.south asked.north box.south box.north

-- the least and the greatest longitude and latitude of places
abbrev pub box_of : List PlaceOf → Option GeoBox
box_of [] = None
box_of (place ∷ places) = Some (record {
  west = fold int_min place.lon (map (λ other. other.lon) places);
  south = fold int_min place.lat (map (λ other. other.lat) places);
  east = fold int_max place.lon (map (λ other. other.lon) places);
  north = fold int_max place.lat (map (λ other. other.lat) places);
})

-- a place lies in a box
pub record IsWithin (box : GeoBox) (place : PlaceOf) : Type 0 where
  pub west : box.west ≤ℤ place.lon
  pub south : box.south ≤ℤ place.lat
  pub east : place.lon ≤ℤ box.east
  pub north : place.lat ≤ℤ box.north
