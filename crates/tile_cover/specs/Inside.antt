-- Geometries that lie within one tile, on none of its sides.
use Rattle.std.specs.Prelude.{ℕ, ◌<◌, ◌<ℤ◌, All, List, length}
use Rattle.osm_base.specs.values.Place.{PlaceOf}
use Rattle.osm_base.specs.declared.values.place.GeoBox.{GeoBox}
use Rattle.osm_base.specs.declared.values.row.Geometry.{Geometry}
use Rattle.osm_base.specs.declared.values.row.Geometry.TheVariants.{Point, Line, Lines, Area}
use Rattle.tile_cover.specs.Tile.{segments_of, widened}

-- a place lies strictly between the sides of a box
pub record IsBetween (box : GeoBox) (place : PlaceOf) : Type 0 where
  pub west : box.west <ℤ place.lon
  pub east : place.lon <ℤ box.east
  pub south : box.south <ℤ place.lat
  pub north : place.lat <ℤ box.north

-- it does with its longitude taken as often as there are columns, and all places of a line, and of lines
abbrev pub IsInside : ℕ → GeoBox → PlaceOf → Type 0
IsInside columns box place = IsBetween box (widened columns place)

abbrev pub IsLineInside : ℕ → GeoBox → List PlaceOf → Type 0
IsLineInside columns box places = All (IsInside columns box) places

abbrev pub AreLinesInside : ℕ → GeoBox → List (List PlaceOf) → Type 0
AreLinesInside columns box lines = All (IsLineInside columns box) lines

-- all places of a geometry do
abbrev pub AreInside : ℕ → GeoBox → Geometry → Type 0
AreInside columns box (Point place) = IsInside columns box place
AreInside columns box (Line places) = IsLineInside columns box places
AreInside columns box (Lines lines) = AreLinesInside columns box lines
AreInside columns box (Area polygons) = All (AreLinesInside columns box) polygons

-- a geometry has a segment, however many columns there are
abbrev pub HasSegment : Geometry → Type 0
HasSegment geometry = (columns : ℕ) → 0 < length (segments_of columns geometry)
