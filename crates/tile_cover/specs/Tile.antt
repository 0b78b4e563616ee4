-- Which tiles a geometry meets.
-- osm2pgsql manual, "Tile Expiry": a tile expires where a geometry touches it, and in mode full-area also where an area covers it.
-- Sides of columns are compared after multiplying by the number of columns, so that all is told in whole numbers. A tile is
-- closed: a place on a corner meets four.
use Rattle.std.specs.Prelude.{ℕ, ◌+◌, ◌*◌, ◌^◌, ◌%◌, ◌==◌, ℤ, pos, ◌+ℤ◌, ◌*ℤ◌, int_lt, nat_lt, Bool, true, false, not, ◌&&◌, ◌||◌, List, []}
use Rattle.std.specs.Prelude.{◌∷◌, map, count_by}
use Rattle.std.specs.Int.{int_min, int_max}
use Rattle.std.specs.List.{list_any, list_all, flat_map}
use Rattle.osm_base.specs.values.Place.{PlaceOf}
use Rattle.osm_base.specs.declared.values.place.TheConstants.{MAX_LON}
use Rattle.osm_base.specs.declared.values.place.GeoBox.{GeoBox}
use Rattle.osm_base.specs.declared.values.row.Geometry.{Geometry}
use Rattle.osm_base.specs.declared.values.row.Geometry.TheVariants.{Point, Line, Lines, Area}
use Rattle.style_read.specs.declared.style.Mode.{Mode}
use Rattle.style_read.specs.declared.style.Mode.TheVariants.{Boundary, Full}
use Rattle.lanes_geo.specs.Box.{meets}
use Rattle.lanes_geo.specs.Crossing.{Segment, segments, across, along, crosses}
use Rattle.tile_cover.specs.Table.{BoundsOf, boundary}

-- a place with its longitude counted from the antimeridian on, and taken as often as there are columns
abbrev pub widened : ℕ → PlaceOf → PlaceOf
widened columns place = record { lon = (place.lon +ℤ MAX_LON) *ℤ pos columns; lat = place.lat }

-- the western side of a column, so taken
abbrev pub side : ℕ → ℤ
side column = pos (column * 3600000000)

-- a tile between two latitudes
abbrev pub box_between : ℤ → ℤ → ℕ → GeoBox
box_between south north column = record { west = side column; south = south; east = side (column + 1); north = north }

-- the tile in a column and a row
abbrev pub tile_box : BoundsOf → ℕ → ℕ → GeoBox
tile_box table column row = box_between (boundary table (row + 1)) (boundary table row) column

abbrev pub north_west : GeoBox → PlaceOf
north_west box = record { lon = box.west; lat = box.north }

abbrev pub corners : GeoBox → List PlaceOf
corners box =
    record { lon = box.west; lat = box.south } ∷ (record { lon = box.west; lat = box.north } ∷
    (record { lon = box.east; lat = box.south } ∷ (record { lon = box.east; lat = box.north } ∷ [])))

-- the box of a segment
abbrev pub segment_box : Segment → GeoBox
segment_box segment = record {
  west = int_min segment.start.lon segment.end.lon;
  south = int_min segment.start.lat segment.end.lat;
  east = int_max segment.start.lon segment.end.lon;
  north = int_max segment.start.lat segment.end.lat;
}

-- whether a place is strictly on one side of the line of a segment, and on the other one
abbrev pub is_on_one_side : Segment → PlaceOf → Bool
is_on_one_side segment place = int_lt (across place segment) (along place segment)

abbrev pub is_on_other_side : Segment → PlaceOf → Bool
is_on_other_side segment place = int_lt (along place segment) (across place segment)

-- whether a box and a segment share a point: the segment's own box meets the box, and the corners of the box are not all
-- strictly on one side of the segment's line
abbrev pub touches : GeoBox → Segment → Bool
touches box segment =
    meets (segment_box segment) box
    && (not (list_all (is_on_one_side segment) (corners box)) && not (list_all (is_on_other_side segment) (corners box)))

-- the segments of a line, and of all lines and rings of a geometry. A place is a segment without length.
abbrev pub line_segments : ℕ → List PlaceOf → List Segment
line_segments columns places = segments (map (widened columns) places)

abbrev pub lines_segments : ℕ → List (List PlaceOf) → List Segment
lines_segments columns lines = flat_map (line_segments columns) lines

abbrev pub segments_of : ℕ → Geometry → List Segment
segments_of columns (Point place) = line_segments columns (place ∷ (place ∷ []))
segments_of columns (Line places) = line_segments columns places
segments_of columns (Lines lines) = lines_segments columns lines
segments_of columns (Area polygons) = flat_map (lines_segments columns) polygons

-- whether the segments of all rings that cross the latitude of the north west corner strictly east of it are odd in number
abbrev pub is_filled : GeoBox → List Segment → Bool
is_filled box all = count_by (crosses (north_west box)) all % 2 == 1

-- whether filled tiles count: those of an area, in mode full
abbrev pub counts_filled : Geometry → Mode → Bool
counts_filled (Point place) mode = false
counts_filled (Line places) mode = false
counts_filled (Lines lines) mode = false
counts_filled (Area polygons) Boundary = false
counts_filled (Area polygons) Full = true

abbrev pub meets_box : Bool → GeoBox → List Segment → Bool
meets_box filled box all = list_any (touches box) all || (filled && is_filled box all)

-- whether a geometry meets a tile, in a mode
abbrev pub met : BoundsOf → ℕ → ℕ → Geometry → Mode → Bool
met table column row geometry mode = meets_box (counts_filled geometry mode) (tile_box table column row)
    (segments_of (2 ^ table.zoom) geometry)

-- the same of any three numbers: the zoom is the table's, and there is such a tile
abbrev pub is_covered : BoundsOf → Geometry → Mode → ℕ → ℕ → ℕ → Bool
is_covered table geometry mode zoom column row =
    (zoom == table.zoom) && ((nat_lt column (2 ^ table.zoom) && nat_lt row (2 ^ table.zoom)) && met table column row geometry mode)
