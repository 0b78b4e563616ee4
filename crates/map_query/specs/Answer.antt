-- What a query finds in tables.
-- osm2pgsql manual, "The Flex Output": a table has the rows of its objects. OGC Simple Feature Access, "Envelope": the least and the
-- greatest longitude and latitude of a geometry.
use Rattle.std.specs.Prelude.{ℕ, Bool, false, List, [], ◌∷◌, filter, flat_map, length, map, Option, None, Some}
use Rattle.std.specs.Int.{int_min, int_max}
use Rattle.std.specs.Option.{option_map_or}
use Rattle.std.specs.FinMap as finite
use Rattle.osm_base.specs.declared.values.place.GeoBox.{GeoBox}
use Rattle.osm_base.specs.declared.values.row.Geometry.{Geometry}
use Rattle.osm_base.specs.declared.values.row.Geometry.TheVariants.{Point, Line, Lines, Area}
use Rattle.osm_base.specs.declared.values.row.NumberedRow.{NumberedRow}
use Rattle.osm_base.specs.declared.values.row.Row.{Row}
use Rattle.osm_base.specs.map.Spots.{TableMap}
use Rattle.osm_base.specs.values.Key.{KeyOf}
use Rattle.osm_base.specs.values.Place.{PlaceOf}
use Rattle.lanes_geo.specs.Box.{box_of, meets}
use Rattle.row_text.specs.Numbered.{rows_by_number, rows_of}
use Rattle.row_text.specs.Table.{has_areas, row_number}
use Rattle.style_read.specs.Style.{StyleOf}
use Rattle.map_query.specs.declared.answering.Found.{Found}
use Rattle.map_query.specs.declared.answering.Found.TheVariants as finds
use Rattle.map_query.specs.declared.query.Query.{Query}
use Rattle.map_query.specs.declared.query.Query.TheVariants.{Count, One, Box}

-- the places of several lines
abbrev pub line_places : List (List PlaceOf) → List PlaceOf
line_places lines = flat_map (λ line. line) lines

-- the places of a geometry
abbrev pub places_of : Geometry → List PlaceOf
places_of (Point place) = place ∷ []
places_of (Line places) = places
places_of (Lines lines) = line_places lines
places_of (Area polygons) = flat_map line_places polygons

-- the box around two boxes
abbrev pub around : GeoBox → GeoBox → GeoBox
around one other = record {
  west = int_min one.west other.west;
  south = int_min one.south other.south;
  east = int_max one.east other.east;
  north = int_max one.north other.north;
}

-- the same, where they are there
abbrev pub joined_boxes : Option GeoBox → Option GeoBox → Option GeoBox
joined_boxes None other = other
joined_boxes (Some one) None = Some one
joined_boxes (Some one) (Some other) = Some (around one other)

-- a box, where it is there, has a place in common with an asked one
abbrev pub near : GeoBox → Option GeoBox → Bool
near asked box = option_map_or (meets asked) box false

-- the box of a row has a place in common with an asked one
abbrev pub is_in : GeoBox → Row → Bool
is_in asked row = near asked (box_of (places_of row.geometry))

-- rows of a table with their numbers
abbrev pub numbered : StyleOf → (table : ℕ) → List (KeyOf × Row) → List NumberedRow
numbered style table rows = map (λ (key, row). record { number = row_number style table key; row = row }) rows

-- the row of an object, if there is one
abbrev pub only : KeyOf → Option Row → List (KeyOf × Row)
only key None = []
only key (Some row) = (key, row) ∷ []

abbrev pub row_at : StyleOf → TableMap → (table : ℕ) → KeyOf → List NumberedRow
row_at style tables table key = numbered style table (only key (finite.get tables (record { table = table; key = key })))

-- the rows in a box, by rising numbers
abbrev pub found_in : StyleOf → TableMap → (table : ℕ) → GeoBox → List NumberedRow
found_in style tables table asked =
    numbered style table (filter (λ (key, row). is_in asked row) (rows_by_number (has_areas style table) tables table))

-- the answer to a query
abbrev pub answer : StyleOf → TableMap → Query → Found
answer style tables (Count table) = finds.Count (length (rows_of tables table))
answer style tables (One table key) = finds.Rows (row_at style tables table key)
answer style tables (Box table asked) = finds.Rows (found_in style tables table asked)
