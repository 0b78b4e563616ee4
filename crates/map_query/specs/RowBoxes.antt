-- Boxes that are kept beside rows.
-- OGC Simple Feature Access, "Envelope": the least and the greatest longitude and latitude of a geometry.
use Rattle.std.specs.Prelude.{◌≡◌, ℕ, List, [], ◌∷◌, flat_map, Option, None, Some}
use Rattle.std.specs.FinMap as finite
use Rattle.osm_base.specs.declared.values.place.GeoBox.{GeoBox}
use Rattle.osm_base.specs.declared.values.row.Row.{Row}
use Rattle.osm_base.specs.map.Spots.{SpotOf, TableMap}
use Rattle.lanes_geo.specs.Box.{box_of}
use Rattle.grid_index.specs.Grid.{BoxMap, with_box}
use Rattle.osm_base.specs.values.Key.{KeyOf}
use Rattle.map_query.specs.Answer.{only, places_of}

-- the box of a row that may be there; a row without a place has none
abbrev pub box_in : Option Row → Option GeoBox
box_in None = None
box_in (Some row) = box_of (places_of row.geometry)

-- boxes are just those of the rows of tables
abbrev pub IsBoxed : TableMap → BoxMap → Type 0
IsBoxed tables boxes = (spot : SpotOf) → finite.get boxes spot ≡ box_in (finite.get tables spot)

-- the rows that objects have in a table
abbrev pub rows_at : TableMap → (table : ℕ) → List KeyOf → List (KeyOf × Row)
rows_at tables table keys = flat_map (λ key. only key (finite.get tables (record { table = table; key = key }))) keys

-- the boxes of rows, of which the first at a spot counts
abbrev pub boxes_from : List (SpotOf × Row) → BoxMap
boxes_from [] = finite.empty
boxes_from (entry ∷ rows) = with_box (boxes_from rows) entry.0.table entry.0.key (box_in (Some entry.1))
