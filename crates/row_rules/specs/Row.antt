-- The rows of all tables: what each table says of a map.
-- osm2pgsql manual, "The Flex Output": each object of a map is taken in turn, and becomes a row of each table that wants it.
use Rattle.std.specs.Prelude.{ℕ, Bool, ◌&&◌, List, length, map, if◌then◌else◌, Option, None}
use Rattle.std.specs.FinMap as finite
use Rattle.std.specs.List.{filter_map, flat_map, range_with_len, slice_get}
use Rattle.std.specs.Option.{option_and_then, option_map}
use Rattle.osm_base.specs.declared.values.object.Object.{Object}
use Rattle.osm_base.specs.declared.values.row.Cell.{Cell}
use Rattle.osm_base.specs.declared.values.row.Geometry.{Geometry}
use Rattle.osm_base.specs.declared.values.row.Row.{Row}
use Rattle.osm_base.specs.values.Key.{KeyOf}
use Rattle.osm_base.specs.map.Objects.{ObjectSet}
use Rattle.osm_base.specs.map.Spots.{SpotOf, TableMap}
use Rattle.style_read.specs.declared.style.Selection.{Selection}
use Rattle.style_read.specs.declared.style.TableDef.{TableDef}
use Rattle.style_read.specs.Style.{StyleOf}
use Rattle.row_rules.specs.Cell.{cell_of}
use Rattle.row_rules.specs.Condition.{table_wants}
use Rattle.row_rules.specs.Material.{Material, is_selected, material_of}
use Rattle.row_rules.specs.Objects.{is_of_kind, tags_of}
use Rattle.row_rules.specs.Shape.{geometry_of}

-- whether the conditions of a table hold of an object
abbrev pub wants : Material → TableDef → Object → Bool
wants from table object = table_wants (is_selected from.selecting) (tags_of object) table

-- the cells of a row, in the order of the columns
abbrev pub cells_of : List Selection → Material → TableDef → Object → List Cell
cells_of selections from table object = map (cell_of selections from.selecting (tags_of object)) table.columns

-- a row with these cells, where there is a geometry
abbrev pub with_geometry : List Cell → Option Geometry → Option Row
with_geometry cells geometry = option_map (λ shape. record { cells = cells; geometry = shape }) geometry

-- the row of an object in a table: where its kind fits the source, the conditions hold and the geometry is defined
abbrev pub row_of : List Selection → Material → TableDef → KeyOf → Object → Option Row
row_of selections from table key object =
    if is_of_kind key.kind object && wants from table object
    then with_geometry (cells_of selections from table object) (geometry_of from.place from.object table.source object)
    else None

-- the row of a key in the table with a number, out of what rows are made of. A key without an object has none.
abbrev pub row_from : StyleOf → ℕ → Material → KeyOf → Option Row
row_from style table from key =
    option_and_then (λ definition. option_and_then (row_of style.selections from definition key) (from.object key))
    (slice_get style.tables table)

-- `row`: the row of a key in the table with a number, in a map with these objects
abbrev pub row : StyleOf → ObjectSet → ℕ → KeyOf → Option Row
row style objects table key = row_from style table (material_of style objects key) key

-- a row and where it stands, if there is one
abbrev pub entry : StyleOf → ObjectSet → ℕ → KeyOf → Option (SpotOf × Row)
entry style objects table key = option_map (λ row. (record { table = table; key = key }, row)) (row style objects table key)

-- the rows of one table, by rising key
abbrev pub table_rows : StyleOf → ObjectSet → ℕ → List (SpotOf × Row)
table_rows style objects table = filter_map (entry style objects table) (finite.keys objects)

-- `tables`: the rows of all tables, over all objects of a map
abbrev pub tables : StyleOf → ObjectSet → TableMap
tables style objects = finite.from_entries (flat_map (table_rows style objects) (range_with_len 0 (length style.tables)))
