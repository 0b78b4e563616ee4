-- The rows of a key: one in each table that has one of it, by rising number of the table.
-- osm2pgsql manual, "The Flex Output": each object is taken in turn, and becomes a row of each table that wants it.
use Rattle.std.specs.Prelude.{ℕ, ◌+◌, List, [], ◌∷◌, length, Option}
use Rattle.std.specs.List.{cons_option, filter_map, range_with_len}
use Rattle.std.specs.Option.{option_map}
use Rattle.osm_base.specs.declared.values.object.Object.{Object}
use Rattle.osm_base.specs.declared.values.row.Row.{Row}
use Rattle.osm_base.specs.declared.values.row.TableRow.{TableRow}
use Rattle.osm_base.specs.map.Known.{Known}
use Rattle.osm_base.specs.map.Objects.{ObjectSet}
use Rattle.osm_base.specs.values.Key.{KeyOf}
use Rattle.style_read.specs.declared.style.Selection.{Selection}
use Rattle.style_read.specs.declared.style.TableDef.{TableDef}
use Rattle.style_read.specs.Style.{StyleOf}
use Rattle.row_rules.specs.Material.{Material, material_known}
use Rattle.row_rules.specs.Row.{row, row_from, row_of}

-- a row of the table with a number, if there is one
abbrev pub in_table : ℕ → Option Row → Option TableRow
in_table table found = option_map (λ row. record { table = table; row = row }) found

-- the rows of the tables whose numbers are below a count
abbrev pub rows_below : (ℕ → Option Row) → ℕ → List TableRow
rows_below row count = filter_map (λ table. in_table table (row table)) (range_with_len 0 count)

-- the rows of a key out of what is known of a map
unfoldable pub rows_known : StyleOf → Known → KeyOf → List TableRow
rows_known style known key = rows_below (λ table. row_from style table (material_known style known key) key) (length style.tables)

-- the rows of a key in a map with these objects
unfoldable pub rows_in : StyleOf → ObjectSet → KeyOf → List TableRow
rows_in style objects key = rows_below (λ table. row style objects table key) (length style.tables)

-- the rows of an object in tables that are numbered from a number on
abbrev pub rows_from : List Selection → Material → KeyOf → Object → ℕ → List TableDef → List TableRow
rows_from selections from key object number [] = []
rows_from selections from key object number (table ∷ tables) =
    cons_option (in_table number (row_of selections from table key object)) (rows_from selections from key object (number + 1) tables)
