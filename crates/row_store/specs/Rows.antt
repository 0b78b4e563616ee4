-- The rows of an object in bytes, one table after another: the number of the table from 0, and the row.
use Rattle.std.specs.Prelude.{◌<◌, ◌≤◌, ℕ, List, ◌++◌, length}
use Rattle.std.specs.List.{AllByRecursion}
use Rattle.osm_base.specs.declared.values.row.TableRow.{TableRow}
use Rattle.style_read.specs.declared.style.TableDef.{TableDef}
use Rattle.store_maps.specs.Rows.{AreRising, columns_in}
use Rattle.value_bytes.specs.Forms.{all_bytes}
use Rattle.value_bytes.specs.Numbers.{number_bytes}
use Rattle.value_bytes.specs.Row.{row_bytes, IsRow}

-- the number of a table, and the row
unfoldable pub table_row_bytes : TableRow → List ℕ
table_row_bytes row = number_bytes row.table ++ row_bytes row.row

-- a row of one of these tables, with a cell for each of its columns, that has a spelling
pub record IsTableRow (tables : List TableDef) (row : TableRow) : Type 0 where
  pub there : row.table < length tables
  pub spelled : IsRow (columns_in tables row.table) row.row

-- the rows of an object
abbrev pub rows_bytes : List TableRow → List ℕ
rows_bytes rows = all_bytes table_row_bytes rows

-- rows of these tables that have a spelling, at least one
pub record AreRows (tables : List TableDef) (rows : List TableRow) : Type 0 where
  pub some : 1 ≤ length rows
  pub rising : AreRising rows
  pub each : AllByRecursion (IsTableRow tables) rows

-- rows of these tables that have a spelling, in whatever order
abbrev pub AreSpelled : List TableDef → List TableRow → Type 0
AreSpelled tables rows = AllByRecursion (IsTableRow tables) rows
