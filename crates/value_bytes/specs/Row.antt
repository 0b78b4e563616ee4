-- A row in bytes: its cells from left to right, and its geometry. How many cells there are is not told.
use Rattle.std.specs.Prelude.{ℕ, List, ◌++◌}
use Rattle.osm_base.specs.declared.values.row.Row.{Row}
use Rattle.value_bytes.specs.Forms.{all_bytes, AreMany}
use Rattle.value_bytes.specs.Rows.{cell_bytes, IsCell, geometry_bytes, IsGeometry}

unfoldable pub row_bytes : Row → List ℕ
row_bytes row = all_bytes cell_bytes row.cells ++ geometry_bytes row.geometry

-- a row of so many cells that has a spelling
pub record IsRow (columns : ℕ) (row : Row) : Type 0 where
  pub cells : AreMany columns IsCell row.cells
  pub geometry : IsGeometry row.geometry
