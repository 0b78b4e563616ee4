-- Which rows of a key the tables of a style may have.
use Rattle.std.specs.Prelude.{◌≡◌, ◌+◌, ◌<◌, ◌≤◌, ℕ, List, [], ◌∷◌, length, slice_get}
use Rattle.std.specs.Option.{option_map_or}
use Rattle.std.specs.List.{AllByRecursion}
use Rattle.osm_base.specs.declared.values.row.TableRow.{TableRow}
use Rattle.style_read.specs.declared.style.TableDef.{TableDef}

-- how many columns a table has
abbrev pub columns_in : List TableDef → ℕ → ℕ
columns_in tables table = option_map_or (λ definition. length definition.columns) (slice_get tables table) 0

-- each is of a table with at least this number, and of a later one than the row before it
abbrev pub RiseFrom : ℕ → List TableRow → Type 0
RiseFrom least [] = Unit {0}
RiseFrom least (row ∷ rows) = (least ≤ row.table) × RiseFrom (row.table + 1) rows

abbrev pub AreRising : List TableRow → Type 0
AreRising rows = RiseFrom 0 rows

-- a row of one of these tables, with a cell for each of its columns
pub record Fits (tables : List TableDef) (row : TableRow) : Type 0 where
  pub there : row.table < length tables
  pub cells : length row.row.cells ≡ columns_in tables row.table

-- rows that may be kept: at least one, each in a later table than the one before it
pub record AreKept (tables : List TableDef) (rows : List TableRow) : Type 0 where
  pub some : 1 ≤ length rows
  pub rising : AreRising rows
  pub each : AllByRecursion (Fits tables) rows
