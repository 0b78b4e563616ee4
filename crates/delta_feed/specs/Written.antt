-- What may be written so that it is read again.
use Rattle.std.specs.Prelude.{◌≡◌, ◌<◌, ◌≤◌, ℕ, ◌+◌, List, [], ◌∷◌, length, map, Option, None, Some}
use Rattle.osm_base.specs.declared.bounds.limits.LimitNumbers.{LimitNumbers}
use Rattle.osm_base.specs.declared.values.row.Row.{Row}
use Rattle.osm_base.specs.declared.values.row.RowChange.{RowChange}
use Rattle.osm_base.specs.map.Spots.{SpotOf}
use Rattle.osm_base.specs.values.Key.{IsId}
use Rattle.value_bytes.specs.Row.{IsRow}
use Rattle.store_maps.specs.Rows.{columns_in}
use Rattle.style_read.specs.declared.style.TableDef.{TableDef}
use Rattle.delta_feed.specs.Blocks.{limit_at}
use Rattle.delta_feed.specs.Stage.{change_at}
use Rattle.delta_feed.specs.declared.words.TheConstants.{TABLES}

-- a spot that a line may tell
pub record IsTold (spot : SpotOf) : Type 0 where
  pub table : spot.table ≤ TABLES
  pub id : IsId spot.key.id

-- a row of a table that has a spelling
pub record IsWritable (tables : List TableDef) (table : ℕ) (row : Row) : Type 0 where
  pub is : IsRow (columns_in tables table) row
  pub there : table < length tables

abbrev pub IsWritableRow : List TableDef → (table : ℕ) → Option Row → Type 0
IsWritableRow tables table None = Unit {0}
IsWritableRow tables table (Some row) = IsWritable tables table row

-- what stands at spots
abbrev pub AreWritable : List TableDef → List (SpotOf × Option Row) → Type 0
AreWritable tables [] = Unit {0}
AreWritable tables (entry ∷ entries) = IsTold entry.0 × IsWritableRow tables entry.0.table entry.1 × AreWritable tables entries

-- the changes that it makes
abbrev pub changes_of : List (SpotOf × Option Row) → List RowChange
changes_of entries = map (λ entry. change_at entry.0 entry.1) entries

-- lines behind so many others pass no limit
abbrev pub AreWithin : LimitNumbers → (number : ℕ) → List (List ℕ) → Type 0
AreWithin limits number [] = Unit {0}
AreWithin limits number (line ∷ lines) = (limit_at limits number line ≡ None) × AreWithin limits (number + 1) lines
