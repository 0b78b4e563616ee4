-- What becomes of the rows of keys that are built anew.
-- osm2pgsql manual, "Updating an Existing Database": the rows of a changed object are deleted, and it is written anew.
use Rattle.std.specs.Prelude.{◌≡◌, ℕ, Bool, not, ◌||◌, List, length, map}
use Rattle.std.specs.List.{list_any, range_with_len}
use Rattle.osm_base.specs.declared.values.row.TableRow.{TableRow}
use Rattle.osm_base.specs.values.Key.{KeyOf}
use Rattle.row_rules.specs.Rows.{rows_below}
use Rattle.style_read.specs.Style.{StyleOf}
use Rattle.tile_cover.specs.Table.{BoundsOf}
use Rattle.store_maps.specs.Delta.{row_in}
use Rattle.store_maps.specs.Maps.{Maps}
use Rattle.store_maps.specs.SameRows.{same_found}
use Rattle.store_maps.specs.Stands.{HoldsRows}
use Rattle.store_maps.specs.Told.{told_all}
use Rattle.update_step.specs.Due.{Tiles, is_due_key}
use Rattle.update_step.specs.Lacking.{AreLacking}
use Rattle.update_step.specs.declared.turns.Turns.{Turns}

-- whether the rows of a key differ in a table
abbrev pub is_turned_in : (old new : List TableRow) → ℕ → Bool
is_turned_in old new table = not (same_found (row_in old table) (row_in new table))

-- and whether they do in one of so many tables
abbrev pub is_turned : ℕ → (old new : List TableRow) → Bool
is_turned tables old new = list_any (is_turned_in old new) (range_with_len 0 tables)

-- of these keys it is told how their rows differ, what that makes due is due beside what was, and of each key whether its rows differ
pub record AreTurns (style : StyleOf) (bounds : BoundsOf) (keys : List KeyOf) (old new : KeyOf → List TableRow) (was is : Tiles)
    (turns : Turns) : Type 0 where
  pub told : turns.changes ≡ told_all (length style.tables) old new keys
  pub due : (zoom x y : ℕ) → is zoom x y
      ≡ (was zoom x y || list_any (λ key. is_due_key style bounds (old key) (new key) zoom x y) keys)
  pub turned : turns.turned.items ≡ map (λ key. is_turned (length style.tables) (old key) (new key)) keys

-- rows of so many tables at most, by rising numbers of these
abbrev pub IsByTable : ℕ → List TableRow → Type 0
IsByTable tables rows = rows_below (row_in rows) tables ≡ rows

-- the maps hold these rows, each key's by table, and such keys have none
pub record HadRows (tables : ℕ) (lacking : List KeyOf) (maps : Maps) (rows : KeyOf → List TableRow) : Type 0 where
  pub held : HoldsRows maps rows
  pub none : AreLacking rows lacking
  pub by_table : (own : KeyOf) → IsByTable tables (rows own)

-- the maps hold the old rows, each key's by table; of each of these keys it is told whether they differ from its new ones, which are these
pub record HasTurned (tables : ℕ) (maps : Maps) (keys : List KeyOf) (old new : KeyOf → List TableRow) (turned : List Bool)
    (news : List (List TableRow)) : Type 0 where
  pub held : HoldsRows maps old
  pub by_table : (own : KeyOf) → IsByTable tables (old own)
  pub told : turned ≡ map (λ key. is_turned tables (old key) (new key)) keys
  pub are : news ≡ map new keys
