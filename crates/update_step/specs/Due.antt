-- The tiles that a change of the objects makes due.
-- osm2pgsql manual, "Tile Expiry": a tile expires where an object that was added, changed or deleted touches it, as the object was and
-- as it is. A row that is there before and not equally after counts, and so does one that is there after and not equally before.
use Rattle.std.specs.Prelude.{ℕ, Bool, false, not, ◌&&◌, ◌||◌, List, ◌++◌, length, slice_get, Option, Some}
use Rattle.std.specs.List.{list_any, range_with_len}
use Rattle.std.specs.FinMap as finite
use Rattle.osm_base.specs.declared.values.row.Row.{Row}
use Rattle.osm_base.specs.declared.values.row.TableRow.{TableRow}
use Rattle.osm_base.specs.map.Objects.{ObjectSet}
use Rattle.osm_base.specs.map.Spots.{SpotOf, TableMap}
use Rattle.row_rules.specs.Row.{tables}
use Rattle.style_read.specs.declared.style.TableDef.{TableDef}
use Rattle.style_read.specs.Style.{StyleOf}
use Rattle.store_maps.specs.Delta.{row_in}
use Rattle.tile_cover.specs.Table.{BoundsOf}
use Rattle.tile_cover.specs.Tile.{is_covered}
use Rattle.store_maps.specs.SameRows.{same_found}

-- tiles as a set: of a zoom, a column and a row whether the tile is in it
abbrev pub Tiles : Type 0
Tiles = ℕ → ℕ → ℕ → Bool

abbrev pub no_tiles : Tiles
no_tiles zoom x y = false

abbrev pub both : Tiles → Tiles → Tiles
both one other zoom x y = one zoom x y || other zoom x y

-- whether a row, if there is one, meets a tile under the mode of its table
abbrev pub met_under : Option TableDef → BoundsOf → Option Row → Tiles
met_under (Some definition) bounds (Some row) zoom x y = is_covered bounds row.geometry definition.mode zoom x y
met_under _ _ _ zoom x y = false

-- whether two rows of a table differ, and one of them meets a tile
abbrev pub differs_at : StyleOf → BoundsOf → ℕ → (old new : Option Row) → Tiles
differs_at style bounds table old new zoom x y =
    not (same_found old new)
    && (met_under (slice_get style.tables table) bounds old zoom x y || met_under (slice_get style.tables table) bounds new zoom x y)

-- so at a spot of two sets of tables
abbrev pub is_due_at : StyleOf → BoundsOf → (old new : TableMap) → ℕ → ℕ → ℕ → SpotOf → Bool
is_due_at style bounds old new zoom x y spot = differs_at style bounds spot.table (finite.get old spot) (finite.get new spot) zoom x y

-- the tiles that are met by a row of one of two sets of tables that the other has not
unfoldable pub due_of : StyleOf → BoundsOf → (old new : TableMap) → Tiles
due_of style bounds old new zoom x y = list_any (is_due_at style bounds old new zoom x y) (finite.keys old ++ finite.keys new)

-- those that are due once these objects have become those
abbrev pub due_between : StyleOf → BoundsOf → (old new : ObjectSet) → Tiles
due_between style bounds old new = due_of style bounds (tables style old) (tables style new)

-- so among the rows of a key in a table, and in all tables
abbrev pub is_due_in : StyleOf → BoundsOf → (old new : List TableRow) → ℕ → ℕ → ℕ → ℕ → Bool
is_due_in style bounds old new zoom x y table = differs_at style bounds table (row_in old table) (row_in new table) zoom x y

abbrev pub is_due_key : StyleOf → BoundsOf → (old new : List TableRow) → Tiles
is_due_key style bounds old new zoom x y = list_any (is_due_in style bounds old new zoom x y) (range_with_len 0 (length style.tables))
