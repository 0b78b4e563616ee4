-- The rows of tables in the order of their numbers, as they stand in memory.
use Rattle.std.specs.Prelude.{◌≡◌, ◌<◌, ℕ, length, List, [], ◌∷◌, drop, filter, map, take, Option, None}
use Rattle.std.specs.List.{fold}
use Rattle.osm_base.specs.declared.values.place.GeoBox.{GeoBox}
use Rattle.osm_base.specs.map.Spots.{TableMap}
use Rattle.osm_base.specs.values.Key.{KeyOf}
use Rattle.osm_base.specs.declared.values.row.NumberedRow.{NumberedRow}
use Rattle.osm_base.specs.declared.values.row.Row.{Row}
use Rattle.row_text.specs.Numbered.{rows_by_number}
use Rattle.row_text.specs.Table.{has_areas}
use Rattle.style_read.specs.Style.{StyleOf}
use Rattle.map_query.specs.Answer.{is_in, joined_boxes, numbered}
use Rattle.map_query.specs.declared.blocks.TheConstants.{BLOCK}
use Rattle.map_query.specs.declared.boxed.BoxedRow.{BoxedRow}
use Rattle.map_query.specs.declared.ordered.TableRows.{TableRows}

-- a row with its key
abbrev pub seen : BoxedRow → KeyOf × Row
seen own = (own.key, own.row.now)

-- the box around rows
abbrev pub around_rows : List BoxedRow → Option GeoBox
around_rows rows = fold joined_boxes None (map (λ own. own.around) rows)

-- these are the boxes around rows, of each BLOCK of them
abbrev pub AreBlocks : List (Option GeoBox) → List BoxedRow → Type 0
AreBlocks [] rows = rows ≡ []
AreBlocks (box ∷ boxes) rows = (0 < length rows) × (box ≡ around_rows (take BLOCK rows)) × AreBlocks boxes (drop BLOCK rows)

-- these are the rows of their table, and the boxes around their blocks
pub record IsTable (style : StyleOf) (tables : TableMap) (own : TableRows) : Type 0 where
  pub rows : map seen own.rows.items ≡ rows_by_number (has_areas style own.table) tables own.table
  pub blocks : AreBlocks own.blocks.items own.rows.items

-- those of the rows of a table whose boxes have a place in common with an asked one, with their numbers
abbrev pub met : StyleOf → (table : ℕ) → GeoBox → List BoxedRow → List NumberedRow
met style table asked rows = numbered style table (filter (λ own. is_in asked own.1) (map seen rows))
