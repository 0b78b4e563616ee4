-- What of a block was read, and where its next line stands.
use Rattle.std.specs.Prelude.{List, [], ◌∷◌, ◌++◌, Bool, true, Option, None, Some}
use Rattle.std.specs.Ordering.{is_lt}
use Rattle.osm_base.specs.declared.values.row.Row.{Row}
use Rattle.osm_base.specs.declared.values.row.RowChange.{RowChange}
use Rattle.osm_base.specs.map.Spots.{SpotOf, spot_cmp}
use Rattle.style_read.specs.Style.{StyleOf}
use Rattle.style_read.specs.declared.style.TableDef.{TableDef}
use Rattle.delta_feed.specs.declared.block.Block.{Block}
use Rattle.delta_feed.specs.declared.block.Block.TheVariants as blocks
use Rattle.delta_feed.specs.declared.block.Head.{Head}
use Rattle.delta_feed.specs.declared.block.Head.TheVariants as heads
use Rattle.delta_feed.specs.declared.block.Rows.{Rows}
use Rattle.delta_feed.specs.declared.block.Stage.{Stage}
use Rattle.delta_feed.specs.declared.block.Stage.TheVariants as stages
use Rattle.delta_feed.specs.declared.place.Place.{Place}
use Rattle.delta_feed.specs.declared.place.Place.TheVariants as places

-- where the rows of a block stand
abbrev pub rows_place : Head → Place
rows_place (heads.Full version style_bytes style) = places.Full
rows_place (heads.Delta version) = places.Delta

-- where the next line stands
abbrev pub place_of : Stage → Place
place_of stages.Between = places.Between
place_of (stages.Opened version) = places.Opened
place_of (stages.Style version bytes) = places.Begun
place_of (stages.Rows rows) = rows_place rows.head
place_of (stages.Row rows spot bytes) = places.Begun

-- no row of a block was read yet
abbrev pub no_rows : Head → Rows
no_rows head = record { head = head; changes = []; last = None }

-- what stands at a spot from now on
abbrev pub change_at : SpotOf → Option Row → RowChange
change_at spot row = record { table = spot.table; key = spot.key; row = row }

-- with one row more
abbrev pub with_change : Rows → SpotOf → Option Row → Rows
with_change rows spot row = record { head = rows.head; changes = rows.changes ++ change_at spot row ∷ []; last = Some spot }

-- a spot comes behind the one before it
abbrev pub is_next : Option SpotOf → SpotOf → Bool
is_next None spot = true
is_next (Some last) spot = is_lt (spot_cmp last spot)

-- the block that a head and its rows make
abbrev pub block_by : Head → List RowChange → Block
block_by (heads.Full version style_bytes style) changes = blocks.Full version style_bytes style changes
block_by (heads.Delta version) changes = blocks.Delta (record { version = version; changes = changes })

abbrev pub block_of : Rows → Block
block_of rows = block_by rows.head rows.changes

-- the style of the rows of a block: that of whole tables is their own, and that of a difference the one of who reads it
abbrev pub style_for : Head → Option StyleOf → Option StyleOf
style_for (heads.Full version style_bytes style) base = Some style
style_for (heads.Delta version) base = base

-- the tables of a style, if there is one
abbrev pub tables_of : Option StyleOf → List TableDef
tables_of None = []
tables_of (Some style) = style.tables
