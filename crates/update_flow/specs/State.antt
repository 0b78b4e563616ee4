-- What a store stands for, and the steps that take it further.
-- osm2pgsql manual, "Slim Mode" and "Updating an Existing Database": an import fills the store, and each append brings it from one
-- change file to the next.
use Rattle.std.specs.Prelude.{ℕ, ◌+◌, ◌==◌, nat_le, if◌then◌else◌, List, Bool, true, false, Option, None, Some}
use Rattle.std.specs.FinMap as finite
use Rattle.osm_base.specs.declared.values.object.Entry.{Entry}
use Rattle.osm_base.specs.declared.values.row.RowChange.{RowChange}
use Rattle.osm_base.specs.map.Objects.{ObjectSet, folded_all}
use Rattle.osm_base.specs.map.Spots.{TableMap, changed_all}
use Rattle.style_read.specs.Style.{StyleOf}
use Rattle.tile_cover.specs.Table.{BoundsOf}
use Rattle.delta_feed.specs.declared.block.Block.{Block}
use Rattle.delta_feed.specs.declared.block.Block.TheVariants as blocks
use Rattle.update_flow.specs.Due.{Tiles, no_tiles, both, due_between}

-- what an imported store holds: objects under a style, the number of changes since the import, and the tiles that are due; and
-- the bytes of the style, and how many buckets each of its maps has
pub record Holding : Type 0 where
  pub style : StyleOf
  pub style_bytes : List ℕ
  pub buckets : ℕ
  pub objects : ObjectSet
  pub changes : ℕ
  pub due : Tiles

-- what a follower's store holds: the tables of another store alone, with their style, its bytes, and the number of changes that they
-- have seen; and how many buckets each of its maps has
pub record Following : Type 0 where
  pub style : StyleOf
  pub style_bytes : List ℕ
  pub buckets : ℕ
  pub tables : TableMap
  pub version : ℕ

-- a store was only made; or it was imported; or it was imported by a program of before the tags of nodes were kept, and has that
-- program's format; or it follows another one
pub data State : Type 0 where
  formatted : State
  imported : Holding → State
  outdated : Holding → State
  following : Following → State

-- the first import of these objects, a change of them with the boundaries by which tiles are due, the clearing of due tiles, the
-- writing of an old store in the format of today, and a block of a feed that a follower takes
pub data Step : Type 0 where
  Import : StyleOf → (style_bytes : List ℕ) → (buckets : ℕ) → List Entry → Step
  Append : BoundsOf → List Entry → Step
  Clear : Step
  Migrate : Step
  Follow : Block → Step

-- an import of these entries into an empty store
abbrev pub fresh : StyleOf → List ℕ → ℕ → List Entry → Holding
fresh style style_bytes buckets entries = record {
  style = style;
  style_bytes = style_bytes;
  buckets = buckets;
  objects = folded_all finite.empty entries;
  changes = 0;
  due = no_tiles;
}

-- a change, one number higher; the tiles that it makes due join those that are due already
abbrev pub changed : BoundsOf → List Entry → Holding → Holding
changed bounds change held = record held {
  objects = folded_all held.objects change;
  changes = held.changes + 1;
  due = both held.due (due_between held.style bounds held.objects (folded_all held.objects change));
}

-- no tile is due
abbrev pub cleared : Holding → Holding
cleared held = record held { due = no_tiles }

-- how many buckets the maps of a follower's store get
abbrev pub follower_buckets : ℕ
follower_buckets = 1024

-- whole tables, in so many buckets
abbrev pub taken_whole : (buckets version : ℕ) → List ℕ → StyleOf → List RowChange → Following
taken_whole buckets version style_bytes style rows = record {
  style = style;
  style_bytes = style_bytes;
  buckets = buckets;
  tables = changed_all finite.empty rows;
  version = version;
}

-- a follower with a block more: whole tables of a later version take the place of those that stand, what the next change made of the
-- tables is done to them, and any other block leaves them
abbrev pub followed : Following → Block → Following
followed held (blocks.Full version style_bytes style rows) =
    if nat_le version held.version then held else taken_whole held.buckets version style_bytes style rows
followed held (blocks.Delta delta) =
    if delta.version == held.version + 1
    then (record held { tables = changed_all held.tables delta.changes; version = delta.version })
    else held

-- the state after a step. An import stands first and nowhere else; an old store was changed and cleared by the program that made
-- it; a follower begins with whole tables; a step that cannot be taken changes nothing.
abbrev pub after : State → Step → State
after formatted (Import style style_bytes buckets entries) = imported (fresh style style_bytes buckets entries)
after (imported held) (Append bounds change) = imported (changed bounds change held)
after (imported held) Clear = imported (cleared held)
after (outdated held) (Append bounds change) = outdated (changed bounds change held)
after (outdated held) Clear = outdated (cleared held)
after (outdated held) Migrate = imported held
after formatted (Follow (blocks.Full version style_bytes style rows)) =
    following (taken_whole follower_buckets version style_bytes style rows)
after (following held) (Follow block) = following (followed held block)
after state _ = state

-- the number of changes since the import, or that the tables of a follower have seen; whether there was an import, or the tables of another
-- store were taken; whether it is of the old format; and its style
abbrev pub changes_in : State → ℕ
changes_in formatted = 0
changes_in (imported held) = held.changes
changes_in (outdated held) = held.changes
changes_in (following held) = held.version

abbrev pub was_imported : State → Bool
was_imported formatted = false
was_imported (imported held) = true
was_imported (outdated held) = true
was_imported (following held) = true

abbrev pub was_old : State → Bool
was_old formatted = false
was_old (imported held) = false
was_old (outdated held) = true
was_old (following held) = false

abbrev pub style_in : State → Option StyleOf
style_in formatted = None
style_in (imported held) = Some held.style
style_in (outdated held) = Some held.style
style_in (following held) = Some held.style

-- whether it follows another one
abbrev pub follows : State → Bool
follows formatted = false
follows (imported held) = false
follows (outdated held) = false
follows (following held) = true
