-- What holds of each block that is read: what who applies it may take without a second look.
use Rattle.std.specs.Prelude.{◌≡◌, ◌<◌, ◌≤◌, ℕ, List, [], ◌∷◌, ◌++◌, length, true, Option, None, Some, Ok}
use Rattle.osm_base.specs.declared.values.row.Row.{Row}
use Rattle.osm_base.specs.declared.values.row.RowChange.{RowChange}
use Rattle.osm_base.specs.map.Spots.{SpotOf, spot_of}
use Rattle.value_bytes.specs.Row.{IsRow}
use Rattle.store_maps.specs.Rows.{columns_in}
use Rattle.style_read.specs.Reading.{reading}
use Rattle.style_read.specs.Style.{StyleOf}
use Rattle.style_read.specs.declared.style.TableDef.{TableDef}
use Rattle.delta_feed.specs.Line.{verb_of}
use Rattle.delta_feed.specs.Stage.{is_next, style_for, tables_of}
use Rattle.delta_feed.specs.declared.block.Block.{Block}
use Rattle.delta_feed.specs.declared.block.Block.TheVariants as blocks
use Rattle.delta_feed.specs.declared.block.Head.{Head}
use Rattle.delta_feed.specs.declared.block.Head.TheVariants as heads
use Rattle.delta_feed.specs.declared.block.Rows.{Rows}
use Rattle.delta_feed.specs.declared.block.Stage.{Stage}
use Rattle.delta_feed.specs.declared.block.Stage.TheVariants as stages
use Rattle.delta_feed.specs.declared.line.FeedLine.{FeedLine}
use Rattle.delta_feed.specs.declared.line.FeedLine.TheVariants as lines
use Rattle.delta_feed.specs.declared.place.Verb.{Verb}
use Rattle.delta_feed.specs.declared.turn.Turn.{Turn}
use Rattle.delta_feed.specs.declared.turn.Turn.TheVariants as turns
use Rattle.delta_feed.specs.declared.words.TheConstants.{LAST_VERSION}

-- a row of a table of these, with a cell for each of its columns
pub record IsTableRow (tables : List TableDef) (table : ℕ) (row : Row) : Type 0 where
  pub there : table < length tables
  pub is : IsRow (columns_in tables table) row

-- where a row stands, it is one of its table
abbrev pub IsRowIn : List TableDef → (table : ℕ) → Option Row → Type 0
IsRowIn tables table None = Unit {0}
IsRowIn tables table (Some row) = IsTableRow tables table row

-- changes by strictly rising spots, behind this one: no spot stands twice. Each row is one of its table.
abbrev pub AreRising : List TableDef → Option SpotOf → List RowChange → Type 0
AreRising tables last [] = Unit {0}
AreRising tables last (change ∷ changes) =
    IsRowIn tables change.table change.row × (is_next last (spot_of change) ≡ true) × AreRising tables (Some (spot_of change)) changes

-- in whole tables a row stands at each spot
abbrev pub IsThere : Option Row → Type 0
IsThere None = ⊥
IsThere (Some row) = Unit {0}

abbrev pub AllThere : List RowChange → Type 0
AllThere [] = Unit {0}
AllThere (change ∷ changes) = IsThere change.row × AllThere changes

-- a block whose style is that of its text, and whose rows are rows of that style, or of the one of who reads it
pub record IsFull (version : ℕ) (style_bytes : List ℕ) (style : StyleOf) (rows : List RowChange) : Type 0 where
  pub version_fits : version ≤ LAST_VERSION
  pub read : reading style_bytes ≡ Ok style
  pub rising : AreRising style.tables None rows
  pub there : AllThere rows

pub record IsDelta (tables : List TableDef) (version : ℕ) (changes : List RowChange) : Type 0 where
  pub version_fits : version ≤ LAST_VERSION
  pub rising : AreRising tables None changes

abbrev pub IsSound : Option StyleOf → Block → Type 0
IsSound base (blocks.Full version style_bytes style rows) = IsFull version style_bytes style rows
IsSound base (blocks.Delta delta) = IsDelta (tables_of base) delta.version delta.changes

-- ---- on the way there

-- a version in a line is in its range
abbrev pub IsFitLine : FeedLine → Type 0
IsFitLine (lines.Full version) = version ≤ LAST_VERSION
IsFitLine (lines.Delta version) = version ≤ LAST_VERSION
IsFitLine line = Unit {0}

abbrev pub IsSoundHead : Head → Type 0
IsSoundHead (heads.Full version style_bytes style) = (version ≤ LAST_VERSION) × (reading style_bytes ≡ Ok style)
IsSoundHead (heads.Delta version) = version ≤ LAST_VERSION

-- in whole tables each is there
abbrev pub AreThere : Head → List RowChange → Type 0
AreThere (heads.Full version style_bytes style) changes = AllThere changes
AreThere (heads.Delta version) changes = Unit {0}

-- so many rows: whatever rises behind the last one, all rise
pub record AreSound (base : Option StyleOf) (rows : Rows) : Type 0 where
  pub head : IsSoundHead rows.head
  pub rising : (later : List RowChange) → AreRising (tables_of (style_for rows.head base)) rows.last later
      → AreRising (tables_of (style_for rows.head base)) None (rows.changes ++ later)
  pub there : AreThere rows.head rows.changes

abbrev pub IsSoundStage : Option StyleOf → Stage → Type 0
IsSoundStage base stages.Between = Unit {0}
IsSoundStage base (stages.Opened version) = version ≤ LAST_VERSION
IsSoundStage base (stages.Style version bytes) = version ≤ LAST_VERSION
IsSoundStage base (stages.Rows rows) = AreSound base rows
IsSoundStage base (stages.Row rows spot bytes) = AreSound base rows × (is_next rows.last spot ≡ true)

abbrev pub IsSoundTurn : Option StyleOf → Turn → Type 0
IsSoundTurn base (turns.On stages.Between) = ⊥
IsSoundTurn base (turns.On stage) = IsSoundStage base stage
IsSoundTurn base (turns.Whole block) = IsSound base block
IsSoundTurn base turns.NoBase = Unit {0}

-- a line fits, and its first word is this one
pub record IsLineOf (verb : Verb) (read : FeedLine) : Type 0 where
  pub fits : IsFitLine read
  pub says : verb_of read ≡ verb
