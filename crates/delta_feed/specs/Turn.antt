-- What a line makes of a block of which so much was read.
-- What a row is spelled as is said by value_bytes and not calculated, so this is said and not calculated where a row ends.
use Rattle.std.specs.Prelude.{◌≡◌, ◌⊎◌, ◌<◌, ◌≤◌, ℕ, List, length, ◌++◌, Bool, true, false, if◌then◌else◌, Option, None, Some, Result, Ok, Err}
use Rattle.osm_base.specs.declared.values.row.Row.{Row}
use Rattle.osm_base.specs.map.Spots.{SpotOf}
use Rattle.value_bytes.specs.Row.{row_bytes, IsRow}
use Rattle.store_maps.specs.Rows.{columns_in}
use Rattle.style_read.specs.Reading.{reading}
use Rattle.style_read.specs.Style.{StyleOf}
use Rattle.style_read.specs.declared.fault.StylePart.{StylePart}
use Rattle.style_read.specs.declared.fault.StyleWhy.{StyleWhy}
use Rattle.style_read.specs.declared.style.TableDef.{TableDef}
use Rattle.value_bytes.specs.Forms.{IsNoValue, Spells}
use Rattle.delta_feed.specs.Stage.{block_of, is_next, no_rows, style_for, tables_of, with_change}
use Rattle.delta_feed.specs.declared.block.Head.TheVariants as heads
use Rattle.delta_feed.specs.declared.block.Rows.{Rows}
use Rattle.delta_feed.specs.declared.block.Stage.{Stage}
use Rattle.delta_feed.specs.declared.block.Stage.TheVariants as stages
use Rattle.delta_feed.specs.declared.fault.FeedWhy.{FeedWhy}
use Rattle.delta_feed.specs.declared.fault.FeedWhy.TheVariants as whys
use Rattle.delta_feed.specs.declared.line.FeedLine.{FeedLine}
use Rattle.delta_feed.specs.declared.line.FeedLine.TheVariants as lines
use Rattle.delta_feed.specs.declared.turn.Turn.{Turn}
use Rattle.delta_feed.specs.declared.turn.Turn.TheVariants as turns

-- bytes are those of a row of this table
pub record IsRowOf (tables : List TableDef) (table : ℕ) (bytes : List ℕ) (row : Row) : Type 0 where
  pub there : table < length tables
  pub spells : Spells row_bytes (IsRow (columns_in tables table)) bytes row

-- or of none
abbrev pub IsNoRow : List TableDef → (table : ℕ) → List ℕ → Type 0
IsNoRow tables table bytes = (length tables ≤ table) ⊎ IsNoValue row_bytes (IsRow (columns_in tables table)) bytes

-- a block begins: whole tables, or a difference, where there is something that it differs from
abbrev pub opened : Option StyleOf → FeedLine → Result Turn FeedWhy
opened base (lines.Full version) = Ok (turns.On (stages.Opened version))
opened None (lines.Delta version) = Ok turns.NoBase
opened (Some base) (lines.Delta version) = Ok (turns.On (stages.Rows (no_rows (heads.Delta version))))
opened base line = Err whys.Form

-- the style of whole tables, where its bytes end
abbrev pub styled_by : (version : ℕ) → List ℕ → Result StyleOf (StyleWhy × StylePart) → Result Turn FeedWhy
styled_by version bytes (Ok style) = Ok (turns.On (stages.Rows (no_rows (heads.Full version bytes style))))
styled_by version bytes (Err fault) = Err whys.Row

-- these bytes of it, which may go on
abbrev pub styled : (version : ℕ) → List ℕ → (goes_on : Bool) → Result Turn FeedWhy
styled version bytes true = Ok (turns.On (stages.Style version bytes))
styled version bytes false = styled_by version bytes (reading bytes)

-- its first line, and a later one
abbrev pub style_line : (version : ℕ) → FeedLine → (goes_on : Bool) → Result Turn FeedWhy
style_line version (lines.Style bytes) goes_on = styled version bytes goes_on
style_line version line goes_on = Err whys.Form

abbrev pub style_more : (version : ℕ) → (front : List ℕ) → FeedLine → (goes_on : Bool) → Result Turn FeedWhy
style_more version front (lines.More bytes) goes_on = styled version (front ++ bytes) goes_on
style_more version front line goes_on = Err whys.Form

-- a row, or none, is what stands at a spot, which comes behind the one before it
abbrev pub placed : Rows → SpotOf → Option Row → Result Turn FeedWhy
placed rows spot row = if is_next rows.last spot then Ok (turns.On (stages.Rows (with_change rows spot row))) else Err whys.Order

-- the first bytes of a row at a spot, which comes behind the one before it
abbrev pub held : Rows → SpotOf → List ℕ → Result Turn FeedWhy
held rows spot bytes = if is_next rows.last spot then Ok (turns.On (stages.Row rows spot bytes)) else Err whys.Order

-- the bytes of a row have ended
abbrev pub Ends : List TableDef → Rows → SpotOf → List ℕ → Result Turn FeedWhy → Type 0
Ends tables rows spot bytes result = (IsNoRow tables spot.table bytes × (result ≡ Err whys.Row))
    ⊎ ((row : Row) × IsRowOf tables spot.table bytes row × (result ≡ placed rows spot (Some row)))

-- a row is set by these bytes, which may go on
abbrev pub IsSet : List TableDef → Rows → SpotOf → List ℕ → (goes_on : Bool) → Result Turn FeedWhy → Type 0
IsSet tables rows spot bytes true result = result ≡ held rows spot bytes
IsSet tables rows spot bytes false result = Ends tables rows spot bytes result

-- the bytes of a row went on to be these, and may go on
abbrev pub IsSetOn : List TableDef → Rows → SpotOf → List ℕ → (goes_on : Bool) → Result Turn FeedWhy → Type 0
IsSetOn tables rows spot bytes true result = result ≡ Ok (turns.On (stages.Row rows spot bytes))
IsSetOn tables rows spot bytes false result = Ends tables rows spot bytes result

-- what a line makes of rows
abbrev pub IsRowLine : List TableDef → Rows → FeedLine → (goes_on : Bool) → Result Turn FeedWhy → Type 0
IsRowLine tables rows (lines.Set spot bytes) goes_on result = IsSet tables rows spot bytes goes_on result
IsRowLine tables rows (lines.Del spot) goes_on result = result ≡ placed rows spot None
IsRowLine tables rows lines.End goes_on result = result ≡ Ok (turns.Whole (block_of rows))
IsRowLine tables rows line goes_on result = result ≡ Err whys.Form

-- and of the first bytes of a row, whose spot came behind the one before it when its line was taken
abbrev pub IsRowMore : List TableDef → Rows → SpotOf → (front : List ℕ) → FeedLine → (goes_on : Bool) → Result Turn FeedWhy → Type 0
IsRowMore tables rows spot front (lines.More bytes) goes_on result = IsSetOn tables rows spot (front ++ bytes) goes_on result
IsRowMore tables rows spot front line goes_on result = result ≡ Err whys.Form

-- what a line makes of so much of a block, read over this style, where the next line may carry its bytes on
abbrev pub IsTurn : Option StyleOf → Stage → FeedLine → (goes_on : Bool) → Result Turn FeedWhy → Type 0
IsTurn base stages.Between line goes_on result = result ≡ opened base line
IsTurn base (stages.Opened version) line goes_on result = result ≡ style_line version line goes_on
IsTurn base (stages.Style version front) line goes_on result = result ≡ style_more version front line goes_on
IsTurn base (stages.Rows rows) line goes_on result = IsRowLine (tables_of (style_for rows.head base)) rows line goes_on result
IsTurn base (stages.Row rows spot front) line goes_on result =
    IsRowMore (tables_of (style_for rows.head base)) rows spot front line goes_on result
