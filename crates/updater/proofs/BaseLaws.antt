-- Where there is nothing to differ from no difference is read.
use Rattle.std.proofs.Common.{◌≡◌, ℕ, ◌+◌, Bool, true, false, if◌then◌else◌, List, [], ◌∷◌, ◌++◌, Option, Some, None, Result}
use Rattle.std.proofs.Common.{Ok, Err, inl, inr, sym, subst}
use Rattle.osm_base.specs.declared.bounds.limits.LimitNumbers.{LimitNumbers}
use Rattle.osm_base.specs.declared.values.row.Row.{Row}
use Rattle.osm_base.specs.declared.values.row.RowChange.{RowChange}
use Rattle.osm_base.specs.map.Spots.{SpotOf}
use Rattle.style_read.specs.Reading.{reading}
use Rattle.style_read.specs.Style.{StyleOf}
use Rattle.style_read.specs.declared.fault.StylePart.{StylePart}
use Rattle.style_read.specs.declared.fault.StyleWhy.{StyleWhy}
use Rattle.style_read.specs.declared.style.TableDef.{TableDef}
use Rattle.delta_feed.specs.Blocks.{Comes, Follows, Found, goes_on, nothing, over, refused, whole}
use Rattle.delta_feed.specs.Stage.{block_by, is_next, style_for, tables_of, with_change}
use Rattle.delta_feed.specs.Turn.{Ends, IsRowLine, IsRowMore, IsSet, IsSetOn, IsTurn, held, opened, placed, style_line}
use Rattle.delta_feed.specs.Turn.{style_more, styled, styled_by}
use Rattle.delta_feed.specs.declared.block.Block.{Block}
use Rattle.delta_feed.specs.declared.block.Block.TheVariants as blocks
use Rattle.delta_feed.specs.declared.block.Head.{Head}
use Rattle.delta_feed.specs.declared.block.Head.TheVariants as heads
use Rattle.delta_feed.specs.declared.block.Rows.{Rows}
use Rattle.delta_feed.specs.declared.block.Stage.{Stage}
use Rattle.delta_feed.specs.declared.block.Stage.TheVariants as stages
use Rattle.delta_feed.specs.declared.fault.FeedWhy.{FeedWhy}
use Rattle.delta_feed.specs.declared.fault.FeedWhy.TheVariants as whys
use Rattle.delta_feed.specs.declared.line.FeedLine.{FeedLine}
use Rattle.delta_feed.specs.declared.line.FeedLine.TheVariants as lines
use Rattle.delta_feed.specs.declared.turn.Turn.{Turn}
use Rattle.delta_feed.specs.declared.turn.Turn.TheVariants as turns

-- a block with whole tables, so much of one, and what a line makes of it
abbrev pub IsWholeBlock : Block → Type 0
IsWholeBlock (blocks.Full version style_bytes style rows) = Unit {0}
IsWholeBlock (blocks.Delta delta) = ⊥

abbrev IsWholeHead : Head → Type 0
IsWholeHead (heads.Full version style_bytes style) = Unit {0}
IsWholeHead (heads.Delta version) = ⊥

abbrev IsWholeStage : Stage → Type 0
IsWholeStage stages.Between = Unit {0}
IsWholeStage (stages.Opened version) = Unit {0}
IsWholeStage (stages.Style version bytes) = Unit {0}
IsWholeStage (stages.Rows rows) = IsWholeHead rows.head
IsWholeStage (stages.Row rows spot bytes) = IsWholeHead rows.head

abbrev IsWholeTurn : Result Turn FeedWhy → Type 0
IsWholeTurn (Ok (turns.On stage)) = IsWholeStage stage
IsWholeTurn (Ok (turns.Whole block)) = IsWholeBlock block
IsWholeTurn (Ok turns.NoBase) = Unit {0}
IsWholeTurn (Err why) = Unit {0}

abbrev IsWholeFound : Found → Type 0
IsWholeFound nothing = Unit {0}
IsWholeFound (whole block number rest) = IsWholeBlock block
IsWholeFound (refused fault) = Unit {0}

is_so : (result own : Result Turn FeedWhy) → result ≡ own → IsWholeTurn own → IsWholeTurn result
is_so result own is so = subst IsWholeTurn (sym is) so

opened_whole : (line : FeedLine) → IsWholeTurn (opened None line)
opened_whole (lines.Full version) = tt
opened_whole (lines.Delta version) = tt
opened_whole (lines.Style bytes) = tt
opened_whole (lines.Set spot bytes) = tt
opened_whole (lines.Del spot) = tt
opened_whole (lines.More bytes) = tt
opened_whole lines.End = tt

styled_whole : (version : ℕ) (bytes : List ℕ) (more : Bool) → IsWholeTurn (styled version bytes more)
styled_whole version bytes true = tt
styled_whole version bytes false = by (reading bytes)
  where
    by : (read : Result StyleOf (StyleWhy × StylePart)) → IsWholeTurn (styled_by version bytes read)
    by (Ok style) = tt
    by (Err fault) = tt

style_whole : (version : ℕ) (line : FeedLine) (more : Bool) → IsWholeTurn (style_line version line more)
style_whole version (lines.Full own) more = tt
style_whole version (lines.Delta own) more = tt
style_whole version (lines.Style bytes) more = styled_whole version bytes more
style_whole version (lines.Set spot bytes) more = tt
style_whole version (lines.Del spot) more = tt
style_whole version (lines.More bytes) more = tt
style_whole version lines.End more = tt

more_whole : (version : ℕ) (front : List ℕ) (line : FeedLine) (more : Bool) → IsWholeTurn (style_more version front line more)
more_whole version front (lines.Full own) more = tt
more_whole version front (lines.Delta own) more = tt
more_whole version front (lines.Style bytes) more = tt
more_whole version front (lines.Set spot bytes) more = tt
more_whole version front (lines.Del spot) more = tt
more_whole version front (lines.More bytes) more = styled_whole version (front ++ bytes) more
more_whole version front lines.End more = tt

module _ (tables : List TableDef) (rows : Rows) (head : IsWholeHead rows.head) where
  placed_whole : (spot : SpotOf) (row : Option Row) → IsWholeTurn (placed rows spot row)
  placed_whole spot row = by (is_next rows.last spot)
    where
      by : (next : Bool) → IsWholeTurn (if next then Ok (turns.On (stages.Rows (with_change rows spot row))) else Err whys.Order)
      by true = head
      by false = tt

  held_whole : (spot : SpotOf) (bytes : List ℕ) → IsWholeTurn (held rows spot bytes)
  held_whole spot bytes = by (is_next rows.last spot)
    where
      by : (next : Bool) → IsWholeTurn (if next then Ok (turns.On (stages.Row rows spot bytes)) else Err whys.Order)
      by true = head
      by false = tt

  ends_whole : (spot : SpotOf) (bytes : List ℕ) (result : Result Turn FeedWhy) → Ends tables rows spot bytes result → IsWholeTurn result
  ends_whole spot bytes result (inl (none, is)) = is_so result (Err whys.Row) is tt
  ends_whole spot bytes result (inr (row, of, is)) = is_so result (placed rows spot (Some row)) is (placed_whole spot (Some row))

  set_whole : (spot : SpotOf) (bytes : List ℕ) (more : Bool) (result : Result Turn FeedWhy) → IsSet tables rows spot bytes more result
      → IsWholeTurn result
  set_whole spot bytes true result is = is_so result (held rows spot bytes) is (held_whole spot bytes)
  set_whole spot bytes false result is = ends_whole spot bytes result is

  set_on_whole : (spot : SpotOf) (bytes : List ℕ) (more : Bool) (result : Result Turn FeedWhy) → IsSetOn tables rows spot bytes more result
      → IsWholeTurn result
  set_on_whole spot bytes true result is = is_so result (Ok (turns.On (stages.Row rows spot bytes))) is head
  set_on_whole spot bytes false result is = ends_whole spot bytes result is

  block_whole : (own : Head) (changes : List RowChange) → IsWholeHead own → IsWholeBlock (block_by own changes)
  block_whole (heads.Full version style_bytes style) changes is = tt
  block_whole (heads.Delta version) changes is = is

  line_whole : (line : FeedLine) (more : Bool) (result : Result Turn FeedWhy) → IsRowLine tables rows line more result → IsWholeTurn result
  line_whole (lines.Full own) more result is = is_so result (Err whys.Form) is tt
  line_whole (lines.Delta own) more result is = is_so result (Err whys.Form) is tt
  line_whole (lines.Style bytes) more result is = is_so result (Err whys.Form) is tt
  line_whole (lines.Set spot bytes) more result is = set_whole spot bytes more result is
  line_whole (lines.Del spot) more result is = is_so result (placed rows spot None) is (placed_whole spot None)
  line_whole (lines.More bytes) more result is = is_so result (Err whys.Form) is tt
  line_whole lines.End more result is = is_so result (Ok (turns.Whole (block_by rows.head rows.changes))) is
      (block_whole rows.head rows.changes head)

  row_more_whole : (spot : SpotOf) (front : List ℕ) (line : FeedLine) (more : Bool) (result : Result Turn FeedWhy)
      → IsRowMore tables rows spot front line more result → IsWholeTurn result
  row_more_whole spot front (lines.Full own) more result is = is_so result (Err whys.Form) is tt
  row_more_whole spot front (lines.Delta own) more result is = is_so result (Err whys.Form) is tt
  row_more_whole spot front (lines.Style bytes) more result is = is_so result (Err whys.Form) is tt
  row_more_whole spot front (lines.Set at bytes) more result is = is_so result (Err whys.Form) is tt
  row_more_whole spot front (lines.Del at) more result is = is_so result (Err whys.Form) is tt
  row_more_whole spot front (lines.More bytes) more result is = set_on_whole spot (front ++ bytes) more result is
  row_more_whole spot front lines.End more result is = is_so result (Err whys.Form) is tt

turn_whole : (stage : Stage) (line : FeedLine) (more : Bool) (result : Result Turn FeedWhy) → IsWholeStage stage
    → IsTurn None stage line more result → IsWholeTurn result
turn_whole stages.Between line more result so is = is_so result (opened None line) is (opened_whole line)
turn_whole (stages.Opened version) line more result so is = is_so result (style_line version line more) is (style_whole version line more)
turn_whole (stages.Style version front) line more result so is =
    is_so result (style_more version front line more) is (more_whole version front line more)
turn_whole (stages.Rows rows) line more result so is = line_whole (tables_of (style_for rows.head None)) rows so line more result is
turn_whole (stages.Row rows spot front) line more result so is =
    row_more_whole (tables_of (style_for rows.head None)) rows so spot front line more result is

over_whole : (stage : Stage) (number : ℕ) → IsWholeFound (over stage number)
over_whole stages.Between number = tt
over_whole (stages.Opened version) number = tt
over_whole (stages.Style version bytes) number = tt
over_whole (stages.Rows rows) number = tt
over_whole (stages.Row rows spot bytes) number = tt

goes_whole : (limits : LimitNumbers) (number : ℕ) (rest : List (List ℕ)) (found : Found)
    → ((next : Stage) → IsWholeStage next → Comes limits None next number rest found → IsWholeFound found)
    → (result : Result Turn FeedWhy) → IsWholeTurn result
    → Follows (λ next own. Comes limits None next number rest own) number rest result found → IsWholeFound found
goes_whole limits number rest found on (Ok (turns.On next)) own follows = on next own follows
goes_whole limits number rest found on (Ok (turns.Whole block)) own follows = subst IsWholeFound (sym follows) own
goes_whole limits number rest found on (Ok turns.NoBase) own follows = subst IsWholeFound (sym follows) tt
goes_whole limits number rest found on (Err why) own follows = subst IsWholeFound (sym follows) tt

found_whole : (limits : LimitNumbers) (stage : Stage) (number : ℕ) (lines : List (List ℕ)) (found : Found) → IsWholeStage stage
    → Comes limits None stage number lines found → IsWholeFound found
unfolding Comes
found_whole limits stage number [] found so comes = subst IsWholeFound (sym comes) (over_whole stage number)
found_whole limits stage number (line ∷ rest) found so (inl (fault, at, is)) = subst IsWholeFound (sym is) tt
found_whole limits stage number (line ∷ rest) found so (inr (read, result, at, turn, follows)) =
    goes_whole limits (number + 1) rest found (λ next own comes. found_whole limits next (number + 1) rest found own comes)
    result (turn_whole stage read (goes_on read rest) result so turn) follows

-- a block that is read over nothing has whole tables
pub whole_over_none : (limits : LimitNumbers) (number later : ℕ) (lines rest : List (List ℕ)) (block : Block)
    → Comes limits None stages.Between number lines (whole block later rest) → IsWholeBlock block
whole_over_none limits number later lines rest block comes =
    found_whole limits stages.Between number lines (whole block later rest) tt comes
