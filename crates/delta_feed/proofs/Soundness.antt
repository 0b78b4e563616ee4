-- What is read stays sound, line by line.
use Rattle.std.proofs.Common.{◌≡◌, ◌≤◌, ℕ, Bool, true, false, List, [], ◌∷◌, ◌++◌, Ok, Err, Result, Option, Some, None, refl, sym, ◌∙◌, subst, inl, inr, append_assoc, append-nil}
use Rattle.osm_base.specs.declared.values.row.Row.{Row}
use Rattle.osm_base.specs.declared.values.row.RowChange.{RowChange}
use Rattle.osm_base.specs.map.Spots.{SpotOf}
use Rattle.style_read.specs.Reading.{reading}
use Rattle.style_read.specs.Style.{StyleOf}
use Rattle.style_read.specs.declared.fault.StylePart.{StylePart}
use Rattle.style_read.specs.declared.fault.StyleWhy.{StyleWhy}
use Rattle.delta_feed.specs.Line.{verb_of}
use Rattle.delta_feed.specs.Place.{may_stand}
use Rattle.delta_feed.specs.Sound.{AreRising, AreSound, AreThere, IsFitLine, IsRowIn, IsSound, IsSoundHead, IsSoundStage, IsSoundTurn}
use Rattle.delta_feed.specs.Stage.{block_by, block_of, change_at, is_next, no_rows, place_of, style_for, tables_of, with_change}
use Rattle.delta_feed.specs.Turn.{Ends, IsRowLine, IsRowMore, IsSet, IsSetOn, IsTurn, held, opened, placed, style_line, style_more, styled, styled_by}
use Rattle.delta_feed.specs.declared.block.Head.{Head}
use Rattle.delta_feed.specs.declared.block.Head.TheVariants as heads
use Rattle.delta_feed.specs.declared.block.Rows.{Rows}
use Rattle.delta_feed.specs.declared.block.Stage.{Stage}
use Rattle.delta_feed.specs.declared.block.Stage.TheVariants as stages
use Rattle.delta_feed.specs.declared.fault.FeedWhy.{FeedWhy}
use Rattle.delta_feed.specs.declared.line.FeedLine.{FeedLine}
use Rattle.delta_feed.specs.declared.line.FeedLine.TheVariants as lines
use Rattle.delta_feed.specs.declared.turn.Turn.{Turn}
use Rattle.delta_feed.specs.declared.turn.Turn.TheVariants as turns
use Rattle.delta_feed.specs.declared.words.TheConstants.{LAST_VERSION}

-- a turn that is told is the one that was made
abbrev told : Turn → Result Turn FeedWhy
told turn = Ok turn

made : (base : Option StyleOf) (one other : Turn) → told one ≡ told other → IsSoundTurn base other → IsSoundTurn base one
made base one other same sound = subst (IsSoundTurn base) (sym (cc same)) sound

-- one row more

there_more : (head : Head) (changes : List RowChange) (change : RowChange) → AreThere head changes → AreThere head (change ∷ []) → AreThere head (changes ++ change ∷ [])
there_more (heads.Full version bytes style) [] change there one = one
there_more (heads.Full version bytes style) (first ∷ changes) change there one =
    (there.0, there_more (heads.Full version bytes style) changes change there.1 one)
there_more (heads.Delta version) changes change there one = tt

one_more : (base : Option StyleOf) (rows : Rows) (spot : SpotOf) (row : Option Row) → AreSound base rows → is_next rows.last spot ≡ true
    → IsRowIn (tables_of (style_for rows.head base)) spot.table row → AreThere rows.head (change_at spot row ∷ [])
    → AreSound base (with_change rows spot row)
one_more base rows spot row sound next is there = record {
  head = sound.head;
  rising = λ later rise. subst (AreRising (tables_of (style_for rows.head base)) None)
      (sym (append_assoc rows.changes (change_at spot row ∷ []) later)) (sound.rising (change_at spot row ∷ later) (is, next, rise));
  there = there_more rows.head rows.changes (change_at spot row) sound.there there;
}

placed_sound : (base : Option StyleOf) (rows : Rows) (spot : SpotOf) (row : Option Row) (turn : Turn) → AreSound base rows
    → IsRowIn (tables_of (style_for rows.head base)) spot.table row → AreThere rows.head (change_at spot row ∷ [])
    → (test : Bool) → is_next rows.last spot ≡ test → Ok turn ≡ placed rows spot row → IsSoundTurn base turn
placed_sound base rows spot row turn sound is there true next same =
    made base turn (turns.On (stages.Rows (with_change rows spot row))) (same ∙ rw next refl) (one_more base rows spot row sound next is there)
placed_sound base rows spot row turn sound is there false next same = absurd (cc (same, next))

held_sound : (base : Option StyleOf) (rows : Rows) (spot : SpotOf) (bytes : List ℕ) (turn : Turn) → AreSound base rows
    → (test : Bool) → is_next rows.last spot ≡ test → Ok turn ≡ held rows spot bytes → IsSoundTurn base turn
held_sound base rows spot bytes turn sound true next same =
    made base turn (turns.On (stages.Row rows spot bytes)) (same ∙ rw next refl) (sound, next)
held_sound base rows spot bytes turn sound false next same = absurd (cc (same, next))

some_there : (head : Head) (spot : SpotOf) (row : Row) → AreThere head (change_at spot (Some row) ∷ [])
some_there (heads.Full version bytes style) spot row = (tt, tt)
some_there (heads.Delta version) spot row = tt

ends_sound : (base : Option StyleOf) (rows : Rows) (spot : SpotOf) (bytes : List ℕ) (turn : Turn) → AreSound base rows
    → Ends (tables_of (style_for rows.head base)) rows spot bytes (Ok turn) → IsSoundTurn base turn
ends_sound base rows spot bytes turn sound (inl (none, same)) = absurd (cc same)
ends_sound base rows spot bytes turn sound (inr (row, is, same)) =
    placed_sound base rows spot (Some row) turn sound (record { there = is.there; is = is.spells.is }) (some_there rows.head spot row)
    (is_next rows.last spot) refl same

gone_there : (head : Head) (spot : SpotOf) (rest : Bool) → may_stand (place_of (stages.Rows (no_rows head))) (verb_of (lines.Del spot)) ≡ true
    → AreThere head (change_at spot None ∷ [])
gone_there (heads.Full version bytes style) spot rest stands = absurd (cc stands)
gone_there (heads.Delta version) spot rest stands = tt

-- a whole block
whole_sound : (base : Option StyleOf) (head : Head) (changes : List RowChange) → IsSoundHead head
    → AreRising (tables_of (style_for head base)) None changes → AreThere head changes → IsSound base (block_by head changes)
whole_sound base (heads.Full version bytes style) changes sound rising there =
    record { version_fits = sound.0; read = sound.1; rising = rising; there = there }
whole_sound base (heads.Delta version) changes sound rising there = record { version_fits = sound; rising = rising }

block_sound : (base : Option StyleOf) (rows : Rows) → AreSound base rows → IsSound base (block_of rows)
block_sound base rows sound = whole_sound base rows.head rows.changes sound.head
    (subst (AreRising (tables_of (style_for rows.head base)) None) (append-nil rows.changes) (sound.rising [] tt)) sound.there

-- a head and no row
none_sound : (base : Option StyleOf) (head : Head) → IsSoundHead head → AreSound base (no_rows head)
none_sound base (heads.Full version bytes style) sound = record { head = sound; rising = λ later rise. rise; there = tt }
none_sound base (heads.Delta version) sound = record { head = sound; rising = λ later rise. rise; there = tt }

-- the lines of a style
styled_by_sound : (base : Option StyleOf) (version : ℕ) (bytes : List ℕ) (read : Result StyleOf (StyleWhy × StylePart)) (turn : Turn) → version ≤ LAST_VERSION
    → reading bytes ≡ read → Ok turn ≡ styled_by version bytes read → IsSoundTurn base turn
styled_by_sound base version bytes (Ok style) turn fits is same =
    made base turn (turns.On (stages.Rows (no_rows (heads.Full version bytes style)))) same (none_sound base (heads.Full version bytes style) (fits, is))
styled_by_sound base version bytes (Err fault) turn fits is same = absurd (cc same)

styled_sound : (base : Option StyleOf) (version : ℕ) (bytes : List ℕ) (goes_on : Bool) (turn : Turn) → version ≤ LAST_VERSION
    → Ok turn ≡ styled version bytes goes_on → IsSoundTurn base turn
styled_sound base version bytes true turn fits same = made base turn (turns.On (stages.Style version bytes)) same fits
styled_sound base version bytes false turn fits same = styled_by_sound base version bytes (reading bytes) turn fits refl same

opened_sound : (base : Option StyleOf) (read : FeedLine) (turn : Turn) → IsFitLine read → Ok turn ≡ opened base read → IsSoundTurn base turn
opened_sound base (lines.Full version) turn fits same = made base turn (turns.On (stages.Opened version)) same fits
opened_sound None (lines.Delta version) turn fits same = made None turn turns.NoBase same tt
opened_sound (Some base) (lines.Delta version) turn fits same =
    made (Some base) turn (turns.On (stages.Rows (no_rows (heads.Delta version)))) same (none_sound (Some base) (heads.Delta version) fits)
opened_sound base (lines.Style bytes) turn fits same = absurd (cc same)
opened_sound base (lines.Set spot bytes) turn fits same = absurd (cc same)
opened_sound base (lines.Del spot) turn fits same = absurd (cc same)
opened_sound base (lines.More bytes) turn fits same = absurd (cc same)
opened_sound base lines.End turn fits same = absurd (cc same)

style_line_sound : (base : Option StyleOf) (version : ℕ) (read : FeedLine) (goes_on : Bool) (turn : Turn) → version ≤ LAST_VERSION
    → Ok turn ≡ style_line version read goes_on → IsSoundTurn base turn
style_line_sound base version (lines.Style bytes) goes_on turn fits same = styled_sound base version bytes goes_on turn fits same
style_line_sound base version (lines.Full other) goes_on turn fits same = absurd (cc same)
style_line_sound base version (lines.Delta other) goes_on turn fits same = absurd (cc same)
style_line_sound base version (lines.Set spot bytes) goes_on turn fits same = absurd (cc same)
style_line_sound base version (lines.Del spot) goes_on turn fits same = absurd (cc same)
style_line_sound base version (lines.More bytes) goes_on turn fits same = absurd (cc same)
style_line_sound base version lines.End goes_on turn fits same = absurd (cc same)

style_more_sound : (base : Option StyleOf) (version : ℕ) (front : List ℕ) (read : FeedLine) (goes_on : Bool) (turn : Turn) → version ≤ LAST_VERSION
    → Ok turn ≡ style_more version front read goes_on → IsSoundTurn base turn
style_more_sound base version front (lines.More bytes) goes_on turn fits same = styled_sound base version (front ++ bytes) goes_on turn fits same
style_more_sound base version front (lines.Full other) goes_on turn fits same = absurd (cc same)
style_more_sound base version front (lines.Delta other) goes_on turn fits same = absurd (cc same)
style_more_sound base version front (lines.Set spot bytes) goes_on turn fits same = absurd (cc same)
style_more_sound base version front (lines.Del spot) goes_on turn fits same = absurd (cc same)
style_more_sound base version front (lines.Style bytes) goes_on turn fits same = absurd (cc same)
style_more_sound base version front lines.End goes_on turn fits same = absurd (cc same)

-- the lines of rows
set_sound : (base : Option StyleOf) (rows : Rows) (spot : SpotOf) (bytes : List ℕ) (goes_on : Bool) (turn : Turn) → AreSound base rows
    → IsSet (tables_of (style_for rows.head base)) rows spot bytes goes_on (Ok turn) → IsSoundTurn base turn
set_sound base rows spot bytes true turn sound same = held_sound base rows spot bytes turn sound (is_next rows.last spot) refl same
set_sound base rows spot bytes false turn sound ends = ends_sound base rows spot bytes turn sound ends

set_on_sound : (base : Option StyleOf) (rows : Rows) (spot : SpotOf) (bytes : List ℕ) (goes_on : Bool) (turn : Turn)
    → AreSound base rows × (is_next rows.last spot ≡ true)
    → IsSetOn (tables_of (style_for rows.head base)) rows spot bytes goes_on (Ok turn) → IsSoundTurn base turn
set_on_sound base rows spot bytes true turn sound same = made base turn (turns.On (stages.Row rows spot bytes)) same sound
set_on_sound base rows spot bytes false turn sound ends = ends_sound base rows spot bytes turn sound.0 ends

row_line_sound : (base : Option StyleOf) (rows : Rows) (read : FeedLine) (goes_on : Bool) (turn : Turn) → AreSound base rows
    → may_stand (place_of (stages.Rows rows)) (verb_of read) ≡ true
    → IsRowLine (tables_of (style_for rows.head base)) rows read goes_on (Ok turn) → IsSoundTurn base turn
row_line_sound base rows (lines.Set spot bytes) goes_on turn sound stands is = set_sound base rows spot bytes goes_on turn sound is
row_line_sound base rows (lines.Del spot) goes_on turn sound stands same =
    placed_sound base rows spot None turn sound tt (gone_there rows.head spot goes_on stands) (is_next rows.last spot) refl same
row_line_sound base rows lines.End goes_on turn sound stands same = made base turn (turns.Whole (block_of rows)) same (block_sound base rows sound)
row_line_sound base rows (lines.Full version) goes_on turn sound stands same = absurd (cc same)
row_line_sound base rows (lines.Delta version) goes_on turn sound stands same = absurd (cc same)
row_line_sound base rows (lines.Style bytes) goes_on turn sound stands same = absurd (cc same)
row_line_sound base rows (lines.More bytes) goes_on turn sound stands same = absurd (cc same)

row_more_sound : (base : Option StyleOf) (rows : Rows) (spot : SpotOf) (front : List ℕ) (read : FeedLine) (goes_on : Bool) (turn : Turn)
    → AreSound base rows × (is_next rows.last spot ≡ true)
    → IsRowMore (tables_of (style_for rows.head base)) rows spot front read goes_on (Ok turn) → IsSoundTurn base turn
row_more_sound base rows spot front (lines.More bytes) goes_on turn sound is = set_on_sound base rows spot (front ++ bytes) goes_on turn sound is
row_more_sound base rows spot front (lines.Full version) goes_on turn sound same = absurd (cc same)
row_more_sound base rows spot front (lines.Delta version) goes_on turn sound same = absurd (cc same)
row_more_sound base rows spot front (lines.Style bytes) goes_on turn sound same = absurd (cc same)
row_more_sound base rows spot front (lines.Set other bytes) goes_on turn sound same = absurd (cc same)
row_more_sound base rows spot front (lines.Del other) goes_on turn sound same = absurd (cc same)
row_more_sound base rows spot front lines.End goes_on turn sound same = absurd (cc same)

-- one line more of a block
pub turn_sound : (base : Option StyleOf) (stage : Stage) (read : FeedLine) (goes_on : Bool) (turn : Turn) → IsSoundStage base stage
    → may_stand (place_of stage) (verb_of read) ≡ true → IsFitLine read → IsTurn base stage read goes_on (Ok turn) → IsSoundTurn base turn
turn_sound base stages.Between read goes_on turn sound stands fits is = opened_sound base read turn fits is
turn_sound base (stages.Opened version) read goes_on turn sound stands fits is = style_line_sound base version read goes_on turn sound is
turn_sound base (stages.Style version front) read goes_on turn sound stands fits is = style_more_sound base version front read goes_on turn sound is
turn_sound base (stages.Rows rows) read goes_on turn sound stands fits is = row_line_sound base rows read goes_on turn sound stands is
turn_sound base (stages.Row rows spot front) read goes_on turn sound stands fits is =
    row_more_sound base rows spot front read goes_on turn sound is
