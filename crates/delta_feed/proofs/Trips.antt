-- What a block is written as comes to that block, and to nothing else.
use Rattle.std.proofs.Common.{◌≡◌, ℕ, zero, suc, ◌+◌, ◌<◌, ◌≤◌, ◌==◌, ◌&&◌, Bool, true, false, List, [], ◌∷◌, ◌++◌, length, take, drop, Ok, Result, Option, Some, None, refl, sym, ap, ◌∙◌, subst, inl, inr, arith, append_assoc, append-nil, length-append}
use Rattle.std.specs.Prelude.{codes}
use Rattle.std.proofs.lemmas.Bool.{cases_lt, eq-eqb}
use Rattle.std.proofs.lemmas.List.{take-append-drop, length-take, length-drop}
use Rattle.hex.specs.Hex.{IsBytes}
use Rattle.osm_base.specs.declared.bounds.limits.LimitNumbers.{LimitNumbers}
use Rattle.osm_base.specs.declared.values.row.Row.{Row}
use Rattle.osm_base.specs.declared.values.row.RowChange.{RowChange}
use Rattle.osm_base.specs.map.Spots.{SpotOf}
use Rattle.value_bytes.proofs.ByteLaws.{row_bytes-low, row_bytes-some}
use Rattle.value_bytes.specs.Row.{row_bytes}
use Rattle.store_maps.specs.Rows.{columns_in}
use Rattle.style_read.specs.Style.{StyleOf}
use Rattle.style_read.specs.declared.style.TableDef.{TableDef}
use Rattle.delta_feed.specs.Blocks.{Comes, Found, Follows, goes_on, is_full, limit_at, line_at, more_comes, whole}
use Rattle.delta_feed.specs.Line.{line_in}
use Rattle.delta_feed.specs.Place.{may_stand}
use Rattle.delta_feed.specs.Stage.{block_by, block_of, change_at, is_next, no_rows, place_of, rows_place, style_for, tables_of, with_change}
use Rattle.delta_feed.specs.Text.{del_line, entry_lines, lines_behind, more_line, more_lines, row_lines, set_line, set_lines}
use Rattle.delta_feed.specs.Turn.{Ends, IsTurn, placed}
use Rattle.delta_feed.specs.Written.{AreWithin, AreWritable, IsTold, IsWritable, IsWritableRow, changes_of}
use Rattle.delta_feed.specs.declared.block.Head.{Head}
use Rattle.delta_feed.specs.declared.block.Head.TheVariants as heads
use Rattle.delta_feed.specs.declared.block.Rows.{Rows}
use Rattle.delta_feed.specs.declared.block.Stage.{Stage}
use Rattle.delta_feed.specs.declared.block.Stage.TheVariants as stages
use Rattle.delta_feed.specs.declared.fault.FeedWhy.{FeedWhy}
use Rattle.delta_feed.specs.declared.hexes.TheConstants.{LINE_BYTES}
use Rattle.delta_feed.specs.declared.line.FeedLine.{FeedLine}
use Rattle.delta_feed.specs.declared.line.FeedLine.TheVariants as lines
use Rattle.delta_feed.specs.declared.place.Place.TheVariants as places
use Rattle.delta_feed.specs.declared.place.Verb.TheVariants as verbs
use Rattle.delta_feed.specs.declared.turn.Turn.{Turn}
use Rattle.delta_feed.specs.declared.turn.Turn.TheVariants as turns
use Rattle.delta_feed.proofs.RoundTrips.{del_back, del_says, end_back, end_says, more_back, more_says, set_back, set_says}

-- ---- one line

reads : (limits : LimitNumbers) (stage : Stage) (number : ℕ) (line : List ℕ) (read : FeedLine) → limit_at limits number line ≡ None
    → line_in (place_of stage) line ≡ Ok read → line_at limits stage number line ≡ Ok read
unfolding line_at
reads limits stage number line read none is = rw (none, is) refl

-- what a line comes to that says this, where it can make one thing only
pub one_line : (limits : LimitNumbers) (base : Option StyleOf) (stage : Stage) (number : ℕ) (line : List ℕ) (rest : List (List ℕ)) (found : Found)
    (read : FeedLine) (made : Result Turn FeedWhy)
    → limit_at limits number line ≡ None → line_in (place_of stage) line ≡ Ok read
    → ((result : Result Turn FeedWhy) → IsTurn base stage read (goes_on read rest) result → result ≡ made)
    → Comes limits base stage number (line ∷ rest) found
    → Follows (λ next own. Comes limits base next (number + 1) rest own) (number + 1) rest made found
unfolding Comes
one_line limits base stage number line rest found read made none is only (inl (fault, bad, same)) =
    absurd (cc (bad, reads limits stage number line read none is))
one_line limits base stage number line rest found read made none is only (inr (other, result, own, turn, follows)) =
    let same : other ≡ read = cc (own, reads limits stage number line read none is) in
    let one : result ≡ made = only result (subst (λ (line : FeedLine). IsTurn base stage line (goes_on line rest) result) same turn) in
    subst (λ (own : Result Turn FeedWhy). Follows (λ next own. Comes limits base next (number + 1) rest own) (number + 1) rest own found) one follows

-- ---- bytes in lines

and_no : (a b : Bool) → b ≡ false → (a && b) ≡ false
and_no true b is = is
and_no false b is = refl

none_left : (most : ℕ) → more_lines most [] ≡ []
none_left zero = refl
none_left (suc most) = refl

no_bytes_are : IsBytes []
no_bytes_are = λ k. omega arith

one_byte : (byte : ℕ) (bytes : List ℕ) → byte < 256 → IsBytes bytes → IsBytes (byte ∷ bytes)
one_byte byte bytes fits are zero = fits
one_byte byte bytes fits are (suc k) = are k

pub bytes_take : (n : ℕ) (bytes : List ℕ) → IsBytes bytes → IsBytes (take n bytes)
bytes_take zero bytes are = no_bytes_are
bytes_take (suc n) [] are = are
bytes_take (suc n) (byte ∷ bytes) are = one_byte byte (take n bytes) (are zero) (bytes_take n bytes (λ k. are (suc k)))

bytes_drop : (n : ℕ) (bytes : List ℕ) → IsBytes bytes → IsBytes (drop n bytes)
bytes_drop zero bytes are = are
bytes_drop (suc n) [] are = are
bytes_drop (suc n) (byte ∷ bytes) are = bytes_drop n bytes (λ k. are (suc k))

-- how many there are in front and behind
take_full : (n : ℕ) (bytes : List ℕ) → n < length bytes → length (take n bytes) ≡ n
take_full n bytes long = omega (arith, long, length-take n bytes)

pub take_short : (n : ℕ) (bytes : List ℕ) → length (take n bytes) ≤ n
take_short n bytes = omega (arith, length-take n bytes)

pub take_some : (n : ℕ) (bytes : List ℕ) → 1 ≤ n → 1 ≤ length bytes → 1 ≤ length (take n bytes)
take_some n bytes some own = omega (arith, some, own, length-take n bytes)

drop_some : (n : ℕ) (bytes : List ℕ) → n < length bytes → 1 ≤ length (drop n bytes)
drop_some n bytes long = omega (arith, long, length-drop n bytes)

drop_none : (n : ℕ) (bytes : List ℕ) → length bytes ≤ n → length (drop n bytes) ≡ 0
drop_none n bytes short = omega (arith, short, length-drop n bytes)

drop_few : (n most : ℕ) (bytes : List ℕ) → 1 ≤ n → length bytes ≤ suc most → length (drop n bytes) ≤ most
drop_few n most bytes some few = omega (arith, some, few, length-drop n bytes)

same_short : (n : ℕ) → n ≤ n
same_short n = omega arith

full_some : (n most : ℕ) → 1 ≤ most → n ≡ most → 1 ≤ n
full_some n most some is = omega (arith, some, is)

full_short : (n most : ℕ) → n ≡ most → n ≤ most
full_short n most is = omega (arith, is)

pub line_room : 1 ≤ LINE_BYTES
line_room = omega arith

shift : (number : ℕ) (line : List ℕ) (others : List (List ℕ)) → number + 1 + length others ≡ number + length (line ∷ others)
shift number line others = omega arith

joined_length : (number : ℕ) (front behind : List (List ℕ)) → number + length front + length behind ≡ number + length (front ++ behind)
joined_length number front behind = omega (arith, length-append front behind)

shift_last : (number : ℕ) (line : List ℕ) (others : List (List ℕ)) → others ≡ [] → number + 1 ≡ number + length (line ∷ others)
shift_last number line others none = omega (arith, ap length none)

none_behind : (most : ℕ) (bytes : List ℕ) → length bytes ≡ 0 → more_lines most bytes ≡ []
none_behind most [] none = none_left most
none_behind most (byte ∷ bytes) none = absurd (omega (arith, none))

more_left : (most : ℕ) (bytes : List ℕ) (rest : List (List ℕ)) → length bytes ≤ most → 1 ≤ length bytes → IsBytes bytes
    → more_comes (more_lines most bytes ++ rest) ≡ true
more_left zero bytes rest few some are = absurd (omega (arith, few, some))
more_left (suc most) [] rest few some are = absurd (omega (arith, some))
more_left (suc most) (byte ∷ bytes) rest few some are =
    more_says (take LINE_BYTES (byte ∷ bytes)) (more_lines most (drop LINE_BYTES (byte ∷ bytes)) ++ rest) (bytes_take LINE_BYTES (byte ∷ bytes) are)

no_bytes : (bytes : List ℕ) → length bytes ≡ 0 → bytes ≡ []
no_bytes [] none = refl
no_bytes (byte ∷ bytes) none = absurd (omega (arith, none))

all_taken : (bytes : List ℕ) → length (drop LINE_BYTES bytes) ≡ 0 → take LINE_BYTES bytes ≡ bytes
all_taken bytes none = sym (append-nil (take LINE_BYTES bytes))
    ∙ ap (λ own. take LINE_BYTES bytes ++ own) (sym (no_bytes (drop LINE_BYTES bytes) none)) ∙ take-append-drop LINE_BYTES bytes

-- Bytes are told in several lines. So many of them leave a block at `at`, and all of them at `next`.
module _ (limits : LimitNumbers) (base : Option StyleOf) (at : List ℕ → Stage) (all : List ℕ) (next : Stage) (rest : List (List ℕ)) (found : Found)
    (place : (front : List ℕ) → place_of (at front) ≡ places.Begun)
    (on : (front piece : List ℕ) (result : Result Turn FeedWhy) → IsTurn base (at front) (lines.More piece) true result → result ≡ Ok (turns.On (at (front ++ piece))))
    (done : (front piece : List ℕ) (result : Result Turn FeedWhy) → front ++ piece ≡ all → IsTurn base (at front) (lines.More piece) false result → result ≡ Ok (turns.On next))
    (no_more : more_comes rest ≡ false) where
  -- the line of a piece, behind which others come or none
  piece_line : (front piece : List ℕ) → IsBytes piece → 1 ≤ length piece → length piece ≤ LINE_BYTES
      → line_in (place_of (at front)) (more_line piece) ≡ Ok (lines.More piece)
  piece_line front piece are some short = ap (λ own. line_in own (more_line piece)) (place front) ∙ more_back piece are some short

  last_piece : (number : ℕ) (front piece : List ℕ) (more : List (List ℕ)) → more ≡ [] → IsBytes piece → 1 ≤ length piece → length piece ≤ LINE_BYTES
      → front ++ piece ≡ all → limit_at limits number (more_line piece) ≡ None
      → Comes limits base (at front) number (more_line piece ∷ (more ++ rest)) found → Comes limits base next (number + 1) rest found
  last_piece number front piece more none are some short entire within comes =
      one_line limits base (at front) number (more_line piece) rest found (lines.More piece) (Ok (turns.On next)) within
      (piece_line front piece are some short)
      (λ result turn. done front piece result entire (subst (λ goes. IsTurn base (at front) (lines.More piece) goes result)
      (and_no (length piece == LINE_BYTES) (more_comes rest) no_more) turn))
      (subst (λ own. Comes limits base (at front) number (more_line piece ∷ (own ++ rest)) found) none comes)

  first_piece : (number : ℕ) (front piece : List ℕ) (behind : List (List ℕ)) → more_comes behind ≡ true → IsBytes piece → length piece ≡ LINE_BYTES
      → limit_at limits number (more_line piece) ≡ None
      → Comes limits base (at front) number (more_line piece ∷ behind) found → Comes limits base (at (front ++ piece)) (number + 1) behind found
  first_piece number front piece behind more are full within comes =
      one_line limits base (at front) number (more_line piece) behind found (lines.More piece) (Ok (turns.On (at (front ++ piece)))) within
      (piece_line front piece are (full_some (length piece) LINE_BYTES line_room full) (full_short (length piece) LINE_BYTES full))
      (λ result turn. on front piece result (subst (λ goes. IsTurn base (at front) (lines.More piece) goes result)
      (rw (eq-eqb _ _ full, more) refl) turn)) comes

  pub more_pass : (most number : ℕ) (front bytes : List ℕ) → length bytes ≤ most → 1 ≤ length bytes → IsBytes bytes → front ++ bytes ≡ all
      → AreWithin limits number (more_lines most bytes) → Comes limits base (at front) number (more_lines most bytes ++ rest) found
      → Comes limits base next (number + length (more_lines most bytes)) rest found
  more_pass zero number front bytes few some are entire within comes = absurd (omega (arith, few, some))
  more_pass (suc most) number front [] few some are entire within comes = absurd (omega (arith, some))
  more_pass (suc most) number front (byte ∷ bytes) few some are entire within comes = elim (cases_lt LINE_BYTES (length (byte ∷ bytes))) [
    | inl long ↦ (let piece_is : length (take LINE_BYTES (byte ∷ bytes)) ≡ LINE_BYTES = take_full LINE_BYTES (byte ∷ bytes) long in
        let left_few : length (drop LINE_BYTES (byte ∷ bytes)) ≤ most = drop_few LINE_BYTES most (byte ∷ bytes) line_room few in
        let some_left : 1 ≤ length (drop LINE_BYTES (byte ∷ bytes)) = drop_some LINE_BYTES (byte ∷ bytes) long in
        let whole_left : (front ++ take LINE_BYTES (byte ∷ bytes)) ++ drop LINE_BYTES (byte ∷ bytes) ≡ all =
        append_assoc front (take LINE_BYTES (byte ∷ bytes)) (drop LINE_BYTES (byte ∷ bytes))
        ∙ ap (λ own. front ++ own) (take-append-drop LINE_BYTES (byte ∷ bytes)) ∙ entire in
        subst (λ n. Comes limits base next n rest found) (shift number (more_line (take LINE_BYTES (byte ∷ bytes))) (more_lines most (drop LINE_BYTES (byte ∷ bytes))))
        (more_pass most (number + 1) (front ++ take LINE_BYTES (byte ∷ bytes)) (drop LINE_BYTES (byte ∷ bytes))
        left_few some_left (bytes_drop LINE_BYTES (byte ∷ bytes) are) whole_left within.1
        (first_piece number front (take LINE_BYTES (byte ∷ bytes)) (more_lines most (drop LINE_BYTES (byte ∷ bytes)) ++ rest)
        (more_left most (drop LINE_BYTES (byte ∷ bytes)) rest left_few some_left (bytes_drop LINE_BYTES (byte ∷ bytes) are))
        (bytes_take LINE_BYTES (byte ∷ bytes) are) piece_is within.0 comes)))
    | inr short ↦ (let left_is : length (drop LINE_BYTES (byte ∷ bytes)) ≡ 0 = drop_none LINE_BYTES (byte ∷ bytes) short in
        let none : more_lines most (drop LINE_BYTES (byte ∷ bytes)) ≡ [] = none_behind most (drop LINE_BYTES (byte ∷ bytes)) left_is in
        let whole_piece : front ++ take LINE_BYTES (byte ∷ bytes) ≡ all = ap (λ own. front ++ own) (all_taken (byte ∷ bytes) left_is) ∙ entire in
        subst (λ n. Comes limits base next n rest found)
        (shift_last number (more_line (take LINE_BYTES (byte ∷ bytes))) (more_lines most (drop LINE_BYTES (byte ∷ bytes))) none)
        (last_piece number front (take LINE_BYTES (byte ∷ bytes)) (more_lines most (drop LINE_BYTES (byte ∷ bytes))) none
        (bytes_take LINE_BYTES (byte ∷ bytes) are) (take_some LINE_BYTES (byte ∷ bytes) line_room some) (take_short LINE_BYTES (byte ∷ bytes)) whole_piece within.0 comes))
  ]

  -- the first line, and those behind it
  pub bytes_pass : (stage : Stage) (number : ℕ) (line : List ℕ) (read : FeedLine) → 1 ≤ length all → IsBytes all
      → is_full read ≡ (length (take LINE_BYTES all) == LINE_BYTES) → line_in (place_of stage) line ≡ Ok read
      → ((result : Result Turn FeedWhy) → IsTurn base stage read true result → result ≡ Ok (turns.On (at (take LINE_BYTES all))))
      → ((result : Result Turn FeedWhy) → take LINE_BYTES all ≡ all → IsTurn base stage read false result → result ≡ Ok (turns.On next))
      → AreWithin limits number (line ∷ lines_behind all) → Comes limits base stage number (line ∷ lines_behind all ++ rest) found
      → Comes limits base next (number + length (line ∷ lines_behind all)) rest found
  bytes_pass stage number line read some are full is first only within comes = elim (cases_lt LINE_BYTES (length all)) [
    | inl long ↦ (let piece_is : length (take LINE_BYTES all) ≡ LINE_BYTES = take_full LINE_BYTES all long in
        let left_some : 1 ≤ length (drop LINE_BYTES all) = drop_some LINE_BYTES all long in
        let goes : goes_on read (lines_behind all ++ rest) ≡ true = rw (full, eq-eqb _ _ piece_is)
        (more_left (length (drop LINE_BYTES all)) (drop LINE_BYTES all) rest (same_short (length (drop LINE_BYTES all))) left_some (bytes_drop LINE_BYTES all are)) in
        subst (λ n. Comes limits base next n rest found) (shift number line (lines_behind all))
        (more_pass (length (drop LINE_BYTES all)) (number + 1) (take LINE_BYTES all) (drop LINE_BYTES all) (same_short (length (drop LINE_BYTES all))) left_some
        (bytes_drop LINE_BYTES all are) (take-append-drop LINE_BYTES all) within.1
        (one_line limits base stage number line (lines_behind all ++ rest) found read (Ok (turns.On (at (take LINE_BYTES all)))) within.0 is
        (λ result turn. first result (subst (λ own. IsTurn base stage read own result) goes turn)) comes)))
    | inr short ↦ (let left_is : length (drop LINE_BYTES all) ≡ 0 = drop_none LINE_BYTES all short in
        let none : lines_behind all ≡ [] = none_behind (length (drop LINE_BYTES all)) (drop LINE_BYTES all) left_is in
        let goes : goes_on read rest ≡ false = and_no (is_full read) (more_comes rest) no_more in
        subst (λ n. Comes limits base next n rest found) (shift_last number line (lines_behind all) none)
        (one_line limits base stage number line rest found read (Ok (turns.On next)) within.0 is
        (λ result turn. only result (all_taken all left_is) (subst (λ own. IsTurn base stage read own result) goes turn))
        (subst (λ own. Comes limits base stage number (line ∷ own ++ rest) found) none comes)))
  ]

-- ---- rows

-- the bytes of a row make that row
ends_only : (tables : List TableDef) (rows : Rows) (spot : SpotOf) (bytes : List ℕ) (row : Row) (result : Result Turn FeedWhy)
    → is_next rows.last spot ≡ true → IsWritable tables spot.table row → bytes ≡ row_bytes row → Ends tables rows spot bytes result
    → result ≡ Ok (turns.On (stages.Rows (with_change rows spot (Some row))))
ends_only tables rows spot bytes row result next writable bytes_are (inl (inl beyond, same)) = absurd (omega (arith, beyond, writable.there))
ends_only tables rows spot bytes row result next writable bytes_are (inl (inr none, same)) = absurd (none row writable.is bytes_are)
ends_only tables rows spot bytes row result next writable bytes_are (inr (own, is, same)) =
    let one : row ≡ own = is.spells.alone row writable.is bytes_are in
    same ∙ ap (λ (it : Row). placed rows spot (Some it)) (sym one) ∙ rw next refl

set_stands : (head : Head) → may_stand (rows_place head) verbs.Set ≡ true
set_stands (heads.Full version bytes style) = refl
set_stands (heads.Delta version) = refl

end_stands : (head : Head) → may_stand (rows_place head) verbs.End ≡ true
end_stands (heads.Full version bytes style) = refl
end_stands (heads.Delta version) = refl

front_bytes : (row : Row) → 1 ≤ length (take LINE_BYTES (row_bytes row))
front_bytes row = take_some LINE_BYTES (row_bytes row) line_room (row_bytes-some row)

bytes_of : (tables : List TableDef) (table : ℕ) (row : Row) → IsWritable tables table row → IsBytes (row_bytes row)
bytes_of tables table row writable = row_bytes-low (columns_in tables table) row writable.is

set_pass : (limits : LimitNumbers) (base : Option StyleOf) (rows : Rows) (spot : SpotOf) (row : Row) (number : ℕ) (rest : List (List ℕ)) (found : Found)
    → is_next rows.last spot ≡ true → IsTold spot → IsWritable (tables_of (style_for rows.head base)) spot.table row → more_comes rest ≡ false
    → AreWithin limits number (set_lines spot (row_bytes row)) → Comes limits base (stages.Rows rows) number (set_lines spot (row_bytes row) ++ rest) found
    → Comes limits base (stages.Rows (with_change rows spot (Some row))) (number + length (set_lines spot (row_bytes row))) rest found
set_pass limits base rows spot row number rest found next told writable no_more within comes =
    let tables : List TableDef = tables_of (style_for rows.head base) in
    let all : List ℕ = row_bytes row in
    bytes_pass limits base (λ front. stages.Row rows spot front) all (stages.Rows (with_change rows spot (Some row))) rest found
    (λ front. refl) (λ front piece result turn. turn)
    (λ front piece result entire turn. ends_only tables rows spot (front ++ piece) row result next writable entire turn)
    no_more (stages.Rows rows) number (set_line spot (take LINE_BYTES all)) (lines.Set spot (take LINE_BYTES all)) (row_bytes-some row)
    (bytes_of tables spot.table row writable) refl
    (set_back (rows_place rows.head) spot (take LINE_BYTES all) (set_stands rows.head) told (bytes_take LINE_BYTES all (bytes_of tables spot.table row writable))
    (front_bytes row) (take_short LINE_BYTES all))
    (λ result turn. turn ∙ rw next refl)
    (λ result entire turn. ends_only tables rows spot (take LINE_BYTES all) row result next writable entire turn)
    within comes

-- a row that is taken away, which a difference alone may tell
abbrev pub MayTell : Head → Option Row → Type 0
MayTell head None = rows_place head ≡ places.Delta
MayTell head (Some row) = Unit {0}

abbrev pub MayTellAll : Head → List (SpotOf × Option Row) → Type 0
MayTellAll head [] = Unit {0}
MayTellAll head (entry ∷ entries) = MayTell head entry.1 × MayTellAll head entries

row_pass : (limits : LimitNumbers) (base : Option StyleOf) (rows : Rows) (spot : SpotOf) (row : Option Row) (number : ℕ) (rest : List (List ℕ)) (found : Found)
    → is_next rows.last spot ≡ true → IsTold spot → IsWritableRow (tables_of (style_for rows.head base)) spot.table row → MayTell rows.head row
    → more_comes rest ≡ false → AreWithin limits number (row_lines spot row)
    → Comes limits base (stages.Rows rows) number (row_lines spot row ++ rest) found
    → Comes limits base (stages.Rows (with_change rows spot row)) (number + length (row_lines spot row)) rest found
row_pass limits base rows spot None number rest found next told writable may no_more within comes =
    one_line limits base (stages.Rows rows) number (del_line spot) rest found (lines.Del spot) (Ok (turns.On (stages.Rows (with_change rows spot None)))) within.0
    (ap (λ own. line_in own (del_line spot)) may ∙ del_back places.Delta spot refl told)
    (λ result turn. turn ∙ rw next refl) comes
row_pass limits base rows spot (Some row) number rest found next told writable may no_more within comes =
    set_pass limits base rows spot row number rest found next told writable no_more within comes

-- what stands at rising spots
abbrev pub AreNext : Option SpotOf → List (SpotOf × Option Row) → Type 0
AreNext last [] = Unit {0}
AreNext last (entry ∷ entries) = (is_next last entry.0 ≡ true) × AreNext (Some entry.0) entries

abbrev rows_after : Rows → List (SpotOf × Option Row) → Rows
rows_after rows [] = rows
rows_after rows (entry ∷ entries) = rows_after (with_change rows entry.0 entry.1) entries

pub within_front : (limits : LimitNumbers) (number : ℕ) (lines others : List (List ℕ)) → AreWithin limits number (lines ++ others) → AreWithin limits number lines
within_front limits number [] others within = tt
within_front limits number (line ∷ lines) others within = (within.0, within_front limits (number + 1) lines others within.1)

pub within_behind : (limits : LimitNumbers) (number : ℕ) (lines others : List (List ℕ)) → AreWithin limits number (lines ++ others)
    → AreWithin limits (number + length lines) others
within_behind limits number [] others within = subst (λ n. AreWithin limits n others) (omega arith) within
within_behind limits number (line ∷ lines) others within =
    subst (λ n. AreWithin limits n others) (omega arith) (within_behind limits (number + 1) lines others within.1)

row_says : (tables : List TableDef) (spot : SpotOf) (row : Option Row) (rest : List (List ℕ)) → IsTold spot → IsWritableRow tables spot.table row
    → more_comes (row_lines spot row ++ rest) ≡ false
row_says tables spot None rest told writable = del_says spot rest told
row_says tables spot (Some row) rest told writable =
    set_says spot (take LINE_BYTES (row_bytes row)) (lines_behind (row_bytes row) ++ rest) told
    (bytes_take LINE_BYTES (row_bytes row) (bytes_of tables spot.table row writable))

pub entries_say : (tables : List TableDef) (entries : List (SpotOf × Option Row)) (rest : List (List ℕ)) → AreWritable tables entries → more_comes rest ≡ false
    → more_comes (entry_lines entries ++ rest) ≡ false
entries_say tables [] rest writable no_more = no_more
entries_say tables (entry ∷ entries) rest writable no_more =
    subst (λ own. more_comes own ≡ false) (sym (append_assoc (row_lines entry.0 entry.1) (entry_lines entries) rest))
    (row_says tables entry.0 entry.1 (entry_lines entries ++ rest) writable.0 writable.1)

entries_pass : (limits : LimitNumbers) (base : Option StyleOf) (entries : List (SpotOf × Option Row)) (rows : Rows) (number : ℕ) (rest : List (List ℕ)) (found : Found)
    → AreNext rows.last entries → AreWritable (tables_of (style_for rows.head base)) entries → MayTellAll rows.head entries → more_comes rest ≡ false
    → AreWithin limits number (entry_lines entries) → Comes limits base (stages.Rows rows) number (entry_lines entries ++ rest) found
    → Comes limits base (stages.Rows (rows_after rows entries)) (number + length (entry_lines entries)) rest found
entries_pass limits base [] rows number rest found next writable may no_more within comes =
    subst (λ n. Comes limits base (stages.Rows rows) n rest found) (omega arith) comes
entries_pass limits base (entry ∷ entries) rows number rest found next writable may no_more within comes =
    let tables : List TableDef = tables_of (style_for rows.head base) in
    let here : List (List ℕ) = row_lines entry.0 entry.1 in
    subst (λ n. Comes limits base (stages.Rows (rows_after rows (entry ∷ entries))) n rest found) (joined_length number here (entry_lines entries))
    (entries_pass limits base entries (with_change rows entry.0 entry.1) (number + length here) rest found next.1 writable.2 may.1 no_more
    (within_behind limits number here (entry_lines entries) within)
    (row_pass limits base rows entry.0 entry.1 number (entry_lines entries ++ rest) found next.0 writable.0 writable.1 may.0
    (entries_say tables entries rest writable.2 no_more) (within_front limits number here (entry_lines entries) within)
    (subst (λ own. Comes limits base (stages.Rows rows) number own found) (append_assoc here (entry_lines entries) rest) comes)))

head_after : (rows : Rows) (entries : List (SpotOf × Option Row)) → (rows_after rows entries).head ≡ rows.head
head_after rows [] = refl
head_after rows (entry ∷ entries) = head_after (with_change rows entry.0 entry.1) entries

changes_after : (rows : Rows) (entries : List (SpotOf × Option Row)) → (rows_after rows entries).changes ≡ rows.changes ++ changes_of entries
changes_after rows [] = sym (append-nil rows.changes)
changes_after rows (entry ∷ entries) = changes_after (with_change rows entry.0 entry.1) entries
    ∙ append_assoc rows.changes (change_at entry.0 entry.1 ∷ []) (changes_of entries)

-- rows and the end of their block
pub rows_end : (limits : LimitNumbers) (base : Option StyleOf) (head : Head) (entries : List (SpotOf × Option Row)) (number : ℕ) (rest : List (List ℕ)) (found : Found)
    → AreNext None entries → AreWritable (tables_of (style_for head base)) entries → MayTellAll head entries
    → AreWithin limits number (entry_lines entries ++ codes "end" ∷ [])
    → Comes limits base (stages.Rows (no_rows head)) number ((entry_lines entries ++ codes "end" ∷ []) ++ rest) found
    → found ≡ whole (block_by head (changes_of entries)) (number + length (entry_lines entries ++ codes "end" ∷ [])) rest
rows_end limits base head entries number rest found next writable may within comes =
    let rows : Rows = rows_after (no_rows head) entries in
    let passed = entries_pass limits base entries (no_rows head) number (codes "end" ∷ rest) found next writable may (end_says rest)
    (within_front limits number (entry_lines entries) (codes "end" ∷ []) within)
    (subst (λ own. Comes limits base (stages.Rows (no_rows head)) number own found) (append_assoc (entry_lines entries) (codes "end" ∷ []) rest) comes) in
    let last = one_line limits base (stages.Rows rows) (number + length (entry_lines entries)) (codes "end") rest found lines.End (Ok (turns.Whole (block_of rows)))
    (within_behind limits number (entry_lines entries) (codes "end" ∷ []) within).0
    (end_back (rows_place rows.head) (end_stands rows.head)) (λ result turn. turn) passed in
    last ∙ ap (λ (own : Head). whole (block_by own rows.changes) (number + length (entry_lines entries) + 1) rest) (head_after (no_rows head) entries)
    ∙ ap (λ (own : List RowChange). whole (block_by head own) (number + length (entry_lines entries) + 1) rest) (changes_after (no_rows head) entries)
    ∙ ap (λ n. whole (block_by head (changes_of entries)) n rest) (joined_length number (entry_lines entries) (codes "end" ∷ []))
