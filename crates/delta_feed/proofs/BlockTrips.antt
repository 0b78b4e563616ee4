-- Whole blocks, from their first line to their end.
use Rattle.std.proofs.Common.{◌≡◌, ℕ, ◌+◌, ◌≤◌, Bool, true, false, T, List, [], ◌∷◌, ◌++◌, ◌&&◌, length, take, Ok, Result, Option, Some, None, refl, sym, ap, ◌∙◌, subst, arith, append_assoc, length-append}
use Rattle.std.specs.Prelude.{codes, map}
use Rattle.std.specs.FinMap as finite
use Rattle.std.specs.FinMap.{is_sorted}
use Rattle.std.specs.FinMap.Entries.{below_all}
use Rattle.std.specs.Ordering.{is_lt}
use Rattle.hex.specs.Hex.{IsBytes}
use Rattle.osm_base.specs.declared.bounds.limits.LimitNumbers.{LimitNumbers}
use Rattle.osm_base.specs.declared.values.row.Delta.{Delta}
use Rattle.osm_base.specs.declared.values.row.Row.{Row}
use Rattle.osm_base.specs.declared.values.row.RowChange.{RowChange}
use Rattle.osm_base.specs.map.Spots.{SpotOf, TableMap, spot_cmp}
use Rattle.style_read.specs.Reading.{reading}
use Rattle.style_read.specs.Style.{StyleOf}
use Rattle.delta_feed.specs.Blocks.{Comes, Found, more_comes, whole}
use Rattle.delta_feed.specs.Stage.{no_rows}
use Rattle.delta_feed.specs.Text.{changes_at, changes_by_spot, delta_line, delta_lines, entry_lines, full_line, full_lines, rows_at, style_line, style_lines, table_entries}
use Rattle.delta_feed.specs.Turn.{styled_by}
use Rattle.delta_feed.specs.Written.{AreWithin, AreWritable, changes_of}
use Rattle.delta_feed.specs.declared.block.Block.TheVariants as blocks
use Rattle.delta_feed.specs.declared.block.Head.{Head}
use Rattle.delta_feed.specs.declared.block.Head.TheVariants as heads
use Rattle.delta_feed.specs.declared.block.Stage.TheVariants as stages
use Rattle.delta_feed.specs.declared.fault.FeedWhy.{FeedWhy}
use Rattle.delta_feed.specs.declared.hexes.TheConstants.{LINE_BYTES}
use Rattle.delta_feed.specs.declared.line.FeedLine.TheVariants as lines
use Rattle.delta_feed.specs.declared.turn.Turn.{Turn}
use Rattle.delta_feed.specs.declared.turn.Turn.TheVariants as turns
use Rattle.delta_feed.specs.declared.words.TheConstants.{LAST_VERSION}
use Rattle.delta_feed.proofs.RoundTrips.{delta_back, end_says, full_back, style_back}
use Rattle.delta_feed.proofs.Trips.{AreNext, MayTell, MayTellAll, bytes_pass, bytes_take, entries_say, line_room, one_line, rows_end, take_short, take_some, within_behind, within_front}

-- ---- the entries of a finite map rise

left_of : (a b : Bool) → T (a && b) → T a
left_of true b both = tt
left_of false b both = absurd both

right_of : (a b : Bool) → T (a && b) → T b
right_of true b both = both
right_of false b both = absurd both

true_of : (a : Bool) → T a → a ≡ true
true_of true holds = refl
true_of false holds = absurd holds

module _ {X : Type 0} (row_of : X → Option Row) where
  entries : List (SpotOf × X) → List (SpotOf × Option Row)
  entries all = map (λ entry. (entry.0, row_of entry.1)) all

  rise_behind : (last : SpotOf) (all : List (SpotOf × X)) → T (below_all spot_cmp last all) → T (is_sorted spot_cmp all)
      → AreNext (Some last) (map (λ entry. (entry.0, row_of entry.1)) all)
  rise_behind last [] below sorted = tt
  rise_behind last (entry ∷ all) below sorted = (
    true_of (is_lt (spot_cmp last entry.0)) (left_of _ (below_all spot_cmp last all) below),
    rise_behind entry.0 all (left_of (below_all spot_cmp entry.0 all) (is_sorted spot_cmp all) sorted)
        (right_of (below_all spot_cmp entry.0 all) (is_sorted spot_cmp all) sorted),
  )

  rise : (all : List (SpotOf × X)) → T (is_sorted spot_cmp all) → AreNext None (map (λ entry. (entry.0, row_of entry.1)) all)
  rise [] sorted = tt
  rise (entry ∷ all) sorted = (
    refl,
    rise_behind entry.0 all (left_of (below_all spot_cmp entry.0 all) (is_sorted spot_cmp all) sorted)
        (right_of (below_all spot_cmp entry.0 all) (is_sorted spot_cmp all) sorted),
  )

-- whole tables tell rows that are there, and a difference both
may_full : (version : ℕ) (bytes : List ℕ) (style : StyleOf) (all : List (SpotOf × Row)) → MayTellAll (heads.Full version bytes style) (table_entries all)
may_full version bytes style [] = tt
may_full version bytes style (entry ∷ all) = (tt, may_full version bytes style all)

may_one : (version : ℕ) (all : List (SpotOf × Option Row)) → MayTellAll (heads.Delta version) all
may_one version [] = tt
may_one version (entry ∷ all) = (may (entry.1), may_one version all)
  where
    may : (row : Option Row) → MayTell (heads.Delta version) row
    may None = refl
    may (Some row) = tt

-- ---- a style

style_end : (version : ℕ) (bytes : List ℕ) (style : StyleOf) (result : Result Turn FeedWhy) → reading bytes ≡ Ok style
    → result ≡ styled_by version bytes (reading bytes) → result ≡ Ok (turns.On (stages.Rows (no_rows (heads.Full version bytes style))))
style_end version bytes style result is same = same ∙ ap (styled_by version bytes) is

style_pass : (limits : LimitNumbers) (base : Option StyleOf) (version : ℕ) (bytes : List ℕ) (style : StyleOf) (number : ℕ) (rest : List (List ℕ)) (found : Found)
    → reading bytes ≡ Ok style → 1 ≤ length bytes → IsBytes bytes → more_comes rest ≡ false → AreWithin limits number (style_lines bytes)
    → Comes limits base (stages.Opened version) number (style_lines bytes ++ rest) found
    → Comes limits base (stages.Rows (no_rows (heads.Full version bytes style))) (number + length (style_lines bytes)) rest found
style_pass limits base version bytes style number rest found is some are no_more within comes =
    bytes_pass limits base (λ front. stages.Style version front) bytes (stages.Rows (no_rows (heads.Full version bytes style))) rest found
    (λ front. refl) (λ front piece result turn. turn)
    (λ front piece result entire turn. style_end version bytes style result is (turn ∙ ap (λ own. styled_by version own (reading own)) entire))
    no_more (stages.Opened version) number (style_line (take LINE_BYTES bytes)) (lines.Style (take LINE_BYTES bytes)) some are refl
    (style_back (take LINE_BYTES bytes) (bytes_take LINE_BYTES bytes are) (take_some LINE_BYTES bytes line_room some)
    (take_short LINE_BYTES bytes))
    (λ result turn. turn)
    (λ result entire turn. style_end version bytes style result is (turn ∙ ap (λ own. styled_by version own (reading own)) entire))
    within comes

-- ---- blocks

three_lengths : (number : ℕ) (line : List ℕ) (front behind : List (List ℕ))
    → number + 1 + length front + length behind ≡ number + length (line ∷ (front ++ behind))
three_lengths number line front behind = omega (arith, length-append front behind)

one_length : (number : ℕ) (line : List ℕ) (others : List (List ℕ)) → number + 1 + length others ≡ number + length (line ∷ others)
one_length number line others = omega arith

pub full_only : (limits : LimitNumbers) (base : Option StyleOf) (version : ℕ) (bytes : List ℕ) (style : StyleOf) (tables : TableMap) (number : ℕ)
    (rest : List (List ℕ)) (found : Found) → version ≤ LAST_VERSION → reading bytes ≡ Ok style → 1 ≤ length bytes → IsBytes bytes
    → AreWritable style.tables (rows_at tables) → AreWithin limits number (full_lines version bytes tables)
    → Comes limits base stages.Between number (full_lines version bytes tables ++ rest) found
    → found ≡ whole (blocks.Full version bytes style (changes_of (rows_at tables))) (number + length (full_lines version bytes tables)) rest
full_only limits base version bytes style tables number rest found fits is some are writable within comes =
    let head : Head = heads.Full version bytes style in
    let rows : List (List ℕ) = entry_lines (rows_at tables) ++ codes "end" ∷ [] in
    let no_more : more_comes (rows ++ rest) ≡ false =
    subst (λ own. more_comes own ≡ false) (sym (append_assoc (entry_lines (rows_at tables)) (codes "end" ∷ []) rest))
    (entries_say style.tables (rows_at tables) (codes "end" ∷ rest) writable (end_says rest)) in
    let opened = one_line limits base stages.Between number (full_line version) ((style_lines bytes ++ rows) ++ rest) found (lines.Full version)
    (Ok (turns.On (stages.Opened version))) within.0 (full_back version fits) (λ result turn. turn) comes in
    let styled = style_pass limits base version bytes style (number + 1) (rows ++ rest) found is some are no_more
    (within_front limits (number + 1) (style_lines bytes) rows within.1)
    (subst (λ own. Comes limits base (stages.Opened version) (number + 1) own found) (append_assoc (style_lines bytes) rows rest) opened) in
    rows_end limits base head (rows_at tables) (number + 1 + length (style_lines bytes)) rest found
    (rise (λ row. Some row) (finite.entries tables) (finite.entries_sorted tables)) writable
    (may_full version bytes style (finite.entries tables)) (within_behind limits (number + 1) (style_lines bytes) rows within.1) styled
    ∙ ap (λ n. whole (blocks.Full version bytes style (changes_of (rows_at tables))) n rest)
    (three_lengths number (full_line version) (style_lines bytes) rows)

pub delta_only : (limits : LimitNumbers) (style : StyleOf) (delta : Delta) (number : ℕ) (rest : List (List ℕ)) (found : Found)
    → delta.version ≤ LAST_VERSION → AreWritable style.tables (changes_at delta.changes) → AreWithin limits number (delta_lines delta)
    → Comes limits (Some style) stages.Between number (delta_lines delta ++ rest) found
    → found ≡ whole (blocks.Delta (record { version = delta.version; changes = changes_of (changes_at delta.changes) })) (number + length (delta_lines delta)) rest
delta_only limits style delta number rest found fits writable within comes =
    let rows : List (List ℕ) = entry_lines (changes_at delta.changes) ++ codes "end" ∷ [] in
    let opened = one_line limits (Some style) stages.Between number (delta_line delta.version) (rows ++ rest) found (lines.Delta delta.version)
    (Ok (turns.On (stages.Rows (no_rows (heads.Delta delta.version))))) within.0 (delta_back delta.version fits) (λ result turn. turn) comes in
    rows_end limits (Some style) (heads.Delta delta.version) (changes_at delta.changes) (number + 1) rest found
    (rise (λ (change : RowChange). change.row) (finite.entries (changes_by_spot delta.changes)) (finite.entries_sorted (changes_by_spot delta.changes)))
    writable (may_one delta.version (changes_at delta.changes)) within.1 opened
    ∙ ap (λ n. whole (blocks.Delta (record { version = delta.version; changes = changes_of (changes_at delta.changes) })) n rest) (one_length number (delta_line delta.version) rows)
