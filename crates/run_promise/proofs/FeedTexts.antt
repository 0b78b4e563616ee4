-- The texts of a feed are blocks: their lines have no newline, and the last one and no other is `end`.
use Rattle.std.proofs.Common.{◌≡◌, ◌≢◌, ◌/◌, ◌%◌, ℕ, zero, suc, Bool, true, false, ◌||◌, cond, Option, Some, None, List, [], ◌∷◌, ◌++◌}
use Rattle.std.proofs.Common.{length, take, drop, refl, sym, ◌∙◌, ap, arith}
use Rattle.std.specs.List.{AllByRecursion, list_any}
use Rattle.std.specs.Prelude.{codes, decimal, filter, nat_eq, slice_index}
use Rattle.hex.specs.Hex.{encode_lower, encode_with, lower_digits}
use Rattle.osm_base.specs.declared.values.key.Kind.{Kind}
use Rattle.osm_base.specs.declared.values.key.Kind.TheVariants as kinds
use Rattle.osm_base.specs.declared.values.row.Delta.{Delta}
use Rattle.osm_base.specs.declared.values.row.Row.{Row}
use Rattle.osm_base.specs.map.Spots.{SpotOf, TableMap}
use Rattle.delta_feed.specs.Text.{changes_at, del_line, delta_line, delta_text, entry_lines, full_line, full_text, kind_letter}
use Rattle.delta_feed.specs.Text.{lines_behind, more_line, more_lines, row_lines, rows_at, set_line, set_lines, style_line, style_lines}
use Rattle.delta_feed.specs.Text.{ended_lines}
use Rattle.delta_feed.specs.declared.hexes.TheConstants.{LINE_BYTES}
use Rattle.delta_feed.specs.declared.words.TheConstants.{SPACE}
use Rattle.run_promise.specs.FeedBlocks.{IsFeedBlock, IsInner, lines_in}
use Rattle.run_promise.proofs.HistoryLaws.{append_more}
use Rattle.run_promise.proofs.LineCounts.{lines-append, lines-decimal}

neither : (one other : Bool) → (one || other) ≡ false → (one ≡ false) × (other ≡ false)
neither false other is = (refl, is)
neither true other is = absurd (cc)

-- no digit is a newline, and neither is what stands behind the last digit
no_newline : (digits : List ℕ) (place : ℕ) → list_any (nat_eq 10) digits ≡ false → nat_eq 10 (slice_index digits place) ≡ false
no_newline [] place none = refl
no_newline (digit ∷ digits) zero none = (neither (nat_eq 10 digit) (list_any (nat_eq 10) digits) none).0
no_newline (digit ∷ digits) (suc place) none =
    no_newline digits place (neither (nat_eq 10 digit) (list_any (nat_eq 10) digits) none).1

lines-digit : (place : ℕ) (after : List ℕ) → lines_in (slice_index lower_digits place ∷ after) ≡ lines_in after
lines-digit place after =
    ap (λ b. length (cond b (slice_index lower_digits place ∷ filter (nat_eq 10) after) (filter (nat_eq 10) after)))
    (no_newline lower_digits place refl)

lines-hex : (bytes : List ℕ) → lines_in (encode_lower bytes) ≡ 0
unfolding encode_with
lines-hex [] = refl
lines-hex (byte ∷ bytes) = lines-digit (byte / 16) (slice_index lower_digits (byte % 16) ∷ encode_lower bytes)
    ∙ lines-digit (byte % 16) (encode_lower bytes) ∙ lines-hex bytes

-- behind a number and behind a kind there are as many lines as in what comes then
lines-number : (n : ℕ) (after : List ℕ) → lines_in (decimal n ++ after) ≡ lines_in after
lines-number n after = let both = lines-append (decimal n) after in let none = lines-decimal n in omega (arith, both, none)

lines-kind : (kind : Kind) (after : List ℕ) → lines_in (kind_letter kind ++ after) ≡ lines_in after
lines-kind kinds.Node after = refl
lines-kind kinds.Way after = refl
lines-kind kinds.Relation after = refl

-- a line with another first byte than the last line of a block
another : (line : List ℕ) (first : ℕ) → slice_index line 0 ≡ first → first ≢ 101 → line ≢ codes "end"
another line first is not same = not (sym is ∙ ap (λ (bytes : List ℕ). slice_index bytes 0) same)

del_inner : (spot : SpotOf) → IsInner (del_line spot)
unfolding del_line
del_inner spot = (
  lines-number spot.table (SPACE ∷ (kind_letter spot.key.kind ++ (SPACE ∷ decimal spot.key.id)))
      ∙ lines-kind spot.key.kind (SPACE ∷ decimal spot.key.id) ∙ lines-decimal spot.key.id,
  another (del_line spot) 100 refl (λ is. absurd (omega (arith, is))),
)

set_inner : (spot : SpotOf) (bytes : List ℕ) → IsInner (set_line spot bytes)
unfolding set_line
set_inner spot bytes = (
  lines-number spot.table (SPACE ∷ (kind_letter spot.key.kind ++ (SPACE ∷ (decimal spot.key.id ++ (SPACE ∷ encode_lower bytes)))))
      ∙ lines-kind spot.key.kind (SPACE ∷ (decimal spot.key.id ++ (SPACE ∷ encode_lower bytes)))
      ∙ lines-number spot.key.id (SPACE ∷ encode_lower bytes) ∙ lines-hex bytes,
  another (set_line spot bytes) 115 refl (λ is. absurd (omega (arith, is))),
)

style_inner : (bytes : List ℕ) → IsInner (style_line bytes)
unfolding style_line
style_inner bytes = (lines-hex bytes, another (style_line bytes) 115 refl (λ is. absurd (omega (arith, is))))

more_inner : (bytes : List ℕ) → IsInner (more_line bytes)
unfolding more_line
more_inner bytes = (lines-hex bytes, another (more_line bytes) 109 refl (λ is. absurd (omega (arith, is))))

full_inner : (version : ℕ) → IsInner (full_line version)
unfolding full_line
full_inner version = (lines-decimal version, another (full_line version) 102 refl (λ is. absurd (omega (arith, is))))

delta_inner : (version : ℕ) → IsInner (delta_line version)
unfolding delta_line
delta_inner version = (lines-decimal version, another (delta_line version) 100 refl (λ is. absurd (omega (arith, is))))

-- lines one behind another
inner_both : (one other : List (List ℕ)) → AllByRecursion IsInner one → AllByRecursion IsInner other
    → AllByRecursion IsInner (one ++ other)
inner_both [] other first second = second
inner_both (line ∷ one) other (here, first) second = (here, inner_both one other first second)

more_lines_inner : (most : ℕ) (bytes : List ℕ) → AllByRecursion IsInner (more_lines most bytes)
more_lines_inner zero bytes = tt
more_lines_inner (suc most) [] = tt
more_lines_inner (suc most) (byte ∷ bytes) =
    (more_inner (take LINE_BYTES (byte ∷ bytes)), more_lines_inner most (drop LINE_BYTES (byte ∷ bytes)))

behind_inner : (bytes : List ℕ) → AllByRecursion IsInner (lines_behind bytes)
behind_inner bytes = more_lines_inner (length (drop LINE_BYTES bytes)) (drop LINE_BYTES bytes)

set_lines_inner : (spot : SpotOf) (bytes : List ℕ) → AllByRecursion IsInner (set_lines spot bytes)
set_lines_inner spot bytes = (set_inner spot (take LINE_BYTES bytes), behind_inner bytes)

style_lines_inner : (bytes : List ℕ) → AllByRecursion IsInner (style_lines bytes)
style_lines_inner bytes = (style_inner (take LINE_BYTES bytes), behind_inner bytes)

row_inner : (spot : SpotOf) (row : Option Row) → AllByRecursion IsInner (row_lines spot row)
row_inner spot None = (del_inner spot, tt)
row_inner spot (Some row) = set_lines_inner spot _

entries_inner : (entries : List (SpotOf × Option Row)) → AllByRecursion IsInner (entry_lines entries)
entries_inner [] = tt
entries_inner (entry ∷ entries) =
    inner_both (row_lines entry.0 entry.1) (entry_lines entries) (row_inner entry.0 entry.1) (entries_inner entries)

-- what is written of a change
pub delta_is_block : (delta : Delta) → IsFeedBlock (delta_text delta)
delta_is_block delta = record {
  lines = delta_line delta.version ∷ entry_lines (changes_at delta.changes);
  inner = (delta_inner delta.version, entries_inner (changes_at delta.changes));
  is = refl;
}

-- and of whole tables
pub full_is_block : (version : ℕ) (style_bytes : List ℕ) (tables : TableMap) → IsFeedBlock (full_text version style_bytes tables)
full_is_block version style_bytes tables = record {
  lines = full_line version ∷ (style_lines style_bytes ++ entry_lines (rows_at tables));
  inner = (
    full_inner version,
    inner_both (style_lines style_bytes) (entry_lines (rows_at tables)) (style_lines_inner style_bytes)
        (entries_inner (rows_at tables)),
  );
  is = ap (λ (lines : List (List ℕ)). ended_lines (full_line version ∷ lines))
      (sym (append_more (style_lines style_bytes) (entry_lines (rows_at tables)) (codes "end" ∷ [])));
}
