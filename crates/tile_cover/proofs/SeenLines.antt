-- What is seen of segments, one after the other.
use Rattle.std.proofs.Common.{◌≡◌, ℕ, ◌+◌, ◌<◌, ◌≤◌, ◌%◌, ◌==◌, refl, sym, ◌∙◌, ap, arith, Bool, true, false, cond, not, ◌||◌, ◌&&◌, List}
use Rattle.std.proofs.Common.{[], ◌∷◌, ◌++◌, length, get_or, drop, count_by, Option, Some, None}
use Rattle.std.specs.List.{list_any, flat_map}
use Rattle.std.proofs.lemmas.Grind.{common_steps}
use Rattle.std.proofs.lemmas.Bool.Decides.{nat_tests}
use Rattle.std.proofs.lemmas.List.Sums.{sum_by-append}
use Rattle.std.proofs.lemmas.List.Folds.{list_any-append}
use Rattle.osm_base.specs.values.Place.{PlaceOf}
use Rattle.osm_base.specs.declared.values.place.GeoBox.{GeoBox}
use Rattle.lanes_geo.specs.Crossing.{Segment, crosses}
use Rattle.tile_cover.specs.declared.seen.Seen.{Seen}
use Rattle.tile_cover.specs.declared.span.Span.{Span}
use mathlib.Core.Bool.{beq}
use Rattle.tile_cover.specs.declared.climb.Climb.{Climb}
use Rattle.tile_cover.specs.Span.{IsSame, Tells, covers, is_further, lat_of, segment_of}
use Rattle.tile_cover.specs.Tile.{touches, north_west, widened, line_segments, box_between, meets_box}
use Rattle.tile_cover.specs.Seen.{Sees}
use Rattle.tile_cover.proofs.Gained.{neither}
use Rattle.tile_cover.proofs.Lines.{next_left, no_line}

or_none : (a : Bool) → (a || false) ≡ a
or_none true = refl
or_none false = refl

or_group : (a b c : Bool) → ((a || b) || c) ≡ (a || (b || c))
or_group true b c = refl
or_group false b c = refl

-- one segment
pub sees_one : (box : GeoBox) (x : ℕ) (s : Segment) (span : Span) (old new : Seen) → Tells box x s (Some span)
    → new.touched ≡ (old.touched || covers x span)
    → new.odd ≡ cond (is_further x span) (not old.odd) old.odd → Sees box (s ∷ []) old new
sees_one box x s span old new e touched odd = record {
  touched = touched ∙ rw e.0 (ap (λ b. old.touched || b) (sym (or_none (covers x span))));
  odd = λ none.
      let parts = neither old.touched (covers x span) (sym touched ∙ none) in
      odd ∙ rw (e.1 (e.0 ∙ parts.1)) (one (is_further x span) old.odd);
}
  where
    one : (b odd : Bool) → cond b (not odd) odd ≡ cond ((0 + cond b 1 0) % 2 == 1) (not odd) odd
    one true odd = refl
    one false odd = refl

pub sees_none : (box : GeoBox) (x : ℕ) (s : Segment) (old : Seen) → Tells box x s None → Sees box (s ∷ []) old old
sees_none box x s old e = record {
  touched = rw e.0 (sym (or_none old.touched));
  odd = λ none. rw e.1 refl;
}

pub sees_nothing : (box : GeoBox) (old : Seen) → Sees box [] old old
sees_nothing box old = record { touched = sym (or_none old.touched); odd = λ none. refl }

odd_sum : (m n : ℕ) (odd : Bool) → cond ((m + n) % 2 == 1) (not odd) odd
    ≡ cond (n % 2 == 1) (not (cond (m % 2 == 1) (not odd) odd)) (cond (m % 2 == 1) (not odd) odd)
odd_sum m n true = grind (arith, nat_tests)
odd_sum m n false = grind (arith, nat_tests)

pub sees_append : (box : GeoBox) (one other : List Segment) (old mid new : Seen) → Sees box one old mid → Sees box other mid new
    → Sees box (one ++ other) old new
sees_append box one other old mid new e f = record {
  touched = f.touched ∙ rw (e.touched, list_any-append (touches box) one other)
      (or_group old.touched (list_any (touches box) one) (list_any (touches box) other));
  odd = λ none.
      let before = (neither mid.touched (list_any (touches box) other) (sym f.touched ∙ none)).0 in
      f.odd none ∙ rw (e.odd before, sum_by-append (λ s. cond (crosses (north_west box) s) 1 0) one other)
      (sym (odd_sum (count_by (crosses (north_west box)) one) (count_by (crosses (north_west box)) other) old.odd));
}

pub see_step_line : (box : GeoBox) (columns : ℕ) (places : List PlaceOf) (at : ℕ) (start end : PlaceOf) (old mid : Seen) (G : Seen → Type 0)
    → at + 1 < length places
    → start ≡ get_or places at start → end ≡ get_or places (at + 1) end
    → Sees box (record { start = widened columns start; end = widened columns end } ∷ []) old mid
    → ((final : Seen) → Sees box (line_segments columns (drop at places)) old final → G final)
    → (final : Seen) → Sees box (line_segments columns (drop (at + 1) places)) mid final → G final
see_step_line box columns places at start end old mid G h e f seen before final rest =
    let first = next_left places at start (omega arith) e in
    let second = next_left places (at + 1) end h f in
    before final (rw (first, second) (sees_append box (record { start = widened columns start; end = widened columns end } ∷ [])
    (line_segments columns (end ∷ drop ((at + 1) + 1) places)) old mid final seen (rw second at rest)))

pub see_end_line : (box : GeoBox) (columns : ℕ) (places : List PlaceOf) (at : ℕ) (old : Seen) (G : Seen → Type 0) → length places ≤ at + 1
    → ((final : Seen) → Sees box (line_segments columns (drop at places)) old final → G final) → G old
see_end_line box columns places at old G h before =
    before old (rw (no_line columns (drop at places) (grind (arith, common_steps))) (sees_nothing box old))

pub see_step_flat : {A : Type 0} (box : GeoBox) (f : A → List Segment) (xs : List A) (i : ℕ) (x : A) (old mid : Seen) (G : Seen → Type 0)
    → i < length xs
    → x ≡ get_or xs i x → Sees box (f x) old mid
    → ((final : Seen) → Sees box (flat_map f (drop i xs)) old final → G final)
    → (final : Seen) → Sees box (flat_map f (drop (i + 1) xs)) mid final → G final
see_step_flat box f xs i x old mid G h e seen before final rest =
    before final (rw (next_left xs i x h e) (sees_append box (f x) (flat_map f (drop (i + 1) xs)) old mid final seen rest))

pub see_end_flat : {A : Type 0} (box : GeoBox) (f : A → List Segment) (xs : List A) (i : ℕ) (old : Seen) (G : Seen → Type 0) → length xs ≤ i
    → ((final : Seen) → Sees box (flat_map f (drop i xs)) old final → G final) → G old
see_end_flat box f xs i old G h before = before old (rw (none_left xs i h) (sees_nothing box old))
  where
    none_left : {A : Type 0} (xs : List A) (i : ℕ) → length xs ≤ i → drop i xs ≡ []
    none_left xs i h = grind (arith, common_steps)

pub tells_same : (l h x : ℕ) (s : Segment) (climb : Climb) (span : Option Span) → l ≤ h → IsSame s climb
    → Tells (box_between (lat_of l) (lat_of h) x) x (segment_of climb) span
    → Tells (box_between (lat_of l) (lat_of h) x) x s span
tells_same l h x s climb None high same e = (same.touch l h x high ∙ e.0, same.cross l h x ∙ e.1)
tells_same l h x s climb (Some span) high same e =
    (same.touch l h x high ∙ e.0, λ none. same.cross l h x ∙ e.1 (sym (same.touch l h x high) ∙ none))

pub differs : (a b : Bool) → not (beq a b) ≡ cond b (not a) a
differs true true = refl
differs true false = refl
differs false true = refl
differs false false = refl

-- what is seen of all segments tells whether the tile is met
pub met_seen : (filled : Bool) (box : GeoBox) (all : List Segment) (seen : Seen)
    → Sees box all (record { touched = false; odd = false }) seen
    → (seen.touched || (filled && seen.odd)) ≡ meets_box filled box all
met_seen filled box all seen e = go seen.touched refl
  where
    whole : (b : Bool) → cond b (not false) false ≡ b
    whole true = refl
    whole false = refl

    go : (touched : Bool) → touched ≡ seen.touched → (seen.touched || (filled && seen.odd)) ≡ meets_box filled box all
    go true is = rw (← e.touched, ← is) refl
    go false is = rw (e.odd (sym is), ← e.touched, ← is) (ap (λ b. filled && b) (whole (count_by (crosses (north_west box)) all % 2 == 1)))
