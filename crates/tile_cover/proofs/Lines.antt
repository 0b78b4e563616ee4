-- What lines, rings and polygons gain, one after the other.
use Rattle.std.proofs.Common.{◌≡◌, ℕ, ◌+◌, ◌<◌, ◌≤◌, refl, sym, ◌∙◌, arith, Bool, true, false, ◌||◌, List, [], ◌∷◌, ◌++◌, length, get_or}
use Rattle.std.proofs.Common.{drop, count_by}
use Rattle.std.specs.List.{list_any, flat_map}
use Rattle.std.proofs.lemmas.Grind.{common_steps}
use Rattle.std.proofs.lemmas.List.Sums.{sum_by-append}
use Rattle.std.proofs.lemmas.List.Folds.{list_any-append}
use Rattle.osm_base.specs.values.Place.{PlaceOf}
use Rattle.lanes_geo.specs.Crossing.{Segment, crosses}
use Rattle.tile_cover.specs.declared.events.Event.{Event}
use Rattle.tile_cover.specs.Table.{BoundsOf}
use Rattle.tile_cover.specs.Tile.{touches, north_west, tile_box, widened, line_segments}
use Rattle.tile_cover.specs.Events.{is_at, is_beyond, Gains}
use Rattle.tile_cover.proofs.Gained.{neither}

or_none : (a : Bool) → (a || false) ≡ a
or_none true = refl
or_none false = refl

or_group : (a b c : Bool) → ((a || b) || c) ≡ (a || (b || c))
or_group true b c = refl
or_group false b c = refl

pub gains_none : (table : BoundsOf) (old : List Event) → Gains table [] old old
gains_none table old = record {
  any = λ x y h i. sym (or_none _);
  count = λ x y h i none. nothing_more _;
}
  where
    nothing_more : (n : ℕ) → n ≡ n + 0
    nothing_more n = omega arith

pub gains_append : (table : BoundsOf) (one other : List Segment) (old mid new : List Event) → Gains table one old mid
    → Gains table other mid new → Gains table (one ++ other) old new
gains_append table one other old mid new e f = record {
  any = λ x y h i. f.any x y h i ∙ rw (e.any x y h i, list_any-append (touches (tile_box table x y)) one other)
      (or_group (list_any (is_at y x) old) (list_any (touches (tile_box table x y)) one) (list_any (touches (tile_box table x y)) other));
  count = λ x y h i none.
      let before = (neither _ _ (sym (f.any x y h i) ∙ none)).0 in
      f.count x y h i none ∙ rw (e.count x y h i before, sum_by-append _ one other)
      (grouped (count_by (is_beyond y x) old) (count_by (crosses (north_west (tile_box table x y))) one)
      (count_by (crosses (north_west (tile_box table x y))) other));
}
  where
    grouped : (a b c : ℕ) → (a + b) + c ≡ a + (b + c)
    grouped a b c = omega arith

-- one more of what is left
pub next_left : {A : Type 0} (xs : List A) (i : ℕ) (x : A) → i < length xs → x ≡ get_or xs i x → drop i xs ≡ x ∷ drop (i + 1) xs
next_left xs i x h e = grind (arith, common_steps)

pub step_line : (table : BoundsOf) (columns : ℕ) (places : List PlaceOf) (at : ℕ) (start end : PlaceOf) (old mid : List Event)
    (G : List Event → Type 0) → at + 1 < length places
    → start ≡ get_or places at start → end ≡ get_or places (at + 1) end
    → Gains table (record { start = widened columns start; end = widened columns end } ∷ []) old mid
    → ((final : List Event) → Gains table (line_segments columns (drop at places)) old final → G final)
    → (final : List Event) → Gains table (line_segments columns (drop (at + 1) places)) mid final → G final
step_line table columns places at start end old mid G h e f gained before final rest =
    let first = next_left places at start (omega arith) e in
    let second = next_left places (at + 1) end h f in
    before final (rw (first, second) (gains_append table (record { start = widened columns start; end = widened columns end } ∷ [])
    (line_segments columns (end ∷ drop ((at + 1) + 1) places)) old mid final gained (rw second at rest)))

pub no_line : (columns : ℕ) (places : List PlaceOf) → length places ≤ 1 → line_segments columns places ≡ []
no_line columns [] h = refl
no_line columns (place ∷ []) h = refl
no_line columns (place ∷ other ∷ places) h = absurd (omega arith)

pub end_line : (table : BoundsOf) (columns : ℕ) (places : List PlaceOf) (at : ℕ) (old : List Event) (G : List Event → Type 0)
    → length places ≤ at + 1
    → ((final : List Event) → Gains table (line_segments columns (drop at places)) old final → G final) → G old
end_line table columns places at old G h before =
    before old (rw (no_line columns (drop at places) (grind (arith, common_steps))) (gains_none table old))

pub step_flat : {A : Type 0} (table : BoundsOf) (f : A → List Segment) (xs : List A) (i : ℕ) (x : A) (old mid : List Event)
    (G : List Event → Type 0) → i < length xs
    → x ≡ get_or xs i x → Gains table (f x) old mid
    → ((final : List Event) → Gains table (flat_map f (drop i xs)) old final → G final)
    → (final : List Event) → Gains table (flat_map f (drop (i + 1) xs)) mid final → G final
step_flat table f xs i x old mid G h e gained before final rest =
    before final (rw (next_left xs i x h e) (gains_append table (f x) (flat_map f (drop (i + 1) xs)) old mid final gained rest))

pub end_flat : {A : Type 0} (table : BoundsOf) (f : A → List Segment) (xs : List A) (i : ℕ) (old : List Event) (G : List Event → Type 0)
    → length xs ≤ i
    → ((final : List Event) → Gains table (flat_map f (drop i xs)) old final → G final) → G old
end_flat table f xs i old G h before = before old (rw (none_left xs i h) (gains_none table old))
  where
    none_left : {A : Type 0} (xs : List A) (i : ℕ) → length xs ≤ i → drop i xs ≡ []
    none_left xs i h = grind (arith, common_steps)
