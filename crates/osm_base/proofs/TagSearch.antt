-- What the comparison with one key among rising ones tells of the others.
use Rattle.std.proofs.Common.{◌≡◌, ℕ, zero, suc, ◌+◌, ◌<◌, ◌≤◌, Option, None, Some, List, [], ◌∷◌, length, take, drop, get_or, refl, sym}
use Rattle.std.proofs.Common.{◌∙◌, ap, subst, add-one, arith}
use Rattle.std.proofs.Common.{map as each}
use Rattle.std.proofs.lemmas.List.{drop_more, drop-map, length-map}
use Rattle.std.proofs.lemmas.Option.{slice_get-map, slice_get-get_or}
use Rattle.std.specs.Str.{IsUtf8, chars}
use Rattle.std.specs.Option.{option_map}
use Rattle.std.specs.Ordering.{nat_cmp}
use Rattle.std.specs.declared.cmp.Ordering.{Ordering}
use Rattle.std.specs.declared.cmp.Ordering.TheVariants.{Less, Equal, Greater}
use Rattle.std.specs.Cmp.Lexicographic.{slice_cmp}
use Rattle.std.specs.List.{slice_get}
use Rattle.std.specs.FinMap as map
use Rattle.std.specs.FinMap.{find}
use Rattle.osm_base.specs.declared.values.tags.Span.{Span}
use Rattle.osm_base.specs.values.TagText.{pair_of, key_bytes, value_bytes, IsSpan, AreSpans}
use Rattle.osm_base.specs.values.TagOrder.{pairs_of, AreTags, IsAbove, IsBelow, BelongsAt}
use Rattle.osm_base.specs.values.Tags.{TagPairs}
use Rattle.osm_base.proofs.CharacterOrder.{chars-order}
use Rattle.osm_base.proofs.TagPlaces.{IsAbove-through, IsBelow-from, find-at, entries-from_entries, len-from_entries}

pub IsSpan-at : (text : List ℕ) (spans : List Span) (i : ℕ) (d : Span) → AreSpans text spans → i < length spans
    → IsSpan text (get_or spans i d)
IsSpan-at text [] i d h below = absurd (omega arith)
IsSpan-at text (span ∷ spans) zero d h below = h.0
IsSpan-at text (span ∷ spans) (suc i) d h below = IsSpan-at text spans i d h.1 (omega arith)

module _ (text : List ℕ) (spans : List Span) (i : ℕ) (d : Span) (within : i < length spans) where
  pub drop-pairs_of : drop i (pairs_of text spans) ≡ pair_of text (get_or spans i d) ∷ each (pair_of text) (drop (i + 1) spans)
  drop-pairs_of = drop-map (pair_of text) i spans ∙ ap (each (pair_of text)) (drop_more spans i d within)

  pub slice_get-pairs_of : slice_get (pairs_of text spans) i ≡ Some (pair_of text (get_or spans i d))
  slice_get-pairs_of = slice_get-map (pair_of text) spans i ∙ ap (option_map (pair_of text)) (slice_get-get_or spans i d within)

module _ (text key own : List ℕ) (spans : List Span) (i : ℕ) (d : Span) (is : own ≡ key_bytes text (get_or spans i d)) (u : IsUtf8 key)
    (w : IsUtf8 own)
    (within : i < length spans) (h : AreTags text spans) where
  compared : (o : Ordering) → slice_cmp nat_cmp own key ≡ o → slice_cmp nat_cmp (chars (key_bytes text (get_or spans i d))) (chars key) ≡ o
  compared o e = ap (λ bytes. slice_cmp nat_cmp (chars bytes) (chars key)) (sym is) ∙ chars-order own key w u ∙ e

  pub above-at : slice_cmp nat_cmp own key ≡ Less → IsAbove (chars key) (take (i + 1) (pairs_of text spans))
  above-at e = rw add-one (IsAbove-through (chars key) (pairs_of text spans) i _ _ h.rising (drop-pairs_of text spans i d within)
      (compared Less e))

  pub below-at : slice_cmp nat_cmp own key ≡ Greater → IsBelow (chars key) (drop i (pairs_of text spans))
  below-at e = IsBelow-from (chars key) (pairs_of text spans) i _ _ h.rising (drop-pairs_of text spans i d within) (compared Greater e)

  pub found-at : slice_cmp nat_cmp own key ≡ Equal
      → find (slice_cmp nat_cmp) (chars key) (pairs_of text spans) ≡ Some (chars (value_bytes text (get_or spans i d)))
  found-at e = find-at (chars key) (pairs_of text spans) i _ _ h.rising (drop-pairs_of text spans i d within) (compared Equal e)

pub not_both : {A : Type 0} (found : Option A) (x : A) → found ≡ Some x → found ≡ None → ⊥
not_both found x some none = absurd (cc)

-- what a look past the last span would give
abbrev pub past_the_end : Span
past_the_end = record { key = 0; value = 0; end = 0 }

-- a key belongs at one of the places from low to high
pub record IsBetween (key : List ℕ) (pairs : TagPairs) (low high : ℕ) : Type 0 where
  pub in_order : low ≤ high
  pub within : high ≤ length pairs
  pub before : IsAbove key (take low pairs)
  pub behind : IsBelow key (drop high pairs)

drop-whole : (pairs : TagPairs) → drop (length pairs) pairs ≡ []
drop-whole [] = refl
drop-whole (pair ∷ pairs) = drop-whole pairs

take-whole : (pairs : TagPairs) → take (length pairs) pairs ≡ pairs
take-whole [] = refl
take-whole (pair ∷ pairs) = ap (λ rest. pair ∷ rest) (take-whole pairs)

-- before the search
pub IsBetween-whole : (key text : List ℕ) (spans : List Span) → IsBetween key (pairs_of text spans) 0 (length spans)
IsBetween-whole key text spans = record {
  in_order = omega arith;
  within = omega (arith, length-map spans (pair_of text));
  before = tt;
  behind = subst (λ n. IsBelow key (drop n (pairs_of text spans))) (length-map spans (pair_of text))
      (subst (IsBelow key) (sym (drop-whole (pairs_of text spans))) tt);
}

-- after it
pub BelongsAt-IsBetween : (key : List ℕ) (pairs : TagPairs) (low high : ℕ) → IsBetween key pairs low high → high ≤ low
    → BelongsAt key pairs low
BelongsAt-IsBetween key pairs low high h most =
    let level : high ≡ low = omega (arith, h.in_order) in
    record {
      within = omega (arith, h.in_order, h.within);
      before = h.before;
      behind =
          subst (λ n. IsBelow key (drop n pairs)) level h.behind;
    }

-- a step of the search
pub IsBetween-higher : (key : List ℕ) (pairs : TagPairs) (low high middle : ℕ) → IsBetween key pairs low high → middle < high
    → IsAbove key (take (middle + 1) pairs) → IsBetween key pairs (middle + 1) high
IsBetween-higher key pairs low high middle h below before =
    record { in_order = omega arith; within = h.within; before = before; behind = h.behind }

pub IsBetween-lower : (key : List ℕ) (pairs : TagPairs) (low high middle : ℕ) → IsBetween key pairs low high → low ≤ middle → middle ≤ high
    → IsBelow key (drop middle pairs) → IsBetween key pairs low middle
IsBetween-lower key pairs low high middle h least most behind =
    record { in_order = least; within = omega (arith, h.within); before = h.before; behind = behind }

-- what the map of tags tells
module _ (text : List ℕ) (spans : List Span) (h : AreTags text spans) where
  pub length-len : length spans ≡ map.len (map.from_entries {R = slice_cmp nat_cmp} (pairs_of text spans))
  length-len = sym (length-map spans (pair_of text)) ∙ sym (len-from_entries (pairs_of text spans) h.rising)

  pub slice_get-entries : (i : ℕ) (d : Span) (key value : List ℕ) → i < length spans → key ≡ key_bytes text (get_or spans i d)
      → value ≡ value_bytes text (get_or spans i d)
      → slice_get (map.entries (map.from_entries {R = slice_cmp nat_cmp} (pairs_of text spans))) i ≡ Some (chars key, chars value)
  slice_get-entries i d key value within keyed valued =
      ap (λ pairs. slice_get pairs i) (entries-from_entries (pairs_of text spans) h.rising)
      ∙ slice_get-pairs_of text spans i d within
      ∙ ap (λ bytes. Some (chars bytes, chars (value_bytes text (get_or spans i d)))) (sym keyed)
      ∙ ap (λ bytes. Some (chars key, chars bytes)) (sym valued)
