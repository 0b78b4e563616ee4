-- What is left of a list that is sorted, and has its doubles dropped: its distinct items in order.
use Rattle.std.proofs.Common.{◌≡◌, ℕ, Bool, true, false, cond, T, Option, Some, None, List, [], ◌∷◌, map, refl, sym, ap, subst, ◌∙◌}
use Rattle.std.specs.Prelude.{◌||◌, ◌&&◌}
use Rattle.std.specs.declared.cmp.Ordering.{Ordering}
use Rattle.std.specs.declared.cmp.Ordering.TheVariants.{Less, Equal, Greater}
use Rattle.std.specs.Ordering.{eq_by_cmp, is_eq, is_lt, nat_cmp}
use Rattle.std.specs.Cmp.{IsTotalOrder, on_total}
use Rattle.std.specs.Cmp.Lexicographic.{slice_cmp, nat_list_cmp_total}
use Rattle.std.specs.FinMap as finite
use Rattle.std.specs.FinMap.{is_sorted, nat_cmp-IsAntisymmetric, slice_cmp-IsAntisymmetric}
use Rattle.std.specs.List.{AllByRecursion, dedup, dedup_from, list_any}
use Rattle.std.specs.List.Sorted.{IsPermutation, IsSorted, IsStrictlySortedBy}
use Rattle.std.proofs.lemmas.List.Kept.{IsStrictlySortedBy-dedup}
use Rattle.std.proofs.lemmas.List.Sorted.{list_any-IsPermutation}
use Rattle.row_rules.specs.Cell.{distinct, marked}

abbrev order : List ℕ → List ℕ → Ordering
order = slice_cmp nat_cmp

abbrev mark_if : Bool → Option (Unit {0})
mark_if b = cond b (Some tt) None

both : (a b : Bool) → T a → T b → T (a && b)
both true b p q = q
both false b p q = p

below_marks : (text : List ℕ) (texts : List (List ℕ)) → AllByRecursion (λ other. order text other ≡ Less) texts
    → T (finite.Entries.below_all order text (marked texts))
below_marks text [] all = tt
below_marks text (other ∷ texts) all = both _ _ (subst (λ o. T (is_lt o)) (sym all.0) tt) (below_marks text texts all.1)

sorted_marks : (texts : List (List ℕ)) → IsStrictlySortedBy order texts → T (is_sorted order (marked texts))
unfolding IsStrictlySortedBy
sorted_marks [] rise = tt
sorted_marks (text ∷ texts) rise = both _ _ (below_marks text texts rise.0) (sorted_marks texts rise.1)

first_marks : (texts : List (List ℕ)) → map (λ (e : List ℕ × Unit {0}). e.0) (marked texts) ≡ texts
first_marks [] = refl
first_marks (text ∷ texts) = ap (λ rest. text ∷ rest) (first_marks texts)

find-marks : (text : List ℕ) (texts : List (List ℕ))
    → finite.find order text (marked texts) ≡ mark_if (list_any (eq_by_cmp order text) texts)
find-marks text [] = refl
find-marks text (other ∷ texts) =
    elim (eq_by_cmp order text other) as (λ b. cond b (Some tt) (finite.find order text (marked texts))
    ≡ mark_if (b || list_any (eq_by_cmp order text) texts)) [ true ↦ refl | false ↦ find-marks text texts ]

-- texts in order that are the same as others, in whatever order and however often, are the distinct ones of these
distinct-is : (texts others : List (List ℕ)) → IsStrictlySortedBy order texts
    → ((text : List ℕ) → list_any (eq_by_cmp order text) texts ≡ list_any (eq_by_cmp order text) others)
    → texts ≡ distinct others
distinct-is texts others rise same =
    let sorted = sorted_marks texts rise in
    sym (first_marks texts)
    ∙ ap (map (λ (e : List ℕ × Unit {0}). e.0)) (sym (finite.entries-from_sorted order (marked texts) sorted))
    ∙ ap finite.keys (finite.same_map nat_list_cmp_total (slice_cmp-IsAntisymmetric nat_cmp-IsAntisymmetric)
    (finite.from_sorted {R = order} (marked texts)) (finite.from_entries (marked others))
    (λ text. finite.get-from_sorted order (marked texts) text sorted ∙ find-marks text texts ∙ ap mark_if (same text)
    ∙ sym (find-marks text others) ∙ sym (finite.get-from_entries nat_list_cmp_total (marked others) text)))

-- the same of items that are seen as texts
module _ {X : Type 0} (seen : X → List ℕ) where
  abbrev seen_cmp : X → X → Ordering
  seen_cmp x y = order (seen x) (seen y)

  all_seen : (x : X) (xs : List X) → AllByRecursion (λ y. seen_cmp x y ≡ Less) xs
      → AllByRecursion (λ other. order (seen x) other ≡ Less) (map seen xs)
  all_seen x [] all = tt
  all_seen x (y ∷ xs) all = (all.0, all_seen x xs all.1)

  strict_seen : (xs : List X) → IsStrictlySortedBy seen_cmp xs → IsStrictlySortedBy order (map seen xs)
  unfolding IsStrictlySortedBy
  strict_seen [] rise = tt
  strict_seen (x ∷ xs) rise = (all_seen x xs rise.0, strict_seen xs rise.1)

  any_seen : (p : List ℕ → Bool) (xs : List X) → list_any p (map seen xs) ≡ list_any (λ x. p (seen x)) xs
  any_seen p [] = refl
  any_seen p (x ∷ xs) = ap (λ b. p (seen x) || b) (any_seen p xs)

or-again : (a b : Bool) → (a || b) ≡ (a || (a || b))
or-again true b = refl
or-again false b = refl

module _ {X : Type 0} (same : X → X → Bool) (p : X → Bool) (alike : (x y : X) → same x y ≡ true → p x ≡ p y) where
  any-dedup_from : (k : X) (xs : List X) → list_any p (dedup_from same k xs) ≡ (p k || list_any p xs)
  any-dedup_from k [] = refl
  any-dedup_from k (x ∷ xs) =
      elim (same x k) as (λ b. same x k ≡ b → list_any p (cond b (dedup_from same k xs) (k ∷ dedup_from same x xs))
      ≡ (p k || (p x || list_any p xs))) [
        | true ↦ λ is. any-dedup_from k xs ∙ or-again (p k) (list_any p xs) ∙ ap (λ b. p k || (b || list_any p xs)) (sym (alike x k is))
        | false ↦ λ _. ap (λ b. p k || b) (any-dedup_from x xs)
      ] refl

  any-dedup : (xs : List X) → list_any p (dedup same xs) ≡ list_any p xs
  any-dedup [] = refl
  any-dedup (x ∷ xs) = any-dedup_from x xs

equal_of : (r : Ordering) → is_eq r ≡ true → r ≡ Equal
equal_of Less e = absurd (cc)
equal_of Equal e = refl
equal_of Greater e = absurd (cc)

-- items that are sorted and have their doubles dropped are seen as the distinct ones of what they were
module _ {X : Type 0} (seen : X → List ℕ) (same : X → X → Bool) (ties : (x y : X) → same x y ≡ eq_by_cmp (seen_cmp seen) x y) where
  one_text : (x y : X) → same x y ≡ true → seen x ≡ seen y
  one_text x y is = slice_cmp-IsAntisymmetric nat_cmp-IsAntisymmetric (seen x) (seen y)
      (equal_of (order (seen x) (seen y)) (sym (ties x y) ∙ is))

  pub distinct-seen : (items sorted : List X) → IsPermutation items sorted → IsSorted (seen_cmp seen) sorted
      → map seen (dedup same sorted) ≡ distinct (map seen items)
  distinct-seen items sorted permutation order_is =
      let total : IsTotalOrder (seen_cmp seen) = on_total seen nat_list_cmp_total in
      distinct-is (map seen (dedup same sorted)) (map seen items)
      (strict_seen seen (dedup same sorted) (IsStrictlySortedBy-dedup total ties sorted order_is))
      (λ text.
      any_seen seen (eq_by_cmp order text) (dedup same sorted)
      ∙ any-dedup same (λ x. eq_by_cmp order text (seen x)) (λ x y is. ap (eq_by_cmp order text) (one_text x y is)) sorted
      ∙ sym (list_any-IsPermutation (λ x. eq_by_cmp order text (seen x)) items sorted permutation)
      ∙ sym (any_seen seen (eq_by_cmp order text) items))
