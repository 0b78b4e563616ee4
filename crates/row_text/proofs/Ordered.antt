-- Pairs in the order of their first parts, under an order that is total and ties no two.
use Rattle.std.proofs.Common.{◌≡◌, ◌≢◌, ℕ, zero, suc, ◌+◌, ◌<◌, ◌≤◌, Bool, true, false, cond, ◌&&◌, T, Some, None, List, [], ◌∷◌, length}
use Rattle.std.proofs.Common.{drop, map, get_or, length-drop, refl, sym, ◌∙◌, ap, subst, arith}
use Rattle.std.proofs.lemmas.Cmp.{tied_itself}
use Rattle.std.proofs.lemmas.List.{drop-map, drop_more, length-map}
use Rattle.std.proofs.lemmas.List.Sorted.{ranks_by, Contains-permutation, IsPermutation-map, IsPermutation-sym}
use Rattle.std.proofs.lemmas.Fn.{always_returns_same}
use Rattle.std.proofs.lemmas.Map.Keys.{IsDistinct-IsPermutation}
use Rattle.std.specs.Prelude.{Contains}
use Rattle.std.specs.Ordering.{is_eq, is_lt, is_ge, ordering_reverse, eq_by_cmp}
use Rattle.std.specs.declared.cmp.Ordering.{Ordering}
use Rattle.std.specs.declared.cmp.Ordering.TheVariants.{Less, Equal, Greater}
use Rattle.std.specs.Cmp.{IsStrictWeakOrder, IsTotalOrder, eq_by_cmp_equiv}
use Rattle.std.specs.List.{AllByRecursion, IsDistinct}
use Rattle.std.specs.List.Sorted.{IsPermutation, IsSortedBy, IsSortedByKey}
use Rattle.std.specs.Fn.{Called, ComparesAs}
use denote.Ref.{Bor}
use denote.Param.Members.{Mut}
use Rattle.std.specs.FinMap as finite
use Rattle.std.specs.FinMap.{IsAntisymmetric, find, put, is_sorted}
use Rattle.std.specs.FinMap.Entries.{below_all, by_order}

pub both_left : (a b : Bool) → T (a && b) → T a
both_left true b t = tt
both_left false b t = t

pub both_right : (a b : Bool) → T (a && b) → T b
both_right true b t = t
both_right false b t = absurd t

pub less : (o : Ordering) → T (is_lt o) → o ≡ Less
less Less t = refl
less Equal t = absurd t
less Greater t = absurd t

pub below_of : (o : Ordering) → is_ge o ≡ false → o ≡ Less
below_of Less e = refl
below_of Equal e = absurd (cc)
below_of Greater e = absurd (cc)

pub not_below : (o : Ordering) → is_ge o ≡ true → o ≢ Less
not_below Less e = absurd (cc)
not_below Equal e = λ is. absurd (cc)
not_below Greater e = λ is. absurd (cc)

suc_one : (k : ℕ) → suc k + 1 ≡ suc (k + 1)
suc_one k = omega arith

module _ {K : Type 0} (R : K → K → Ordering) (total : IsTotalOrder R) (same : IsAntisymmetric R) where
  -- two keys in order that differ rise
  rises : (key other : K) → is_lt (R other key) ≡ false → eq_by_cmp R key other ≡ false → R key other ≡ Less
  rises key other up other_key =
      elim (R key other) as (λ o. R key other ≡ o → o ≡ Less) [
        | Less ↦ λ e. refl
        | Equal ↦ λ e. let tied : is_eq Equal ≡ false = ap is_eq (sym e) ∙ other_key in absurd (cc)
        | Greater ↦ λ e.
            let down : is_lt Less ≡ false = ap is_lt (sym (total.antisymm other key ∙ ap ordering_reverse e)) ∙ up in
            absurd (cc)
      ] refl

  -- keys that rise under another order differ under this one
  differ : (C : K → K → Ordering) → IsTotalOrder C → (key other : K) → C key other ≡ Less → eq_by_cmp R key other ≡ false
  differ C whole key other below =
      elim (R key other) as (λ o. R key other ≡ o → is_eq o ≡ false) [
        | Less ↦ λ e. refl
        | Greater ↦ λ e. refl
        | Equal ↦ λ e.
            let tied : C key other ≡ Equal = ap (C key) (sym (same key other e)) ∙ tied_itself whole key in
            absurd (cc)
      ] refl

module _ {K X : Type 0} (R : K → K → Ordering) (total : IsTotalOrder R) (same : IsAntisymmetric R) where
  abbrev IsOnce : List (K × X) → Type 0
  IsOnce pairs = IsDistinct (eq_by_cmp R) (map (λ pair. pair.0) pairs)

  -- what rises under another order stands once under this one
  module _ (C : K → K → Ordering) (whole : IsTotalOrder C) where
    apart : (key : K) (pairs : List (K × X)) → T (below_all C key pairs)
        → AllByRecursion (λ other. eq_by_cmp R key other ≡ false) (map (λ pair. pair.0) pairs)
    apart key [] h = tt
    apart key (pair ∷ pairs) h = (differ R total same C whole key pair.0 (less _ (both_left _ _ h)), apart key pairs (both_right _ _ h))

    pub once-rising : (pairs : List (K × X)) → T (is_sorted C pairs) → IsOnce pairs
    unfolding IsDistinct
    once-rising [] h = tt
    once-rising (pair ∷ pairs) h = (apart pair.0 pairs (both_left _ _ h), once-rising pairs (both_right _ _ h))

  -- a pair in front whose key is below the next
  below_all-more : (key other : K) (pairs : List (K × X)) → R key other ≡ Less → T (below_all R other pairs) → T (below_all R key pairs)
  below_all-more key other [] e h = tt
  below_all-more key other (pair ∷ pairs) e h =
      let first : R key pair.0 ≡ Less = total.trans key other pair.0 e (less _ (both_left _ _ h)) in
      rw first (below_all-more key other pairs e (both_right _ _ h))

  is_sorted-more : (pair next : K × X) (pairs : List (K × X)) → R pair.0 next.0 ≡ Less → T (is_sorted R (next ∷ pairs))
      → T (is_sorted R (pair ∷ next ∷ pairs))
  is_sorted-more pair next pairs e h =
      let below : below_all R pair.0 (next ∷ pairs) ≡ below_all R pair.0 pairs = rw e refl in
      subst (λ b. T (b && is_sorted R (next ∷ pairs))) (sym below)
      (elim (below_all R pair.0 pairs) as (λ b. T b → T (b && is_sorted R (next ∷ pairs))) [ true ↦ λ _. h | false ↦ λ t. absurd t ]
      (below_all-more pair.0 next.0 pairs e (both_left _ _ h)))

  -- ---- a map of pairs

  first_below_all : (pair : K × X) (pairs : List (K × X)) → T (below_all R pair.0 pairs) → put R pair.0 pair.1 pairs ≡ pair ∷ pairs
  first_below_all pair [] h = refl
  first_below_all pair (next ∷ pairs) h =
      ap (λ o. by_order o (pair ∷ next ∷ pairs) ((next.0, pair.1) ∷ pairs) (next ∷ put R pair.0 pair.1 pairs)) (less _ (both_left _ _ h))

  no_entries : (pairs : List (K × X)) → length pairs ≡ 0 → pairs ≡ []
  no_entries [] e = refl
  no_entries (pair ∷ pairs) e = absurd (omega arith)

  -- pairs that rise are the entries of their map, in its order
  pub entries-from_entries : (pairs : List (K × X)) → T (is_sorted R pairs) → finite.entries (finite.from_entries {R = R} pairs) ≡ pairs
  entries-from_entries [] h = no_entries _ (sym (finite.len-entries (finite.empty {R = R})) ∙ finite.len-empty R X)
  entries-from_entries (pair ∷ pairs) h =
      finite.entries-insert total (finite.from_entries pairs) pair.0 pair.1
      ∙ ap (put R pair.0 pair.1) (entries-from_entries pairs (both_right _ _ h))
      ∙ first_below_all pair pairs (both_left _ _ h)

  -- the value that is found stands there
  found : (pairs : List (K × X)) (key : K) (value : X) → find R key pairs ≡ Some value → Contains pairs (key, value)
  found [] key value e = absurd (cc)
  found (pair ∷ pairs) key value e =
      elim (R key pair.0) as (λ o. R key pair.0 ≡ o → cond (is_eq o) (Some pair.1) (find R key pairs) ≡ Some value
      → Contains (pair ∷ pairs) (key, value)) [
        | Less ↦ λ is e. let rest = found pairs key value e in (suc rest.0, omega (arith, rest.1), rest.2)
        | Equal ↦ λ is e.
            let own : pair.1 ≡ value = cc in
            let one : pair.0 ≡ key = sym (same key pair.0 is) in
            (0, omega arith, λ i. (one i, own i))
        | Greater ↦ λ is e. let rest = found pairs key value e in (suc rest.0, omega (arith, rest.1), rest.2)
      ] refl e

  differs : (P : K → Type 0) (pairs : List (K × X)) (pair : K × X) → AllByRecursion P (map (λ own. own.0) pairs) → Contains pairs pair
      → P pair.0
  differs P [] pair h c = absurd (omega (arith, c.1))
  differs P (first ∷ pairs) pair h (zero, below, is) = subst (λ own. P own.0) is h.0
  differs P (first ∷ pairs) pair h (suc k, below, is) = differs P pairs pair h.1 (k, omega (arith, below), is)

  -- and one that stands there is found, where each key stands once
  found_once : (pairs : List (K × X)) (key : K) (value : X) → IsOnce pairs → Contains pairs (key, value) → find R key pairs ≡ Some value
  unfolding IsDistinct
  found_once [] key value once c = absurd (omega (arith, c.1))
  found_once (pair ∷ pairs) key value once (zero, below, is) =
      let own : pair.0 ≡ key = ap (λ one. one.0) is in
      let given : pair.1 ≡ value = ap (λ one. one.1) is in
      let tied : R key pair.0 ≡ Equal = ap (R key) own ∙ tied_itself total key in
      ap (λ o. cond (is_eq o) (Some pair.1) (find R key pairs)) tied ∙ ap Some given
  found_once (pair ∷ pairs) key value once (suc k, below, is) =
      let rest : Contains pairs (key, value) = (k, omega (arith, below), is) in
      let other : eq_by_cmp R key pair.0 ≡ false =
      (eq_by_cmp_equiv total).symm key pair.0 ∙ differs (λ own. eq_by_cmp R pair.0 own ≡ false) pairs (key, value) once.0 rest in
      ap (λ b. cond b (Some pair.1) (find R key pairs)) other ∙ found_once pairs key value once.1 rest

  found_still : (pairs others : List (K × X)) → IsPermutation pairs others → IsOnce others → (key : K) (value : X)
      → find R key pairs ≡ Some value → find R key others ≡ Some value
  found_still pairs others p once key value e =
      found_once others key value once (Contains-permutation pairs others (key, value) p (found pairs key value e))

  same_answers : (pairs others : List (K × X)) → IsPermutation pairs others → IsOnce pairs → IsOnce others → (key : K)
      → find R key others ≡ find R key pairs
  same_answers pairs others p once once_too key =
      elim (find R key pairs) as (λ answer. find R key pairs ≡ answer → find R key others ≡ answer) [
        | Some value ↦ λ e. found_still pairs others p once_too key value e
        | None ↦ λ none.
            elim (find R key others) as (λ answer. find R key others ≡ answer → answer ≡ None) [
              | None ↦ λ e. refl
              | Some value ↦ λ e. sym (found_still others pairs (IsPermutation-sym pairs others p) once key value e) ∙ none
            ] refl
      ] refl

  pub IsOnce-IsPermutation : (pairs others : List (K × X)) → IsPermutation pairs others → IsOnce pairs → IsOnce others
  IsOnce-IsPermutation pairs others p h =
      IsDistinct-IsPermutation (eq_by_cmp R) (λ x y. (eq_by_cmp_equiv total).symm x y) _ _
      (IsPermutation-map (λ pair. pair.0) pairs others p) h

  -- pairs that rise are the entries of the map of the same pairs in another order
  pub in_order : (pairs others : List (K × X)) → IsPermutation pairs others → IsOnce pairs → T (is_sorted R others)
      → others ≡ finite.entries (finite.from_entries {R = R} pairs)
  in_order pairs others p once rising =
      let one : finite.from_entries {R = R} others ≡ finite.from_entries pairs = finite.same_map total same _ _ (λ key.
      finite.get-from_entries total others key ∙ same_answers pairs others p once (IsOnce-IsPermutation pairs others p once) key
      ∙ sym (finite.get-from_entries total pairs key)) in
      sym (entries-from_entries others rising) ∙ ap finite.entries one

  -- ---- a walk along a list of what is seen as pairs

  few_left : (pairs : List (K × X)) → length pairs ≤ 1 → T (is_sorted R pairs)
  few_left [] h = tt
  few_left (pair ∷ []) h = tt
  few_left (pair ∷ next ∷ pairs) h = absurd (omega arith)

  is_sorted-drop : (pairs : List (K × X)) (n : ℕ) → T (is_sorted R pairs) → T (is_sorted R (drop n pairs))
  is_sorted-drop pairs zero h = h
  is_sorted-drop [] (suc n) h = tt
  is_sorted-drop (pair ∷ pairs) (suc n) h = is_sorted-drop pairs n (both_right _ _ h)

  module _ {A : Type 0} (seen : A → K × X) where
    -- what a sort by the keys ensures
    pub sorted_by_key : {F : Type 0} {g : Mut F (Bor A × (Bor A × Unit {0})) Ordering} {f : F} (xs : List A)
        → ((lt : A → A → Bool) → IsStrictWeakOrder lt → ComparesAs g lt f → IsSortedBy lt xs)
        → ((a : Bor A × (Bor A × Unit {0})) (r : Ordering) (f' : F) → Called g f a r f'
        → (r ≡ R (seen a.0.now).0 (seen a.1.0.now).0) × (f' ≡ f))
        → IsSortedByKey (λ a. (seen a).0) R xs
    sorted_by_key {g = g} {f = f} xs up h =
        up (λ x y. is_lt (R (seen x).0 (seen y).0)) (ranks_by total (λ a. (seen a).0))
        (always_returns_same g (λ a r. is_lt r ≡ is_lt (R (seen a.0.now).0 (seen a.1.0.now).0)) f
        (λ a r f' k. (ap is_lt (h a r f' k).0, (h a r f' k).1)))

    -- what is sorted and stands once rises
    pub rising-once : (xs : List A) → IsSortedByKey (λ a. (seen a).0) R xs → IsOnce (map seen xs) → T (is_sorted R (map seen xs))
    unfolding IsDistinct
    rising-once [] up once = tt
    rising-once (x ∷ []) up once = tt
    rising-once (x ∷ next ∷ xs) up once =
        is_sorted-more (seen x) (seen next) (map seen xs)
        (rises R total same (seen x).0 (seen next).0 (up 0 x (omega arith) (omega arith)) once.0.0)
        (rising-once (next ∷ xs) (λ k d a b.
        subst (λ n. is_lt (R (seen (get_or (x ∷ next ∷ xs) n d)).0 (seen (get_or (next ∷ xs) k d)).0) ≡ false)
        (suc_one k) (up (suc k) d (omega arith) (omega arith))) once.1)

    -- at the end of the walk
    pub is_sorted-last : (xs : List A) (n : ℕ) → length xs ≤ n + 1 → T (is_sorted R (drop n (map seen xs)))
    is_sorted-last xs n h = few_left (drop n (map seen xs)) (omega (arith, length-drop n (map seen xs), length-map xs seen))

    module _ (xs : List A) (n : ℕ) (first second : A) (within : n + 1 < length xs) (first_is : first ≡ get_or xs n first)
        (second_is : second ≡ get_or xs (n + 1) second) where
      own : drop n (map seen xs) ≡ seen first ∷ drop (n + 1) (map seen xs)
      own = drop-map seen n xs ∙ ap (map seen) (drop_more xs n first (omega arith))
          ∙ ap (λ a. seen a ∷ map seen (drop (n + 1) xs)) (sym first_is) ∙ ap (λ rest. seen first ∷ rest) (sym (drop-map seen (n + 1) xs))

      later : drop (n + 1) (map seen xs) ≡ seen second ∷ drop (n + 1 + 1) (map seen xs)
      later = drop-map seen (n + 1) xs ∙ ap (map seen) (drop_more xs (n + 1) second within)
          ∙ ap (λ a. seen a ∷ map seen (drop (n + 1 + 1) xs)) (sym second_is)
          ∙ ap (λ rest. seen second ∷ rest) (sym (drop-map seen (n + 1 + 1) xs))

      -- a step of it
      pub goes_on : R (seen first).0 (seen second).0 ≡ Less → (T (is_sorted R (drop n (map seen xs))) → T (is_sorted R (map seen xs)))
          → T (is_sorted R (drop (n + 1) (map seen xs))) → T (is_sorted R (map seen xs))
      goes_on e all rest =
          all (subst (λ pairs. T (is_sorted R pairs)) (sym (own ∙ ap (λ back. seen first ∷ back) later))
          (is_sorted-more (seen first) (seen second) (drop (n + 1 + 1) (map seen xs)) e
          (subst (λ pairs. T (is_sorted R pairs)) later rest)))

      -- the keys do not rise here
      pub stops : R (seen first).0 (seen second).0 ≢ Less → T (is_sorted R (map seen xs)) → ⊥
      stops other h =
          let here = subst (λ pairs. T (is_sorted R pairs)) (own ∙ ap (λ back. seen first ∷ back) later) (is_sorted-drop _ n h) in
          other (less _ (both_left _ _ (both_left _ _ here)))
