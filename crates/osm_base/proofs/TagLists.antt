-- Tags in the order of their coming, and the same by rising keys.
use Rattle.std.proofs.Common.{◌≡◌, ◌≢◌, ℕ, zero, suc, ◌+◌, ◌<◌, ◌≤◌, Bool, true, false, cond, ◌&&◌, T, Some, None, List, [], ◌∷◌, length}
use Rattle.std.proofs.Common.{drop, map, get_or, length-drop, refl, sym, ◌∙◌, ap, subst, arith}
use Rattle.std.proofs.lemmas.Cmp.{tied_itself}
use Rattle.std.proofs.lemmas.List.{drop-map}
use Rattle.std.proofs.lemmas.List.Elements.{All-from_recursion, recursion_from_All}
use Rattle.std.proofs.lemmas.List.Sorted.{ranks_by, All-permutation, Contains-permutation, IsPermutation-map, IsPermutation-sym}
use Rattle.std.proofs.lemmas.Fn.{always_returns_same}
use Rattle.std.proofs.lemmas.Map.Keys.{IsDistinct-IsPermutation}
use Rattle.std.specs.Prelude.{Contains}
use Rattle.std.specs.Ordering.{nat_cmp, is_eq, is_lt, is_ge, ordering_reverse, eq_by_cmp}
use Rattle.std.specs.declared.cmp.Ordering.{Ordering}
use Rattle.std.specs.declared.cmp.Ordering.TheVariants.{Less, Equal, Greater}
use Rattle.std.specs.Cmp.{IsStrictWeakOrder, eq_by_cmp_equiv}
use Rattle.std.specs.Cmp.Lexicographic.{slice_cmp, nat_list_cmp_total}
use Rattle.std.specs.List.{AllByRecursion, IsDistinct}
use Rattle.std.specs.List.Sorted.{IsPermutation, IsSortedBy, IsSortedByKey}
use Rattle.std.specs.Fn.{Called, ComparesAs}
use denote.Ref.{Bor}
use denote.Param.Members.{Mut}
use Rattle.std.specs.Str.{chars}
use Rattle.std.specs.FinMap as map_of
use Rattle.std.specs.FinMap.{find, is_sorted, nat_cmp-IsAntisymmetric, slice_cmp-IsAntisymmetric}
use Rattle.std.specs.FinMap.Entries.{below_all}
use Rattle.osm_base.specs.declared.values.tags.Span.{Span}
use Rattle.osm_base.specs.values.Tags.{TagPairs, HasEachKeyOnce}
use Rattle.osm_base.specs.values.TagText.{key_bytes, pair_of, IsSpan, AreSpans}
use Rattle.osm_base.specs.values.TagOrder.{pairs_of}
use Rattle.osm_base.proofs.CharacterOrder.{chars-order}
use Rattle.osm_base.proofs.TagPlaces.{both_left, both_right, less, order}
use Rattle.osm_base.proofs.TagSearch.{drop-pairs_of, IsSpan-at}

same_keys : (key other : List ℕ) → order key other ≡ Equal → key ≡ other
same_keys key other e = slice_cmp-IsAntisymmetric nat_cmp-IsAntisymmetric key other e

-- keys that rise differ
apart : (key : List ℕ) (pairs : TagPairs) → T (below_all order key pairs)
    → AllByRecursion (λ other. eq_by_cmp order key other ≡ false) (map (λ pair. pair.0) pairs)
apart key [] h = tt
apart key (pair ∷ pairs) h = (ap is_eq (less _ (both_left _ _ h)), apart key pairs (both_right _ _ h))

pub once-rising : (pairs : TagPairs) → T (is_sorted order pairs) → HasEachKeyOnce pairs
unfolding IsDistinct
once-rising [] h = tt
once-rising (pair ∷ pairs) h = (apart pair.0 pairs (both_left _ _ h), once-rising pairs (both_right _ _ h))

-- a pair in front whose key is below the next
below_all-more : (key other : List ℕ) (pairs : TagPairs) → order key other ≡ Less → T (below_all order other pairs)
    → T (below_all order key pairs)
below_all-more key other [] e h = tt
below_all-more key other (pair ∷ pairs) e h =
    let first : order key pair.0 ≡ Less = nat_list_cmp_total.trans key other pair.0 e (less _ (both_left _ _ h)) in
    rw first (below_all-more key other pairs e (both_right _ _ h))

is_sorted-more : (pair next : List ℕ × List ℕ) (pairs : TagPairs) → order pair.0 next.0 ≡ Less → T (is_sorted order (next ∷ pairs))
    → T (is_sorted order (pair ∷ next ∷ pairs))
is_sorted-more pair next pairs e h =
    let below : below_all order pair.0 (next ∷ pairs) ≡ below_all order pair.0 pairs = rw e refl in
    subst (λ b. T (b && is_sorted order (next ∷ pairs))) (sym below)
    (elim (below_all order pair.0 pairs) as (λ b. T b → T (b && is_sorted order (next ∷ pairs))) [ true ↦ λ _. h | false ↦ λ t. absurd t ]
    (below_all-more pair.0 next.0 pairs e (both_left _ _ h)))

-- two keys in order that differ rise
rises : (key other : List ℕ) → is_lt (order other key) ≡ false → eq_by_cmp order key other ≡ false → order key other ≡ Less
rises key other up apart =
    elim (order key other) as (λ o. order key other ≡ o → o ≡ Less) [
      | Less ↦ λ e. refl
      | Equal ↦ λ e. let tied : is_eq Equal ≡ false = ap is_eq (sym e) ∙ apart in absurd (cc)
      | Greater ↦ λ e.
          let down : is_lt Less ≡ false = ap is_lt (sym (nat_list_cmp_total.antisymm other key ∙ ap ordering_reverse e)) ∙ up in
          absurd (cc)
    ] refl

suc_one : (k : ℕ) → suc k + 1 ≡ suc (k + 1)
suc_one k = omega arith

-- spans in the order of their keys, each of which stands once
pub rising-once : (text : List ℕ) (spans : List Span) → AreSpans text spans → IsSortedByKey (key_bytes text) order spans
    → HasEachKeyOnce (pairs_of text spans)
    → T (is_sorted order (pairs_of text spans))
unfolding IsDistinct
rising-once text [] cuts up once = tt
rising-once text (span ∷ []) cuts up once = tt
rising-once text (span ∷ next ∷ spans) cuts up once =
    let here : is_lt (order (chars (key_bytes text next)) (chars (key_bytes text span))) ≡ false =
    ap is_lt (chars-order (key_bytes text next) (key_bytes text span) cuts.1.0.key_text cuts.0.key_text)
    ∙ up 0 span (omega arith) (omega arith) in
    is_sorted-more (pair_of text span) (pair_of text next) (pairs_of text spans)
    (rises (chars (key_bytes text span)) (chars (key_bytes text next)) here once.0.0)
    (rising-once text (next ∷ spans) cuts.1 (λ k d a b.
    subst (λ n. is_lt (order (key_bytes text (get_or (span ∷ next ∷ spans) n d)) (key_bytes text (get_or (next ∷ spans) k d))) ≡ false)
    (suc_one k) (up (suc k) d (omega arith) (omega arith))) once.1)

-- what a sort by the bytes of keys ensures
pub sorted_by_key : {F X : Type 0} {g : Mut F (Bor X × (Bor X × Unit {0})) Ordering} {f : F} (key : X → List ℕ) (xs : List X)
    → ((lt : X → X → Bool) → IsStrictWeakOrder lt → ComparesAs g lt f → IsSortedBy lt xs)
    → ((a : Bor X × (Bor X × Unit {0})) (r : Ordering) (f' : F) → Called g f a r f' → (r ≡ order (key a.0.now) (key a.1.0.now)) × (f' ≡ f))
    → IsSortedByKey key order xs
sorted_by_key {g = g} {f = f} key xs up h =
    up (λ x y. is_lt (order (key x) (key y))) (ranks_by nat_list_cmp_total key)
    (always_returns_same g (λ a r. is_lt r ≡ is_lt (order (key a.0.now) (key a.1.0.now))) f
    (λ a r f' k. (ap is_lt (h a r f' k).0, (h a r f' k).1)))

-- ---- what does not change with the order

pub AreSpans-IsPermutation : (text : List ℕ) (spans others : List Span) → IsPermutation spans others → AreSpans text spans
    → AreSpans text others
AreSpans-IsPermutation text spans others p h =
    recursion_from_All (IsSpan text) others (All-permutation (IsSpan text) spans others p (All-from_recursion (IsSpan text) spans h))

pub once-IsPermutation : (pairs others : TagPairs) → IsPermutation pairs others → HasEachKeyOnce pairs → HasEachKeyOnce others
once-IsPermutation pairs others p h =
    IsDistinct-IsPermutation (eq_by_cmp order) (λ x y. (eq_by_cmp_equiv nat_list_cmp_total).symm x y) _ _
    (IsPermutation-map (λ pair. pair.0) pairs others p) h

-- the value that is found stands there
found : (pairs : TagPairs) (key value : List ℕ) → find order key pairs ≡ Some value → Contains pairs (key, value)
found [] key value e = absurd (cc)
found (pair ∷ pairs) key value e =
    elim (order key pair.0) as (λ o. order key pair.0 ≡ o → cond (is_eq o) (Some pair.1) (find order key pairs) ≡ Some value
    → Contains (pair ∷ pairs) (key, value)) [
      | Less ↦ λ is e. let rest = found pairs key value e in (suc rest.0, omega (arith, rest.1), rest.2)
      | Equal ↦ λ is e.
          let own : pair.1 ≡ value = cc in
          let same : pair.0 ≡ key = sym (same_keys key pair.0 is) in
          (0, omega arith, λ i. (same i, own i))
      | Greater ↦ λ is e. let rest = found pairs key value e in (suc rest.0, omega (arith, rest.1), rest.2)
    ] refl e

differs : (P : List ℕ → Type 0) (pairs : TagPairs) (pair : List ℕ × List ℕ) → AllByRecursion P (map (λ own. own.0) pairs)
    → Contains pairs pair → P pair.0
differs P [] pair h c = absurd (omega (arith, c.1))
differs P (first ∷ pairs) pair h (zero, below, is) = subst (λ own. P own.0) is h.0
differs P (first ∷ pairs) pair h (suc k, below, is) = differs P pairs pair h.1 (k, omega (arith, below), is)

-- and one that stands there is found, where each key stands once
found_once : (pairs : TagPairs) (key value : List ℕ) → HasEachKeyOnce pairs → Contains pairs (key, value)
    → find order key pairs ≡ Some value
unfolding IsDistinct
found_once [] key value once c = absurd (omega (arith, c.1))
found_once (pair ∷ pairs) key value once (zero, below, is) =
    let own : pair.0 ≡ key = ap (λ one. one.0) is in
    let given : pair.1 ≡ value = ap (λ one. one.1) is in
    let tied : order key pair.0 ≡ Equal = ap (order key) own ∙ tied_itself nat_list_cmp_total key in
    ap (λ o. cond (is_eq o) (Some pair.1) (find order key pairs)) tied ∙ ap Some given
found_once (pair ∷ pairs) key value once (suc k, below, is) =
    let rest : Contains pairs (key, value) = (k, omega (arith, below), is) in
    let other : eq_by_cmp order key pair.0 ≡ false =
    (eq_by_cmp_equiv nat_list_cmp_total).symm key pair.0
    ∙ differs (λ own. eq_by_cmp order pair.0 own ≡ false) pairs (key, value) once.0 rest in
    ap (λ b. cond b (Some pair.1) (find order key pairs)) other ∙ found_once pairs key value once.1 rest

found_still : (pairs others : TagPairs) → IsPermutation pairs others → HasEachKeyOnce others → (key value : List ℕ)
    → find order key pairs ≡ Some value → find order key others ≡ Some value
found_still pairs others p once key value e =
    found_once others key value once (Contains-permutation pairs others (key, value) p (found pairs key value e))

same_answers : (pairs others : TagPairs) → IsPermutation pairs others → HasEachKeyOnce pairs → HasEachKeyOnce others → (key : List ℕ)
    → find order key others ≡ find order key pairs
same_answers pairs others p once once_too key =
    elim (find order key pairs) as (λ answer. find order key pairs ≡ answer → find order key others ≡ answer) [
      | Some value ↦ λ e. found_still pairs others p once_too key value e
      | None ↦ λ none.
          elim (find order key others) as (λ answer. find order key others ≡ answer → answer ≡ None) [
            | None ↦ λ e. refl
            | Some value ↦ λ e. sym (found_still others pairs (IsPermutation-sym pairs others p) once key value e) ∙ none
          ] refl
    ] refl

pub from_entries-IsPermutation : (pairs others : TagPairs) → IsPermutation pairs others → HasEachKeyOnce pairs → HasEachKeyOnce others
    → map_of.from_entries {R = order} others ≡ map_of.from_entries pairs
from_entries-IsPermutation pairs others p once once_too =
    map_of.same_map nat_list_cmp_total (slice_cmp-IsAntisymmetric nat_cmp-IsAntisymmetric) _ _ (λ key.
    map_of.get-from_entries nat_list_cmp_total others key ∙ same_answers pairs others p once once_too key
    ∙ sym (map_of.get-from_entries nat_list_cmp_total pairs key))

-- ---- a walk along the keys

pub below_of : (o : Ordering) → is_ge o ≡ false → o ≡ Less
below_of Less e = refl
below_of Equal e = absurd (cc)
below_of Greater e = absurd (cc)

pub not_below : (o : Ordering) → is_ge o ≡ true → o ≢ Less
not_below Less e = absurd (cc)
not_below Equal e = λ is. absurd (cc)
not_below Greater e = λ is. absurd (cc)

is_sorted-drop : (pairs : TagPairs) (n : ℕ) → T (is_sorted order pairs) → T (is_sorted order (drop n pairs))
is_sorted-drop pairs zero h = h
is_sorted-drop [] (suc n) h = tt
is_sorted-drop (pair ∷ pairs) (suc n) h = is_sorted-drop pairs n (both_right _ _ h)

few_left : (pairs : TagPairs) → length pairs ≤ 1 → T (is_sorted order pairs)
few_left [] h = tt
few_left (pair ∷ []) h = tt
few_left (pair ∷ next ∷ pairs) h = absurd (omega arith)

-- at the end of the walk
pub is_sorted-last : (text : List ℕ) (spans : List Span) (n : ℕ) → length (pairs_of text spans) ≤ n + 1
    → T (is_sorted order (drop n (pairs_of text spans)))
is_sorted-last text spans n h = few_left (drop n (pairs_of text spans)) (simp length-drop (omega arith))

drop_pairs : (text : List ℕ) (spans : List Span) (n : ℕ) → drop n (pairs_of text spans) ≡ map (pair_of text) (drop n spans)
drop_pairs text spans n = drop-map (pair_of text) n spans

module _ (text key next : List ℕ) (spans : List Span) (n : ℕ) (d : Span) (cuts : AreSpans text spans) (within : n + 1 < length spans)
    (key_is : key ≡ key_bytes text (get_or spans n d)) (next_is : next ≡ key_bytes text (get_or spans (n + 1) d)) where
  own : drop n (pairs_of text spans) ≡ pair_of text (get_or spans n d) ∷ drop (n + 1) (pairs_of text spans)
  own = drop-pairs_of text spans n d (omega arith)
      ∙ ap (λ rest. pair_of text (get_or spans n d) ∷ rest) (sym (drop_pairs text spans (n + 1)))

  later : drop (n + 1) (pairs_of text spans) ≡ pair_of text (get_or spans (n + 1) d) ∷ drop (n + 1 + 1) (pairs_of text spans)
  later = drop-pairs_of text spans (n + 1) d within
      ∙ ap (λ rest. pair_of text (get_or spans (n + 1) d) ∷ rest) (sym (drop_pairs text spans (n + 1 + 1)))

  compared : order (chars (key_bytes text (get_or spans n d))) (chars (key_bytes text (get_or spans (n + 1) d)))
      ≡ slice_cmp nat_cmp key next
  compared =
      chars-order _ _ (IsSpan-at text spans n d cuts (omega arith)).key_text (IsSpan-at text spans (n + 1) d cuts within).key_text
      ∙ ap (λ bytes. slice_cmp nat_cmp bytes (key_bytes text (get_or spans (n + 1) d))) (sym key_is)
      ∙ ap (slice_cmp nat_cmp key) (sym next_is)

  -- a step of it
  pub goes_on : slice_cmp nat_cmp key next ≡ Less
      → (T (is_sorted order (drop n (pairs_of text spans))) → T (is_sorted order (pairs_of text spans)))
      → T (is_sorted order (drop (n + 1) (pairs_of text spans))) → T (is_sorted order (pairs_of text spans))
  goes_on e all rest =
      all (subst (λ pairs. T (is_sorted order pairs)) (sym (own ∙ ap (λ back. pair_of text (get_or spans n d) ∷ back) later))
      (is_sorted-more (pair_of text (get_or spans n d)) (pair_of text (get_or spans (n + 1) d)) (drop (n + 1 + 1) (pairs_of text spans))
      (compared ∙ e) (subst (λ pairs. T (is_sorted order pairs)) later rest)))

  -- the keys do not rise here
  pub stops : slice_cmp nat_cmp key next ≢ Less → T (is_sorted order (pairs_of text spans)) → ⊥
  stops other h =
      let here = subst (λ pairs. T (is_sorted order pairs)) (own ∙ ap (λ back. pair_of text (get_or spans n d) ∷ back) later)
      (is_sorted-drop _ n h) in
      other (sym compared ∙ less _ (both_left _ _ (both_left _ _ here)))
