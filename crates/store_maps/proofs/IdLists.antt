-- Rising ids with one more, and with one fewer.
use Rattle.std.proofs.Common.{◌≡◌, ◌<◌, ◌⊎◌, ℕ, Bool, true, false, not, ◌&&◌, ◌||◌, cond, List, [], ◌∷◌, ◌++◌, refl, sym, ap, ◌∙◌, inl, inr}
use Rattle.std.proofs.Common.{arith, nat_eq}
use Rattle.std.specs.Prelude.{nat_lt, map}
use Rattle.std.specs.declared.cmp.Ordering.TheVariants.{Less}
use Rattle.std.specs.Cmp.{nat_cmp_is}
use Rattle.std.specs.List.{filter, AllByRecursion}
use Rattle.std.specs.List.Sorted.{IsStrictlySortedBy}
use Rattle.std.specs.Ordering.{nat_cmp}
use Rattle.std.proofs.lemmas.Bool.Decides.{nat_tests}
use Rattle.std.proofs.lemmas.List.Folds.{list_any-append}
use Rattle.std.proofs.lemmas.List.Kept.{IsStrictlySortedBy-filter}
use Rattle.osm_base.specs.values.Ids.{IsRising, has}
use Rattle.store_maps.specs.Step.{with_id, without_id}

and-false : (b : Bool) → (b && false) ≡ false
and-false true = refl
and-false false = refl

pub or-true : (b : Bool) → (b || true) ≡ true
or-true true = refl
or-true false = refl

pub same_as : (id other : ℕ) → nat_eq id other ≡ true → id ≡ other
same_as id other same = grind (arith, nat_tests)

pub tied_self : (id : ℕ) → nat_eq id id ≡ true
tied_self id = grind (arith, nat_tests)

pub turned_round : (id other : ℕ) → nat_eq id other ≡ nat_eq other id
turned_round id other = grind (arith, nat_tests)

module _ (test : ℕ → Bool) where
  here : (first x : ℕ) (rest : List ℕ) → nat_eq first x ≡ true → has rest x ≡ (test x && has rest x) → (b : Bool) → test x ≡ b
      → has (cond b (first ∷ rest) rest) x ≡ (b && true)
  here first x rest same is true passes = ap (λ c. c || has rest x) same
  here first x rest same is false fails = is ∙ ap (λ c. c && has rest x) fails

  elsewhere : (first x : ℕ) (rest ids : List ℕ) → nat_eq first x ≡ false → has rest x ≡ (test x && has ids x) → (b : Bool)
      → has (cond b (first ∷ rest) rest) x ≡ (test x && has ids x)
  elsewhere first x rest ids differs is true = ap (λ c. c || has rest x) differs ∙ is
  elsewhere first x rest ids differs is false = is

  twice : (a b : Bool) → (a && b) ≡ (a && (a && b))
  twice true b = refl
  twice false b = refl

  -- the ids that pass are those of the list that do
  pub has-filter : (ids : List ℕ) (x : ℕ) → has (filter test ids) x ≡ (test x && has ids x)
  has-filter [] x = sym (and-false (test x))
  has-filter (first ∷ ids) x =
      let rest = filter test ids in
      let is = has-filter ids x in
      elim (nat_eq first x) as (λ b. nat_eq first x ≡ b → has (cond (test first) (first ∷ rest) rest) x ≡ (test x && (b || has ids x))) [
        | true ↦ λ same.
            ap (λ b. has (cond b (first ∷ rest) rest) x) (ap test (same_as first x same))
            ∙ here first x rest same (is ∙ twice (test x) (has ids x) ∙ ap (λ b. test x && b) (sym is)) (test x) refl
        | false ↦ λ differs. elsewhere first x rest ids differs is (test first)
      ] refl

  passes : (ids : List ℕ) → AllByRecursion (λ id. test id ≡ true) (filter test ids)
  passes [] = tt
  passes (first ∷ ids) = elim (test first) as
      (λ b. test first ≡ b → AllByRecursion (λ id. test id ≡ true) (cond b (first ∷ filter test ids) (filter test ids))) [
        | true ↦ λ is. (is, passes ids)
        | false ↦ λ not. passes ids
      ] refl

by_order : (below same above there : Bool) → (below ≡ true) ⊎ ((same ≡ true) ⊎ (above ≡ true))
    → ((below && there) || (same || (above && there))) ≡ (same || there)
by_order below true above there order = or-true (below && there)
by_order true false above true order = refl
by_order true false above false order = and-false above
by_order false false true there order = refl
by_order false false false there (inl is) = absurd (cc)
by_order false false false there (inr (inl is)) = absurd (cc)
by_order false false false there (inr (inr is)) = absurd (cc)

in_order : (id own : ℕ) → (nat_lt id own ≡ true) ⊎ ((nat_eq own id ≡ true) ⊎ (nat_lt own id ≡ true))
in_order id own = elim (nat_lt id own) as
    (λ b. nat_lt id own ≡ b → (nat_lt id own ≡ true) ⊎ ((nat_eq own id ≡ true) ⊎ (nat_lt own id ≡ true))) [
      | true ↦ λ is. inl is
      | false ↦ λ not_below. elim (nat_eq own id) as
          (λ b. nat_eq own id ≡ b → (nat_lt id own ≡ true) ⊎ ((nat_eq own id ≡ true) ⊎ (nat_lt own id ≡ true))) [
            | true ↦ λ is. inr (inl is)
            | false ↦ λ differs. inr (inr (grind (arith, nat_tests)))
          ] refl
    ] refl

-- one more
pub has-with_id : (own : ℕ) (ids : List ℕ) (x : ℕ) → has (with_id own ids) x ≡ (nat_eq own x || has ids x)
has-with_id own ids x =
    list_any-append (λ other. nat_eq other x) (filter (λ id. nat_lt id own) ids) (own ∷ filter (λ id. nat_lt own id) ids)
    ∙ ap (λ b. b || (nat_eq own x || has (filter (λ id. nat_lt own id) ids) x)) (has-filter (λ id. nat_lt id own) ids x)
    ∙ ap (λ b. (nat_lt x own && has ids x) || (nat_eq own x || b)) (has-filter (λ id. nat_lt own id) ids x)
    ∙ by_order (nat_lt x own) (nat_eq own x) (nat_lt own x) (has ids x) (in_order x own)

-- one fewer
pub has-without_id : (own : ℕ) (ids : List ℕ) (x : ℕ) → has (without_id own ids) x ≡ (not (nat_eq own x) && has ids x)
has-without_id own ids x = has-filter (λ id. not (nat_eq own id)) ids x

less : (id own : ℕ) → id < own → nat_cmp id own ≡ Less
less id own lt = sym (nat_cmp_is id own Less lt)

-- ids, one above them all and more above that one rise
joined-rise : (own : ℕ) (front back : List ℕ) → IsRising front → AllByRecursion (λ id. nat_lt id own ≡ true) front → IsRising back
    → AllByRecursion (λ id. nat_lt own id ≡ true) back
    → IsRising (front ++ own ∷ back)
unfolding IsStrictlySortedBy
joined-rise own [] back rise below back_rise above =
    (all_above back above, back_rise)
  where
    all_above : (ids : List ℕ) → AllByRecursion (λ id. nat_lt own id ≡ true) ids → AllByRecursion (λ id. nat_cmp own id ≡ Less) ids
    all_above [] above = tt
    all_above (id ∷ ids) above = (less own id (let is = above.0 in grind (arith, nat_tests)), all_above ids above.1)
joined-rise own (first ∷ front) back rise below back_rise above =
    (all front rise.0, joined-rise own front back rise.1 below.1 back_rise above)
  where
    behind : (ids : List ℕ) → AllByRecursion (λ id. nat_lt own id ≡ true) ids → AllByRecursion (λ id. nat_cmp first id ≡ Less) ids
    behind [] above = tt
    behind (id ∷ ids) above = (less first id (let is = above.0 in let lt = below.0 in grind (arith, nat_tests)), behind ids above.1)

    all : (ids : List ℕ) → AllByRecursion (λ id. nat_cmp first id ≡ Less) ids
        → AllByRecursion (λ id. nat_cmp first id ≡ Less) (ids ++ own ∷ back)
    all [] rise = (less first own (let lt = below.0 in grind (arith, nat_tests)), behind back above)
    all (id ∷ ids) rise = (rise.0, all ids rise.1)

pub with_id-rise : (own : ℕ) (ids : List ℕ) → IsRising ids → IsRising (with_id own ids)
with_id-rise own ids rise =
    joined-rise own (filter (λ id. nat_lt id own) ids) (filter (λ id. nat_lt own id) ids)
    (IsStrictlySortedBy-filter nat_cmp (λ id. nat_lt id own) ids rise) (passes (λ id. nat_lt id own) ids)
    (IsStrictlySortedBy-filter nat_cmp (λ id. nat_lt own id) ids rise) (passes (λ id. nat_lt own id) ids)

pub without_id-rise : (own : ℕ) (ids : List ℕ) → IsRising ids → IsRising (without_id own ids)
without_id-rise own ids rise = IsStrictlySortedBy-filter nat_cmp (λ id. not (nat_eq own id)) ids rise

-- what is in a list is, turned, in the list turned so
pub has-map : (turn : ℕ → ℕ) (ids : List ℕ) (x : ℕ) → has ids x ≡ true → has (map turn ids) (turn x) ≡ true
has-map turn [] x there = absurd (cc)
has-map turn (first ∷ ids) x there =
    elim (nat_eq first x) as (λ b. nat_eq first x ≡ b → (b || has ids x) ≡ true
    → (nat_eq (turn first) (turn x) || has (map turn ids) (turn x)) ≡ true) [
      | true ↦ λ same _. ap (λ b. b || has (map turn ids) (turn x))
          (ap (λ id. nat_eq (turn first) (turn id)) (sym (same_as first x same)) ∙ tied_self (turn first))
      | false ↦ λ _ later. ap (λ b. nat_eq (turn first) (turn x) || b) (has-map turn ids x later) ∙ or-true (nat_eq (turn first) (turn x))
    ] refl there
