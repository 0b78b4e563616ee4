-- Rising ids, one more and one less.
use Rattle.std.proofs.Common.{◌≡◌, ◌<◌, ℕ, suc, zero, Bool, true, false, not, ◌&&◌, ◌||◌, T, List, [], ◌∷◌, map, length, get_or, Result, Ok}
use Rattle.std.proofs.Common.{Err, IfOk, IfErr, is_ok, refl, sym, ap, subst, ◌∙◌, arith, nat_eq, Option, Some, None, if◌then◌else◌, cond}
use Rattle.std.specs.declared.cmp.Ordering.TheVariants.{Less}
use Rattle.std.specs.Ordering.{nat_cmp, is_lt}
use Rattle.std.specs.Cmp.{nat_cmp_total, unsigned_tied}
use Rattle.std.specs.List.{AllByRecursion, insert, remove, dedup, dedup_from}
use Rattle.std.specs.List.Sorted.{IsStrictlySortedBy, IsSorted, IsPermutation, IsBinarySearchResult}
use Rattle.std.specs.FinMap as finite
use Rattle.std.specs.FinMap.{nat_cmp-IsAntisymmetric, is_sorted}
use Rattle.std.proofs.lemmas.List.{get_or_default}
use Rattle.std.proofs.lemmas.List.Kept.{IsStrictlySortedBy-dedup}
use Rattle.std.proofs.lemmas.List.Sorted.{searched, list_any-IsPermutation, IsPermutation-insert, IsPermutation-remove}
use Rattle.std.proofs.lemmas.Cmp.{nat_eq_equiv}
use Rattle.std.proofs.lemmas.Map.Keys.{non_decreasing_from_sorted}
use Rattle.std.proofs.lemmas.Bool.Decides.{nat_tests}
use Rattle.osm_base.specs.values.Ids.{IsRising, has}
use Rattle.object_fold.specs.RisingIds.{StandsAt, IsGapAt, Joins, Leaves}

-- what a binary search among rising ids answers
pub search_gap : (ids : List ℕ) (id : ℕ) (r : Result ℕ ℕ) → IsRising ids → IsBinarySearchResult (λ other. nat_cmp other id) ids r
    → IfErr r (IsGapAt ids id)
search_gap ids id (Ok at) rise found = tt
search_gap ids id (Err at) rise found =
    let gap = searched ids id (Err at) found (λ i j le within. non_decreasing_from_sorted ids rise i j 0 le within) in
    record { within = gap.0; less = gap.1; greater = gap.2 }

less_than : (id other : ℕ) → nat_cmp id other ≡ Less → id < other
less_than id other e = grind (arith, nat_tests)

less_of : (id other : ℕ) → id < other → nat_cmp id other ≡ Less
less_of id other lt = grind (arith, nat_tests)

abbrev AllAbove : ℕ → List ℕ → Type 0
AllAbove id ids = AllByRecursion (λ other. nat_cmp id other ≡ Less) ids

all_above-not : (id : ℕ) (ids : List ℕ) → AllAbove id ids → has ids id ≡ false
all_above-not id [] above = refl
all_above-not id (other ∷ ids) above =
    let lt = less_than id other above.0 in
    let differs : nat_eq other id ≡ false = grind (arith, nat_tests) in
    rw differs (all_above-not id ids above.1)

all_above-insert : (id : ℕ) (ids : List ℕ) (at other : ℕ) → AllAbove id ids → nat_cmp id other ≡ Less → AllAbove id (insert ids at other)
all_above-insert id ids zero other above less = (less, above)
all_above-insert id [] (suc at) other above less = (less, tt)
all_above-insert id (first ∷ ids) (suc at) other above less = (above.0, all_above-insert id ids at other above.1 less)

all_above-remove : (id : ℕ) (ids : List ℕ) (at : ℕ) → at < length ids → AllAbove id ids → AllAbove id (remove ids at)
all_above-remove id [] at within above = absurd (omega (arith, within))
all_above-remove id (first ∷ ids) zero within above = above.1
all_above-remove id (first ∷ ids) (suc at) within above = (above.0, all_above-remove id ids at (omega (arith, within)) above.1)

all_above-at : (id : ℕ) (ids : List ℕ) (at : ℕ) → AllAbove id ids → at < length ids → id < get_or ids at 0
all_above-at id [] at above within = absurd (omega (arith, within))
all_above-at id (first ∷ ids) zero above within = less_than id first above.0
all_above-at id (first ∷ ids) (suc at) above within = all_above-at id ids at above.1 (omega (arith, within))

all_above-from : (id : ℕ) (ids : List ℕ) → ((place : ℕ) → place < length ids → id < get_or ids place 0) → AllAbove id ids
all_above-from id [] greater = tt
all_above-from id (first ∷ ids) greater =
    (less_of id first (greater 0 (omega arith)), all_above-from id ids (λ place within. greater (suc place) (omega (arith, within))))

-- an id in its gap
pub insert-rise : (ids : List ℕ) (id at : ℕ) → IsRising ids → IsGapAt ids id at → IsRising (insert ids at id)
unfolding IsStrictlySortedBy
insert-rise ids id zero rise gap = (all_above-from id ids (λ place within. gap.greater place (omega arith) within), rise)
insert-rise [] id (suc at) rise gap = (tt, tt)
insert-rise (first ∷ ids) id (suc at) rise gap = (
  all_above-insert first ids at id rise.0 (less_of first id (gap.less 0 (omega arith))),
  insert-rise ids id at rise.1 (record {
    within = omega (arith, gap.within);
    less = λ place before. gap.less (suc place) (omega (arith, before));
    greater = λ place le within. gap.greater (suc place) (omega (arith, le)) (omega (arith, within));
  }),
)

pub remove-rise : (ids : List ℕ) (at : ℕ) → at < length ids → IsRising ids → IsRising (remove ids at)
unfolding IsStrictlySortedBy
remove-rise [] at within rise = absurd (omega (arith, within))
remove-rise (first ∷ ids) zero within rise = rise.1
remove-rise (first ∷ ids) (suc at) within rise =
    (all_above-remove first ids at (omega (arith, within)) rise.0, remove-rise ids at (omega (arith, within)) rise.1)

pub has-insert : (ids : List ℕ) (at id : ℕ) → Joins id ids (insert ids at id)
has-insert ids at id other = sym (list_any-IsPermutation (λ own. nat_eq own other) (id ∷ ids) (insert ids at id)
    (IsPermutation-insert ids at id))

has-removed : (ids : List ℕ) (at : ℕ) → IsRising ids → at < length ids → has (remove ids at) (get_or ids at 0) ≡ false
unfolding IsStrictlySortedBy
has-removed [] at rise within = absurd (omega (arith, within))
has-removed (first ∷ ids) zero rise within = all_above-not first ids rise.0
has-removed (first ∷ ids) (suc at) rise within =
    let lt = all_above-at first ids at rise.0 (omega (arith, within)) in
    let differs : nat_eq first (get_or ids at 0) ≡ false = grind (arith, nat_tests) in
    rw differs (has-removed ids at rise.1 (omega (arith, within)))

pub has-remove : (ids : List ℕ) (at id : ℕ) → IsRising ids → StandsAt ids id at → Leaves id ids (remove ids at)
has-remove ids at id rise stands other =
    let all = list_any-IsPermutation (λ own. nat_eq own other) ids (id ∷ remove ids at)
    (IsPermutation-remove ids at id stands.within (sym stands.there ∙ get_or_default ids at 0 id stands.within)) in
    elim (nat_eq id other) as (λ b. nat_eq id other ≡ b → has ids other ≡ (b || has (remove ids at) other)
    → has (remove ids at) other ≡ (not b && has ids other)) [
      | true ↦ λ same _. subst (λ own. has (remove ids at) own ≡ false) (stands.there ∙ grind (arith, nat_tests))
          (has-removed ids at rise stands.within)
      | false ↦ λ differs is. sym is
    ] refl all

pub has_at : (ids : List ℕ) (at id : ℕ) → StandsAt ids id at → has ids id ≡ true
has_at [] at id stands = absurd (omega (arith, stands.within))
has_at (first ∷ ids) zero id stands = let same : nat_eq first id ≡ true = grind (arith, nat_tests, stands.there) in rw same refl
has_at (first ∷ ids) (suc at) id stands =
    let rest = has_at ids at id (record { within = omega (arith, stands.within); there = stands.there }) in
    elim (nat_eq first id) as (λ b. (b || has ids id) ≡ true) [ true ↦ refl | false ↦ rest ]

pub not_has_gap : (ids : List ℕ) (at id : ℕ) → IsGapAt ids id at → has ids id ≡ false
not_has_gap [] at id gap = refl
not_has_gap (first ∷ ids) zero id gap =
    let lt = gap.greater 0 (omega arith) (omega arith) in
    let differs : nat_eq first id ≡ false = grind (arith, nat_tests) in
    rw differs (not_has_gap ids 0 id (record {
      within = omega arith;
      less = λ place before. absurd (omega (arith, before));
      greater =
          λ place le within. gap.greater (suc place) (omega arith) (omega (arith, within));
    }))
not_has_gap (first ∷ ids) (suc at) id gap =
    let lt = gap.less 0 (omega arith) in
    let differs : nat_eq first id ≡ false = grind (arith, nat_tests) in
    rw differs (not_has_gap ids at id (record {
      within = omega (arith, gap.within);
      less =
          λ place before. gap.less (suc place) (omega (arith, before));
      greater =
          λ place le within. gap.greater (suc place) (omega (arith, le)) (omega (arith, within));
    }))

-- Rising ids that are the same set are the same list.
abbrev marks : List ℕ → List (ℕ × Unit {0})
marks ids = map (λ id. (id, tt)) ids

both : (a b : Bool) → T a → T b → T (a && b)
both true b p q = q
both false b p q = p

below_marks : (id : ℕ) (ids : List ℕ) → AllAbove id ids → T (finite.Entries.below_all nat_cmp id (marks ids))
below_marks id [] all = tt
below_marks id (other ∷ ids) all = both _ _ (subst (λ o. T (is_lt o)) (sym all.0) tt) (below_marks id ids all.1)

sorted_marks : (ids : List ℕ) → IsRising ids → T (is_sorted nat_cmp (marks ids))
unfolding IsStrictlySortedBy
sorted_marks [] rise = tt
sorted_marks (id ∷ ids) rise = both _ _ (below_marks id ids rise.0) (sorted_marks ids rise.1)

first_marks : (ids : List ℕ) → map (λ (e : ℕ × Unit {0}). e.0) (marks ids) ≡ ids
first_marks [] = refl
first_marks (id ∷ ids) = ap (λ rest. id ∷ rest) (first_marks ids)

abbrev mark_if : Bool → Option (Unit {0})
mark_if b = if b then Some tt else None

find-marks : (id : ℕ) (ids : List ℕ) → finite.find nat_cmp id (marks ids) ≡ mark_if (has ids id)
find-marks id [] = refl
find-marks id (other ∷ ids) =
    rw (unsigned_tied id other ∙ nat_eq_equiv.symm id other)
    (elim (nat_eq other id) as (λ b. (if b then Some tt else finite.find nat_cmp id (marks ids)) ≡ mark_if (b || has ids id))
    [ true ↦ refl | false ↦ find-marks id ids ])

pub same_rising : (one other : List ℕ) → IsRising one → IsRising other → ((id : ℕ) → has one id ≡ has other id) → one ≡ other
same_rising one other rise rise_other same =
    let sorted = sorted_marks one rise in
    let sorted_other = sorted_marks other rise_other in
    sym (first_marks one)
    ∙ ap (map (λ (e : ℕ × Unit {0}). e.0)) (sym (finite.entries-from_sorted nat_cmp (marks one) sorted))
    ∙ ap finite.keys (finite.same_map nat_cmp_total nat_cmp-IsAntisymmetric (finite.from_sorted {R = nat_cmp} (marks one))
    (finite.from_sorted (marks other))
    (λ id. finite.get-from_sorted nat_cmp (marks one) id sorted ∙ find-marks id one ∙ ap mark_if (same id)
    ∙ sym (find-marks id other) ∙ sym (finite.get-from_sorted nat_cmp (marks other) id sorted_other)))
    ∙ ap (map (λ (e : ℕ × Unit {0}). e.0)) (finite.entries-from_sorted nat_cmp (marks other) sorted_other)
    ∙ first_marks other

pub none-rise : IsRising []
unfolding IsStrictlySortedBy
none-rise = tt

pub searched_has : (ids : List ℕ) (id : ℕ) (r : Result ℕ ℕ) → IfOk r (StandsAt ids id) → IfErr r (IsGapAt ids id) → is_ok r ≡ has ids id
searched_has ids id (Ok at) stands gap = sym (has_at ids at id stands)
searched_has ids id (Err at) stands gap = sym (not_has_gap ids at id gap)

pub joins-there : (ids : List ℕ) (at id : ℕ) → StandsAt ids id at → Joins id ids ids
joins-there ids at id stands other =
    elim (nat_eq id other) as (λ b. nat_eq id other ≡ b → has ids other ≡ (b || has ids other)) [
      | true ↦ λ same. subst (λ own. has ids own ≡ true) (grind (arith, nat_tests)) (has_at ids at id stands)
      | false ↦ λ differs. refl
    ] refl

pub leaves-absent : (ids : List ℕ) (at id : ℕ) → IsGapAt ids id at → Leaves id ids ids
leaves-absent ids at id gap other =
    elim (nat_eq id other) as (λ b. nat_eq id other ≡ b → has ids other ≡ (not b && has ids other)) [
      | true ↦ λ same. subst (λ own. has ids own ≡ false) (grind (arith, nat_tests)) (not_has_gap ids at id gap)
      | false ↦ λ differs. refl
    ] refl

pub has-permutation : (ids sorted : List ℕ) (id : ℕ) → IsPermutation ids sorted → has ids id ≡ has sorted id
has-permutation ids sorted id permutation = list_any-IsPermutation (λ own. nat_eq own id) ids sorted permutation

pub dedup-rise : (ids : List ℕ) → IsSorted nat_cmp ids → IsRising (dedup nat_eq ids)
dedup-rise ids sorted = IsStrictlySortedBy-dedup nat_cmp_total (λ x y. sym (unsigned_tied x y)) ids sorted

or-again : (a b : Bool) → (a || b) ≡ (a || (a || b))
or-again true b = refl
or-again false b = refl

has-dedup_from : (first : ℕ) (ids : List ℕ) (id : ℕ) → has (dedup_from nat_eq first ids) id ≡ (nat_eq first id || has ids id)
has-dedup_from first [] id = refl
has-dedup_from first (next ∷ ids) id =
    elim (nat_eq next first) as (λ b. nat_eq next first ≡ b
    → has (cond b (dedup_from nat_eq first ids) (first ∷ dedup_from nat_eq next ids)) id
    ≡ (nat_eq first id || (nat_eq next id || has ids id))) [
      | true ↦ λ same. has-dedup_from first ids id ∙ or-again (nat_eq first id) (has ids id)
          ∙ ap (λ own. nat_eq first id || (nat_eq own id || has ids id)) {x = first} {y = next} (grind (arith, nat_tests))
      | false ↦ λ differs. ap (λ b. nat_eq first id || b) (has-dedup_from next ids id)
    ] refl

pub has-dedup : (ids : List ℕ) (id : ℕ) → has (dedup nat_eq ids) id ≡ has ids id
has-dedup [] id = refl
has-dedup (first ∷ ids) id = has-dedup_from first ids id
