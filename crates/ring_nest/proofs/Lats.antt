-- How many of the latitudes of marked rings are one.
use Rattle.std.proofs.Common.{◌≡◌, ℕ, ◌+◌, ◌==◌, ◌<◌, ◌≤◌, zero, suc, refl, ap, ◌∙◌, inl, inr, Bool, true, false, cond, List, [], ◌∷◌, ◌++◌, length, map, drop, get_or, nat_le, nat_lt, count_by, arith}
use Rattle.std.specs.List.Sorted.{IsPartitionPoint, IsPermutation}
use Rattle.std.proofs.lemmas.Bool.{cases_lt}
use Rattle.std.proofs.lemmas.Bool.Decides.{nat_tests}
use Rattle.std.proofs.lemmas.List.Sorted.{sum_by-IsPermutation}
use Rattle.std.proofs.lemmas.List.Sums.{sum_by-append, sum_by-cons}
use Rattle.lanes_geo.specs.Grid.{north_of}
use Rattle.osm_base.specs.values.Place.{PlaceOf}
use Rattle.lanes_geo.specs.Nesting.{Ring}
use Rattle.ring_nest.specs.Latitudes.{at_latitude}
use Rattle.ring_nest.specs.Opened.{sum_open}
use Rattle.ring_nest.proofs.Held.{first_of}

-- how many of some latitudes are one
abbrev pub count_of : ℕ → List ℕ → ℕ
count_of north lats = count_by (λ own. own == north) lats

-- the latitudes of the marked rings so far, and those of the rings that are left, are all
abbrev pub HasSoFar : (rings : List Ring) (marks : List Bool) (at : ℕ) (lats : List ℕ) → Type 0
HasSoFar rings marks at lats =
    (north : ℕ) → count_of north lats + sum_open (at_latitude north) (drop at rings) (drop at marks) ≡ sum_open (at_latitude north) rings marks

-- ---- one ring more

count_ring : (north : ℕ) (ring : Ring) → count_of north (map north_of ring) ≡ at_latitude north ring
count_ring north [] = refl
count_ring north (place ∷ ring) =
    let rest = count_ring north ring in
    let one = sum_by-cons (λ (own : ℕ). cond {A = ℕ} (own == north) 1 0) (north_of place) (map north_of ring) in
    let other = sum_by-cons (λ (own : PlaceOf). cond {A = ℕ} (north_of own == north) 1 0) place ring in
    omega (arith, rest, one, other)

count_more : (north : ℕ) (lats : List ℕ) (ring : Ring) → count_of north (lats ++ map north_of ring) ≡ count_of north lats + at_latitude north ring
count_more north lats ring =
    sum_by-append (λ (own : ℕ). cond {A = ℕ} (own == north) 1 0) lats (map north_of ring) ∙ ap (λ n. count_of north lats + n) (count_ring north ring)

open_more : (f : Ring → ℕ) (rings : List Ring) (marks : List Bool) (at : ℕ) (ring : Ring) (mark : Bool) → length marks ≡ length rings → at < length rings
    → sum_open f (drop at rings) (drop at marks)
    ≡ cond (get_or marks at mark) (f (get_or rings at ring)) 0 + sum_open f (drop (at + 1) rings) (drop (at + 1) marks)
open_more f rings marks at ring mark same within = rw (first_of rings at ring within, first_of marks at mark (omega (arith, same))) refl

pub ring_more : (rings : List Ring) (marks : List Bool) (at : ℕ) (lats : List ℕ) (ring : Ring) (mark : Bool) → length marks ≡ length rings → at < length rings
    → ring ≡ get_or rings at ring → get_or marks at mark ≡ true → HasSoFar rings marks at lats → HasSoFar rings marks (at + 1) (lats ++ map north_of ring)
ring_more rings marks at lats ring mark same within own marked so_far north =
    let left = rw (marked, ← own) at (open_more (at_latitude north) rings marks at ring mark same within) in
    omega (arith, left, so_far north, count_more north lats ring)

pub ring_same : (rings : List Ring) (marks : List Bool) (at : ℕ) (lats : List ℕ) (mark : Bool) → length marks ≡ length rings → at < length rings
    → get_or marks at mark ≡ false → HasSoFar rings marks at lats → HasSoFar rings marks (at + 1) lats
ring_same rings marks at lats mark same within fails so_far north =
    let left = rw fails at (open_more (at_latitude north) rings marks at [] mark same within) in
    omega (arith, left, so_far north)

-- ---- a search in order

-- as many pass a test as stand before the first that fails it
pub point_count : (p : ℕ → Bool) (xs : List ℕ) (at : ℕ) → at ≤ length xs → IsPartitionPoint (λ y. p y ≡ true) (λ y. p y ≡ false) xs at → count_by p xs ≡ at
point_count p [] at few point = omega (arith, few)
point_count p (x ∷ xs) zero few point =
    let rest = point_count p xs zero (omega arith) ((λ k d low high. absurd (omega arith)), λ k d low high. point.1 (suc k) d (omega arith) (omega arith)) in
    let here : p x ≡ false = point.1 zero x (omega arith) (omega arith) in
    let none : cond {A = ℕ} (p x) 1 0 ≡ 0 = rw here refl in
    omega (arith, rest, none, sum_by-cons (λ (own : ℕ). cond {A = ℕ} (p own) 1 0) x xs)
point_count p (x ∷ xs) (suc at) few point =
    let rest = point_count p xs at (omega (arith, few))
    ((λ k d low high. point.0 (suc k) d (omega arith) (omega arith)), λ k d low high. point.1 (suc k) d (omega arith) (omega arith)) in
    let here : p x ≡ true = point.0 zero x (omega arith) (omega arith) in
    let one : cond {A = ℕ} (p x) 1 0 ≡ 1 = rw here refl in
    omega (arith, rest, one, sum_by-cons (λ (own : ℕ). cond {A = ℕ} (p own) 1 0) x xs)

one_of : (x north : ℕ) → cond {A = ℕ} (nat_le x north) 1 0 ≡ cond (nat_lt x north) 1 0 + cond (x == north) 1 0
one_of x north = elim (cases_lt x north) [
  | inl less ↦
      let one : nat_le x north ≡ true = grind (arith, nat_tests) in
      let two : nat_lt x north ≡ true = grind (arith, nat_tests) in
      let three : (x == north) ≡ false = grind (arith, nat_tests) in
      rw (one, two, three) refl
  | inr from ↦ elim (cases_lt north x) [
    | inl above ↦
        let one : nat_le x north ≡ false = grind (arith, nat_tests) in
        let two : nat_lt x north ≡ false = grind (arith, nat_tests) in
        let three : (x == north) ≡ false = grind (arith, nat_tests) in
        rw (one, two, three) refl
    | inr to ↦
        let one : nat_le x north ≡ true = grind (arith, nat_tests) in
        let two : nat_lt x north ≡ false = grind (arith, nat_tests) in
        let three : (x == north) ≡ true = grind (arith, nat_tests) in
        rw (one, two, three) refl
  ]
]

-- those that are not above one are below it, or it
pub count_up_to : (north : ℕ) (xs : List ℕ) → count_by (λ own. nat_le own north) xs ≡ count_by (λ own. nat_lt own north) xs + count_of north xs
count_up_to north [] = refl
count_up_to north (x ∷ xs) =
    let rest = count_up_to north xs in
    let all = sum_by-cons (λ (own : ℕ). cond {A = ℕ} (nat_le own north) 1 0) x xs in
    let below = sum_by-cons (λ (own : ℕ). cond {A = ℕ} (nat_lt own north) 1 0) x xs in
    let same = sum_by-cons (λ (own : ℕ). cond {A = ℕ} (own == north) 1 0) x xs in
    omega (arith, rest, one_of x north, all, below, same)

-- ---- the same in order

pub count_sorted : (north : ℕ) (lats sorted : List ℕ) → IsPermutation lats sorted → count_of north sorted ≡ count_of north lats
count_sorted north lats sorted = sum_by-IsPermutation (λ (own : ℕ). cond {A = ℕ} (own == north) 1 0) lats sorted
