-- Rings that are not marked, and what is known of all.
use Rattle.std.proofs.Common.{◌≡◌, ℕ, ◌+◌, ◌<◌, ◌≤◌, suc, refl, sym, ap, ◌∙◌, arith, Bool, true, false, cond, not, List, [], ◌∷◌, length, count_by, add-zero, add-one, zero-add, ◌++◌}
use Rattle.std.proofs.Math.Logic.{∥∥₁_elim}
use Rattle.std.proofs.Props.{props}
use Rattle.std.specs.List.{AllByRecursion, filter, range_with_len}
use Rattle.std.specs.List.Sorted.{IsPermutation}
use Rattle.std.proofs.lemmas.List.{append-nil}
use Rattle.std.proofs.lemmas.List.Sorted.{sum_by-IsPermutation}
use Rattle.std.proofs.lemmas.List.Sums.{length-filter, sum_by-cons}
use Rattle.lanes_geo.specs.Nesting.{Ring, depth, holds, ring_at}
use Rattle.ring_nest.specs.Holders.{is_holder}
use Rattle.ring_nest.specs.Told.{is_marked, marked_holders, other_holders, unmarked}
use Rattle.ring_nest.proofs.Owned.{all_filter, range_below, range_more}
use Rattle.ring_nest.proofs.Sums.{count_all}

picked : (P : ℕ → Bool) (number : ℕ) (numbers : List ℕ) (b : Bool)
    → count_by P (cond b (number ∷ numbers) numbers) ≡ cond b (cond {A = ℕ} (P number) 1 0) 0 + count_by P numbers
picked P number numbers true = sum_by-cons (λ (own : ℕ). cond {A = ℕ} (P own) 1 0) number numbers
picked P number numbers false = omega arith

one_part : (a b c d : Bool) → a ≡ b → c ≡ d → cond {A = ℕ} a (cond {A = ℕ} c 1 0) 0 ≡ cond b (cond d 1 0) 0
one_part a b c d e f = rw (e, f)

count_from : (P M : ℕ → Bool) (ring : Ring) (rings : List Ring) (marks : List Bool) (from : ℕ) → length marks ≡ length rings
    → ((i : ℕ) → i < length rings → P (from + i) ≡ holds (ring_at rings i) ring)
    → ((i : ℕ) → i < length rings → M (from + i) ≡ not (is_marked marks i))
    → count_by P (filter M (range_with_len from (length marks))) ≡ other_holders rings marks ring
count_from P M ring [] [] from same ps ms = refl
count_from P M ring [] (mark ∷ marks) from same ps ms = absurd (omega (arith, same))
count_from P M ring (own ∷ rings) [] from same ps ms = absurd (omega (arith, same))
count_from P M ring (own ∷ rings) (mark ∷ marks) from same ps ms =
    let later : (i : ℕ) → (from + 1) + i ≡ from + suc i = λ i. omega arith in
    let rest = count_from P M ring rings marks (from + 1) (omega (arith, same))
    (λ i h. ap P (later i) ∙ ps (suc i) (omega arith)) (λ i h. ap M (later i) ∙ ms (suc i) (omega arith)) in
    let here : M from ≡ not mark = ap M (sym (add-zero from)) ∙ ms 0 (omega arith) in
    let also : P from ≡ holds own ring = ap P (sym (add-zero from)) ∙ ps 0 (omega arith) in
    let one = one_part (M from) (not mark) (P from) (holds own ring) here also in
    picked P from (filter M (range_with_len (from + 1) (length marks))) (M from) ∙ omega (arith, one, rest)

-- how many of the others hold a ring, by their numbers in any order
pub others_are : (rings : List Ring) (marks : List Bool) (order : List ℕ) (ring : Ring) → length marks ≡ length rings
    → ∥ IsPermutation (unmarked marks) order ∥₁ → length (filter (is_holder rings ring) order) ≡ other_holders rings marks ring
others_are rings marks order ring same some = ∥∥₁_elim some (hlevel props) (λ permutation.
    length-filter (is_holder rings ring) order
    ∙ sum_by-IsPermutation (λ number. cond (is_holder rings ring number) 1 0) (unmarked marks) order permutation
    ∙ count_from (is_holder rings ring) (λ number. not (is_marked marks number)) ring rings marks 0 same
    (λ i h. ap (is_holder rings ring) (zero-add i)) (λ i h. ap (λ number. not (is_marked marks number)) (zero-add i)))

-- those that are marked and the others are all
pub depth_of : (rings : List Ring) (marks : List Bool) (ring : Ring) → length marks ≡ length rings
    → depth rings ring ≡ marked_holders rings marks ring + other_holders rings marks ring
depth_of rings marks ring same = count_all (λ other. holds other ring) rings marks same

-- ---- the numbers of those that are not marked, one by one

filter_cases : (p : ℕ → Bool) (xs : List ℕ) (x y : ℕ) (b : Bool) → filter p (xs ++ x ∷ []) ≡ filter p xs ++ filter p (x ∷ [])
    → cond b (y ∷ filter p (xs ++ x ∷ [])) (filter p (xs ++ x ∷ [])) ≡ cond b (y ∷ filter p xs) (filter p xs) ++ filter p (x ∷ [])
filter_cases p xs x y true e = ap (λ ys. y ∷ ys) e
filter_cases p xs x y false e = e

filter_last : (p : ℕ → Bool) (xs : List ℕ) (x : ℕ) → filter p (xs ++ x ∷ []) ≡ filter p xs ++ filter p (x ∷ [])
filter_last p [] x = refl
filter_last p (y ∷ xs) x = filter_cases p xs x y (p y) (filter_last p xs x)

filter_range : (p : ℕ → Bool) (n : ℕ) → filter p (range_with_len 0 (n + 1)) ≡ filter p (range_with_len 0 n) ++ filter p (n ∷ [])
filter_range p n =
    ap (filter p) (rw (add-one, range_more 0 n, zero-add) refl) ∙ filter_last p (range_with_len 0 n) n

pub kept_next : (p : ℕ → Bool) (numbers : List ℕ) (n : ℕ) → p n ≡ true → numbers ≡ filter p (range_with_len 0 n)
    → numbers ++ n ∷ [] ≡ filter p (range_with_len 0 (n + 1))
kept_next p numbers n e so_far = rw (so_far, filter_range p n, e) refl

pub left_next : (p : ℕ → Bool) (numbers : List ℕ) (n : ℕ) → p n ≡ false → numbers ≡ filter p (range_with_len 0 n)
    → numbers ≡ filter p (range_with_len 0 (n + 1))
left_next p numbers n e so_far = rw (so_far, filter_range p n, e, append-nil) refl

pub unmarked_below : (marks : List Bool) (count : ℕ) → length marks ≤ count → AllByRecursion (λ number. number < count) (unmarked marks)
unmarked_below marks count most =
    all_filter (λ number. number < count) (λ number. not (is_marked marks number)) (range_with_len 0 (length marks))
    (range_below 0 (length marks) count (omega (arith, most)))
