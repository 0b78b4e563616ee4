-- How often a number stands in a list, and below a number.
use Rattle.std.proofs.Common.{◌≡◌, ℕ, zero, suc, ◌+◌, ◌<◌, ◌≤◌, List, [], ◌∷◌, ◌++◌, cond, eqb, get_or, length, refl, ap, sym, arith}
use Rattle.std.specs.Prelude.{All}
use Rattle.std.proofs.lemmas.Bool.{lt-ltb, le-ltb}
use Rattle.std.proofs.lemmas.Bool.Decides.{nat_tests}
use Rattle.std.proofs.lemmas.List.Sums.{sum_by_push, sum_by-append, sum_by-cons}
use Rattle.pending_book.specs.Once.{times, once_below}

-- one number more
pub times_push : (x y : ℕ) (xs : List ℕ) → times x (xs ++ y ∷ []) ≡ times x xs + cond (eqb y x) 1 0
times_push x y xs = sum_by_push (λ z. cond (eqb z x) 1 0) xs y

pub times-append : (x : ℕ) (xs ys : List ℕ) → times x (xs ++ ys) ≡ times x xs + times x ys
times-append x xs ys = sum_by-append (λ z. cond (eqb z x) 1 0) xs ys

-- the next number stands once more
pub once_more : (x n : ℕ) → once_below x (n + 1) ≡ once_below x n + cond (eqb n x) 1 0
once_more x n = grind (arith, nat_tests)

-- what stands there stands there at least once
pub stands : (xs : List ℕ) (i d : ℕ) → i < length xs → 1 ≤ times (get_or xs i d) xs
stands [] i d short = absurd (omega arith)
stands (x ∷ xs) zero d short =
    let head : cond (eqb x x) 1 0 ≡ suc 0 = grind (arith, nat_tests) in
    omega (arith, sum_by-cons (λ z. cond (eqb z x) 1 0) x xs)
stands (x ∷ xs) (suc i) d short =
    let rest = stands xs i d (omega arith) in
    omega (arith, sum_by-cons (λ z. cond (eqb z (get_or xs i d)) 1 0) x xs)

-- what stands below n at least once is below n
pub is_below : (x n : ℕ) → 1 ≤ once_below x n → x < n
is_below x n some = grind (arith, nat_tests)

-- all numbers of a list are below n where each stands there at most as often as below n
pub all_below : (xs : List ℕ) (n : ℕ) → ((x : ℕ) → times x xs ≤ once_below x n) → All (λ x. x < n) xs
all_below xs n few = λ i d short. let least = stands xs i d short in let most = few (get_or xs i d) in
    is_below (get_or xs i d) n (omega arith)
