-- Lists of numbers, none of which falls where one of them, or all, become a number that none is above.
use Rattle.std.proofs.Common.{◌≡◌, ℕ, zero, suc, ◌≤◌, List, [], ◌∷◌, get_or, length, replicate, set, refl, arith}
use Rattle.std.specs.Prelude.{All}
use Rattle.std.proofs.lemmas.List.Elements.{All-head, All-tail}

pub set_rises : (xs : List ℕ) (i y : ℕ) → All (λ x. x ≤ y) xs → (r : ℕ) → get_or xs r 0 ≤ get_or (set xs i y) r 0
set_rises [] i y all r = omega arith
set_rises (x ∷ xs) zero y all zero = All-head (λ x. x ≤ y) x xs all
set_rises (x ∷ xs) zero y all (suc r) = omega arith
set_rises (x ∷ xs) (suc i) y all zero = omega arith
set_rises (x ∷ xs) (suc i) y all (suc r) = set_rises xs i y (All-tail (λ x. x ≤ y) x xs all) r

pub replicate_rises : (xs : List ℕ) (y : ℕ) → All (λ x. x ≤ y) xs → (r : ℕ) → get_or xs r 0 ≤ get_or (replicate (length xs) y) r 0
replicate_rises [] y all r = omega arith
replicate_rises (x ∷ xs) y all zero = All-head (λ x. x ≤ y) x xs all
replicate_rises (x ∷ xs) y all (suc r) = replicate_rises xs y (All-tail (λ x. x ≤ y) x xs all) r
