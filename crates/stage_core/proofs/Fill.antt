-- A list whose front is filled with one value.
use Rattle.std.proofs.Common.{◌≡◌, ℕ, zero, suc, ◌+◌, ◌<◌, List, [], ◌∷◌, ◌++◌, drop, length, replicate, set, refl, add-one, arith}

module _ {A : Type 0} where
  fill_suc : (xs : List A) (i : ℕ) (y : A) → i < length xs → set (replicate i y ++ drop i xs) i y ≡ replicate (suc i) y ++ drop (suc i) xs
  fill_suc [] i y less = absurd (omega arith)
  fill_suc (x ∷ xs) zero y less = refl
  fill_suc (x ∷ xs) (suc i) y less = λ k. y ∷ fill_suc xs i y (omega arith) k

  -- one more
  pub fill_next : (xs : List A) (i : ℕ) (y : A) → i < length xs
      → set (replicate i y ++ drop i xs) i y ≡ replicate (i + 1) y ++ drop (i + 1) xs
  fill_next xs i y less = rw add-one (fill_suc xs i y less)
