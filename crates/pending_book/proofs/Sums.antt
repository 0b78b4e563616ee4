-- Sums over what seats know, where one of them changes.
use Rattle.std.proofs.Common.{◌≡◌, ℕ, zero, suc, ◌+◌, ◌≤◌, List, [], ◌∷◌, set, refl, ap, sym, arith}
use Rattle.std.specs.Prelude.{sum_by}
use mathlib.Core.Option.{some, some-injective, some-ne-none}
use lib.ListN.{get_elem?}
use Rattle.std.proofs.lemmas.List.Sums.{sum_by-cons}

module _ {A : Type 0} where
  -- one of the list changes
  pub sum_set : (f : A → ℕ) (xs : List A) (i : ℕ) (a b : A) → get_elem? xs i ≡ some a → sum_by f (set xs i b) + f a ≡ sum_by f xs + f b
  sum_set f [] i a b e = absurd (some-ne-none a (sym e))
  sum_set f (x ∷ xs) zero a b e = let same = ap f (some-injective x a e) in omega (arith, sum_by-cons f b xs, sum_by-cons f x xs)
  sum_set f (x ∷ xs) (suc i) a b e = let rest = sum_set f xs i a b e in omega (arith, sum_by-cons f x (set xs i b), sum_by-cons f x xs)

  -- a part is at most the whole
  pub part_le : (f : A → ℕ) (xs : List A) (i : ℕ) (a : A) → get_elem? xs i ≡ some a → f a ≤ sum_by f xs
  part_le f [] i a e = absurd (some-ne-none a (sym e))
  part_le f (x ∷ xs) zero a e = let same = ap f (some-injective x a e) in omega (arith, sum_by-cons f x xs)
  part_le f (x ∷ xs) (suc i) a e = let rest = part_le f xs i a e in omega (arith, sum_by-cons f x xs)

  -- smaller parts
  pub sum_le : (f g : A → ℕ) (xs : List A) → ((i : ℕ) (a : A) → get_elem? xs i ≡ some a → f a ≤ g a) → sum_by f xs ≤ sum_by g xs
  sum_le f g [] le = omega arith
  sum_le f g (x ∷ xs) le = let here = le 0 x refl in let rest = sum_le f g xs (λ i a e. le (suc i) a e) in
      omega (arith, sum_by-cons f x xs, sum_by-cons g x xs)

  -- where f is 0 of all, and g is 0 where f is
  pub sum_none : (f g : A → ℕ) (xs : List A) → sum_by f xs ≡ 0 → ((i : ℕ) (a : A) → get_elem? xs i ≡ some a → f a ≡ 0 → g a ≡ 0)
      → sum_by g xs ≡ 0
  sum_none f g [] e zeros = refl
  sum_none f g (x ∷ xs) e zeros =
      let head : f x ≡ 0 = omega (arith, sum_by-cons f x xs) in
      let tail : sum_by f xs ≡ 0 = omega (arith, sum_by-cons f x xs) in
      let here = zeros 0 x refl head in
      let rest = sum_none f g xs tail (λ i a e. zeros (suc i) a e) in
      omega (arith, sum_by-cons g x xs)

  -- one part is the whole of f, and g is 0 where f is
  pub sum_whole : (f g : A → ℕ) (xs : List A) (i : ℕ) (a : A) → get_elem? xs i ≡ some a → sum_by f xs ≡ f a
      → ((j : ℕ) (b : A) → get_elem? xs j ≡ some b → f b ≡ 0 → g b ≡ 0) → sum_by g xs ≡ g a
  sum_whole f g [] i a at e zeros = absurd (some-ne-none a (sym at))
  sum_whole f g (x ∷ xs) zero a at e zeros =
      let same_f = ap f (some-injective x a at) in
      let same_g = ap g (some-injective x a at) in
      let tail : sum_by f xs ≡ 0 = omega (arith, sum_by-cons f x xs) in
      let rest = sum_none f g xs tail (λ j b s. zeros (suc j) b s) in
      omega (arith, sum_by-cons g x xs)
  sum_whole f g (x ∷ xs) (suc i) a at e zeros =
      let part = part_le f xs i a at in
      let head : f x ≡ 0 = omega (arith, sum_by-cons f x xs) in
      let tail : sum_by f xs ≡ f a = omega (arith, sum_by-cons f x xs) in
      let here = zeros 0 x refl head in
      let rest = sum_whole f g xs i a at tail (λ j b s. zeros (suc j) b s) in
      omega (arith, sum_by-cons g x xs)
