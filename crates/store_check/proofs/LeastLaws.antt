-- The least key of which something is not so, key by key.
use Rattle.std.proofs.Common.{◌≡◌, ◌⊎◌, inl, inr, ◌<◌, ◌≤◌, ℕ, Bool, true, false, Option, Some, None, refl, sym, subst, arith}
use Rattle.std.specs.Prelude.{nat_lt, if◌then◌else◌}
use Rattle.std.proofs.lemmas.Bool.Decides.{nat_tests}
use Rattle.store_check.specs.Least.{with_key}
use Rattle.store_check.specs.Wrong.{IsLeastOf}

module _ (Is : ℕ → Type 0) where
  -- no key was seen
  pub least_none : IsLeastOf (λ key. ⊥) Is None
  least_none key none = absurd none

  -- fewer keys
  pub least_fewer : (One All : ℕ → Type 0) (found : Option ℕ) → ((key : ℕ) → One key → All key) → IsLeastOf All Is found
      → IsLeastOf One Is found
  least_fewer One All None leads least = λ key one. least key (leads key one)
  least_fewer One All (Some key) leads least = (least.0, λ own less one. least.1 own less (leads own one))

  both : (Seen : ℕ → Type 0) (key own : ℕ) → (Seen own → Is own) → Is key → Seen own ⊎ (own ≡ key) → Is own
  both Seen key own seen is part = elim part [
    | inl before ↦ seen before
    | inr same ↦ subst (λ (k : ℕ). Is k) (sym same) is
  ]

  apart : (Seen : ℕ → Type 0) (key own : ℕ) → (Seen own → Is own) → own < key → Seen own ⊎ (own ≡ key) → Is own
  apart Seen key own seen less part = elim part [
    | inl before ↦ seen before
    | inr same ↦ absurd (omega (arith, less, same))
  ]

  not_less : (a b : ℕ) → nat_lt a b ≡ false → b ≤ a
  not_less a b is = grind (arith, nat_tests)

  is_less : (a b : ℕ) → nat_lt a b ≡ true → a < b
  is_less a b is = grind (arith, nat_tests)

  wrong_too : (Seen : ℕ → Type 0) (own key : ℕ) → IsLeastOf Seen Is (Some own) → (Is key → ⊥) → (b : Bool) → nat_lt key own ≡ b
      → IsLeastOf (λ k. Seen k ⊎ (k ≡ key)) Is (Some (if b then key else own))
  wrong_too Seen own key least wrong true is = (
    wrong,
    λ other less part. apart Seen key other (λ seen. least.1 other (omega (arith, less, is_less key own is)) seen) less part,
  )
  wrong_too Seen own key least wrong false is = (
    least.0,
    λ other less part. apart Seen key other (λ seen. least.1 other less seen) (omega (arith, less, not_less key own is)) part,
  )

  -- one more
  pub least_more : (Seen : ℕ → Type 0) (found : Option ℕ) (key : ℕ) (is_so : Bool) → IsLeastOf Seen Is found → (is_so ≡ true → Is key)
      → (is_so ≡ false → Is key → ⊥)
      → IsLeastOf (λ k. Seen k ⊎ (k ≡ key)) Is (with_key found key is_so)
  least_more Seen None key true least right wrong = λ own part. both Seen key own (least own) (right refl) part
  least_more Seen (Some own) key true least right wrong =
      (least.0, λ other less part. both Seen key other (λ seen. least.1 other less seen) (right refl) part)
  least_more Seen None key false least right wrong = (wrong refl, λ own less part. apart Seen key own (least own) less part)
  least_more Seen (Some own) key false least right wrong = wrong_too Seen own key least (wrong refl) (nat_lt key own) refl
