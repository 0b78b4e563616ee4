-- The least key of which something is not so, among these keys and those.
use Rattle.std.proofs.Common.{◌≡◌, ◌⊎◌, inl, inr, ◌<◌, ◌≤◌, ℕ, Bool, true, false, Option, Some, None, refl, arith}
use Rattle.std.specs.Prelude.{nat_lt, if◌then◌else◌}
use Rattle.std.proofs.lemmas.Bool.Decides.{nat_tests}
use Rattle.store_check.specs.Least.{lesser_of}
use Rattle.store_check.specs.Wrong.{IsLeastOf}

not_less : (a b : ℕ) → nat_lt a b ≡ false → b ≤ a
not_less a b is = grind (arith, nat_tests)

is_less : (a b : ℕ) → nat_lt a b ≡ true → a < b
is_less a b is = grind (arith, nat_tests)

either : (One Two Is : Type 0) → (One → Is) → (Two → Is) → One ⊎ Two → Is
either One Two Is one two part = elim part [ inl is ↦ one is | inr is ↦ two is ]

module _ (Is One Two All : ℕ → Type 0) (split : (key : ℕ) → All key → One key ⊎ Two key) where
  lesser_wrong : (key own : ℕ) → IsLeastOf One Is (Some key) → IsLeastOf Two Is (Some own) → (b : Bool) → nat_lt own key ≡ b
      → IsLeastOf All Is (Some (if b then own else key))
  lesser_wrong key own one two true is = (
    two.0,
    λ other less all. either (One other) (Two other) (Is other) (one.1 other (omega (arith, less, is_less own key is))) (two.1 other less)
        (split other all),
  )
  lesser_wrong key own one two false is = (
    one.0,
    λ other less all. either (One other) (Two other) (Is other) (one.1 other less) (two.1 other (omega (arith, less, not_less own key is)))
        (split other all),
  )

  pub least_both : (found other : Option ℕ) → IsLeastOf One Is found → IsLeastOf Two Is other → IsLeastOf All Is (lesser_of found other)
  least_both None None one two = λ key all. either (One key) (Two key) (Is key) (one key) (two key) (split key all)
  least_both None (Some own) one two =
      (two.0, λ key less all. either (One key) (Two key) (Is key) (one key) (two.1 key less) (split key all))
  least_both (Some key) None one two =
      (one.0, λ own less all. either (One own) (Two own) (Is own) (one.1 own less) (two own) (split own all))
  least_both (Some key) (Some own) one two = lesser_wrong key own one two (nat_lt own key) refl

-- what is so of the same keys
pub least_as : (Seen Is So : ℕ → Type 0) → ((key : ℕ) → Is key → So key) → ((key : ℕ) → So key → Is key) → (found : Option ℕ)
    → IsLeastOf Seen Is found → IsLeastOf Seen So found
least_as Seen Is So leads back None least = λ key seen. leads key (least key seen)
least_as Seen Is So leads back (Some key) least = (λ so. least.0 (back key so), λ own less seen. leads own (least.1 own less seen))
