-- What holds of each item of a list, as it is gone through.
use Rattle.std.proofs.Common.{◌≡◌, ◌<◌, ◌≤◌, ◌+◌, zero, suc, ℕ, List, [], ◌∷◌, length, take, get_or, sym, subst, arith}
use Rattle.std.specs.Prelude.{◌++◌}
use Rattle.std.specs.List.{AllByRecursion}
use Rattle.std.proofs.lemmas.List.{take_more}

module _ {X : Type 0} (Is : X → Type 0) where
  all_last : (front : List X) (one : X) → AllByRecursion Is front → Is one → AllByRecursion Is (front ++ one ∷ [])
  all_last [] one each is = (is, tt)
  all_last (first ∷ front) one each is = (each.0, all_last front one each.1 is)

  -- an item more
  pub all_more : (items : List X) (place : ℕ) (one : X) → place < length items → one ≡ get_or items place one
      → AllByRecursion Is (take place items) → Is one → AllByRecursion Is (take (place + 1) items)
  all_more items place one within is each own =
      subst (λ (l : List X). AllByRecursion Is l) (sym (take_more items place one within))
      (all_last (take place items) (get_or items place one) each (subst Is is own))

  -- those up to the end are all
  pub all_all : (items : List X) (place : ℕ) → length items ≤ place → AllByRecursion Is (take place items) → AllByRecursion Is items
  all_all [] place past each = tt
  all_all (first ∷ items) zero past each = absurd (omega (arith, past))
  all_all (first ∷ items) (suc place) past each = (each.0, all_all items place (omega (arith, past)) each.1)

  -- one of them
  pub all_at : (items : List X) (place : ℕ) (one : X) → AllByRecursion Is items → place < length items → one ≡ get_or items place one
      → Is one
  all_at [] place one each within is = absurd (omega (arith, within))
  all_at (first ∷ items) zero one each within is = subst Is (sym is) each.0
  all_at (first ∷ items) (suc place) one each within is = all_at items place one each.1 (omega (arith, within)) is
