-- A test of each byte, as a loop makes it.
use Rattle.std.proofs.Common.{◌≡◌, ℕ, zero, suc, ◌+◌, ◌<◌, ◌≤◌, Bool, true, false, List, [], ◌∷◌, length, get_or, take, refl, sym, ◌∙◌, ap}
use Rattle.std.proofs.Common.{inl, inr}
use Rattle.std.specs.List.{list_all}
use Rattle.std.proofs.lemmas.Bool.{cases_Bool}
use Rattle.std.proofs.lemmas.List.Folds.{list_all_more, list_all_at}
use Rattle.std.proofs.lemmas.List.{take_all}

pub one_passes : {X : Type 0} (p : X → Bool) (xs : List X) (i : ℕ) (d : X) → i < length xs → list_all p (take i xs) ≡ true
    → p (get_or xs i d) ≡ true → list_all p (take (i + 1) xs) ≡ true
one_passes p xs i d lt so_far here = list_all_more p xs i d lt ∙ rw (so_far, here) refl

pub all_pass : {X : Type 0} (p : X → Bool) (xs : List X) (i : ℕ) → length xs ≤ i → list_all p (take i xs) ≡ true → true ≡ list_all p xs
all_pass p xs i le so_far = sym (ap (list_all p) (sym (take_all i xs le)) ∙ so_far)

pub one_fails : {X : Type 0} (p : X → Bool) (xs : List X) (i : ℕ) (d : X) → i < length xs → p (get_or xs i d) ≡ false
    → false ≡ list_all p xs
one_fails p xs i d lt here = sym (list_all_at p xs i d lt here)

-- what passes in a list passes in its front
pub all-take : {X : Type 0} (p : X → Bool) (n : ℕ) (xs : List X) → list_all p xs ≡ true → list_all p (take n xs) ≡ true
all-take p zero xs all = refl
all-take p (suc n) [] all = refl
all-take p (suc n) (x ∷ xs) all = elim (cases_Bool (p x)) [
  | inl here ↦ (let rest : list_all p xs ≡ true = rw here at all in rw here (all-take p n xs rest))
  | inr fails ↦ absurd (let no : false ≡ true = rw fails at all in cc)
]
