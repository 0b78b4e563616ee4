-- Places in lists, and lists of texts that are joined.
use Rattle.std.proofs.Common.{◌≡◌, ◌≤◌, ℕ, zero, suc, ◌+◌, Some, List, [], ◌∷◌, ◌++◌, drop, length, map, refl, ap, ◌∙◌, arith}
use Rattle.std.specs.Borrow.{Bor}
use Rattle.std.specs.List.{flat_map, join_with_byte, slice_get}
use Rattle.std.proofs.lemmas.List.{append-nil}
use Rattle.std.proofs.lemmas.Option.{same_Some}
use Rattle.row_rules.specs.declared.cell.TheConstants.{COMMA}

-- what stands at a place comes first of what is left there
pub drop_at : {X : Type 0} (xs : List X) (i : ℕ) (x : X) → slice_get xs i ≡ Some x → drop i xs ≡ x ∷ drop (i + 1) xs
drop_at [] i x is = absurd (cc)
drop_at (y ∷ xs) zero x is = ap (λ z. z ∷ xs) (same_Some y x is)
drop_at (y ∷ xs) (suc i) x is = drop_at xs i x is ∙ ap (λ k. x ∷ drop k (y ∷ xs)) (let e : suc (i + 1) ≡ suc i + 1 = omega arith in e)

-- past the end nothing is left
pub drop_past : {X : Type 0} (xs : List X) (i : ℕ) → length xs ≤ i → drop i xs ≡ []
drop_past [] zero passed = refl
drop_past [] (suc i) passed = refl
drop_past (x ∷ xs) zero passed = absurd (omega (arith, passed))
drop_past (x ∷ xs) (suc i) passed = drop_past xs i (omega (arith, passed))

-- a text and others, each behind a comma, are joined by commas
pub join-commas : (first : List ℕ) (rest : List (Bor (List ℕ)))
    → first ++ flat_map (λ value. COMMA ∷ value.now) rest ≡ join_with_byte COMMA (first ∷ map (λ value. value.now) rest)
join-commas first [] = append-nil first
join-commas first (value ∷ rest) = ap (λ text. first ++ COMMA ∷ text) (join-commas value.now rest)
