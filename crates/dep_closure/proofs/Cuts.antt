-- What was asked of the first entries of a change, or of the first ways, is a front of what is asked of all.
use Rattle.std.proofs.Common.{◌≡◌, ℕ, suc, zero, ◌<◌, List, [], ◌∷◌, ◌++◌, length, map, take, drop, get_or, append_assoc, Result, Ok, Err}
use Rattle.std.proofs.Common.{IfOk, IfErr, OnErr, refl, sym, ◌∙◌, ap, arith}
use Rattle.std.specs.Prelude.{flat_map}

-- what a list gives is what the items before one give, what that one gives, and what those after it give
pub flat_map-cut : {A B : Type 0} (of : A → List B) (xs : List A) (at : ℕ) (x : A) → at < length xs → x ≡ get_or xs at x
    → flat_map of xs ≡ (flat_map of (take at xs) ++ of x) ++ flat_map of (drop (suc at) xs)
flat_map-cut of [] at x within is = absurd (omega arith)
flat_map-cut of (first ∷ rest) zero x within is = ap (λ own. of own ++ flat_map of rest) (sym is)
flat_map-cut of (first ∷ rest) (suc at) x within is =
    ap (λ own. of first ++ own) (flat_map-cut of rest at x (omega arith) is)
    ∙ simp append_assoc

-- the same of ids, of each of which one thing is made
pub map-cut : {B : Type 0} (of : ℕ → B) (ids : List ℕ) (at default : ℕ) → at < length ids
    → map of ids ≡ (map of (take at ids) ++ of (get_or ids at default) ∷ []) ++ map of (drop (suc at) ids)
map-cut of [] at default within = absurd (omega arith)
map-cut of (first ∷ rest) zero default within = refl
map-cut of (first ∷ rest) (suc at) default within = ap (λ own. of first ∷ own) (map-cut of rest at default (omega arith))

-- what holds anyway holds at an error
pub on_err : {A E : Type 0} (result : Result A E) (P : Type 0) → P → OnErr result P
on_err (Ok value) P holds = tt
on_err (Err why) P holds = holds

-- what follows of a value that is there, and of a fault
pub if_ok-then : {A E : Type 0} (result : Result A E) {P Q : A → Type 0} → IfOk result P → ((value : A) → P value → Q value) → IfOk result Q
if_ok-then (Ok value) holds then = then value holds
if_ok-then (Err why) holds then = tt

pub if_err-then : {A E : Type 0} (result : Result A E) {P Q : E → Type 0} → IfErr result P → ((why : E) → P why → Q why) → IfErr result Q
if_err-then (Ok value) holds then = tt
if_err-then (Err why) holds then = then why holds
