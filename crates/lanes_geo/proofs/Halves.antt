-- The numbers in even places and in odd ones.
use Rattle.std.proofs.Common.{◌≡◌, ℕ, ◌+◌, ◌*◌, suc, zero, refl, ap, arith, Bool, cond, List, [], ◌∷◌, map, length, count_by}
use Rattle.std.specs.List.{AllByRecursion}
use Rattle.std.proofs.lemmas.List.Sums.{sum_by-cons}
use Rattle.lanes_geo.specs.Crossing.{Segment}
use Rattle.lanes_geo.specs.Grid.{evens_of, odds_of}

pub evens-map : (f : Segment → ℕ) (xs : List Segment) → evens_of (map f xs) ≡ map f (evens_of xs)
evens-map f [] = refl
evens-map f (x ∷ []) = refl
evens-map f (x ∷ y ∷ xs) = ap (λ ys. f x ∷ ys) (evens-map f xs)

pub odds-map : (f : Segment → ℕ) (xs : List Segment) → odds_of (map f xs) ≡ map f (odds_of xs)
odds-map f [] = refl
odds-map f (x ∷ []) = refl
odds-map f (x ∷ y ∷ xs) = ap (λ ys. f y ∷ ys) (odds-map f xs)

pub length-evens : (n : ℕ) (xs : List Segment) → length xs ≡ 2 * n → length (evens_of xs) ≡ n
length-evens zero [] e = refl
length-evens zero (x ∷ xs) e = absurd (omega arith)
length-evens (suc n) [] e = absurd (omega arith)
length-evens (suc n) (x ∷ []) e = absurd (omega arith)
length-evens (suc n) (x ∷ y ∷ xs) e = ap suc (length-evens n xs (omega arith))

pub length-odds : (n : ℕ) (xs : List Segment) → length xs ≡ 2 * n → length (odds_of xs) ≡ n
length-odds zero [] e = refl
length-odds zero (x ∷ xs) e = absurd (omega arith)
length-odds (suc n) [] e = absurd (omega arith)
length-odds (suc n) (x ∷ []) e = absurd (omega arith)
length-odds (suc n) (x ∷ y ∷ xs) e = ap suc (length-odds n xs (omega arith))

pub all-evens : (P : Segment → Type 0) (xs : List Segment) → AllByRecursion P xs → AllByRecursion P (evens_of xs)
all-evens P [] all = tt
all-evens P (x ∷ []) all = all
all-evens P (x ∷ y ∷ xs) all = (all.0, all-evens P xs all.1.1)

pub all-odds : (P : Segment → Type 0) (xs : List Segment) → AllByRecursion P xs → AllByRecursion P (odds_of xs)
all-odds P [] all = tt
all-odds P (x ∷ []) all = tt
all-odds P (x ∷ y ∷ xs) all = (all.1.0, all-odds P xs all.1.1)

pub count-halves : (p : Segment → Bool) (xs : List Segment) → count_by p (evens_of xs) + count_by p (odds_of xs) ≡ count_by p xs
count-halves p [] = refl
count-halves p (x ∷ []) = omega arith
count-halves p (x ∷ y ∷ xs) =
    let one = λ (s : Segment). cond (p s) 1 0 in
    let more = count-halves p xs in
    let even = sum_by-cons one x (evens_of xs) in
    let odd = sum_by-cons one y (odds_of xs) in
    let first = sum_by-cons one x (y ∷ xs) in
    let second = sum_by-cons one y xs in
    omega (arith, more, even, odd, first, second)
