-- How often a number stands in a list.
use Rattle.std.proofs.Common.{◌≡◌, ◌≢◌, ◌⊎◌, inl, inr, ℕ, zero, suc, ◌+◌, ◌-◌, ◌<◌, ◌≤◌, List, [], ◌∷◌, ◌++◌, length, take, drop, get_or}
use Rattle.std.proofs.Common.{refl, sym, ap, ◌∙◌, arith}
use Rattle.std.proofs.lemmas.Bool.{cases_lt}
use Rattle.std.proofs.lemmas.Bool.Decides.{nat_tests}
use Rattle.std.proofs.lemmas.List.{take-append-drop}
use Rattle.chain_store.specs.Parts.{once, times, up_from}

pub once-same : (p n : ℕ) → n ≡ p → once p n ≡ 1
once-same p n is = grind (arith, nat_tests)

pub once-other : (p n : ℕ) → n ≢ p → once p n ≡ 0
once-other p n other = grind (arith, nat_tests)

pub same_or : (a b : ℕ) → (a ≡ b) ⊎ (a ≢ b)
same_or a b = grind arith

pub once-cases : (p n : ℕ) → ((n ≡ p) × (once p n ≡ 1)) ⊎ ((n ≢ p) × (once p n ≡ 0))
once-cases p n = elim (same_or n p) [ inl same ↦ inl (same, once-same p n same) | inr other ↦ inr (other, once-other p n other) ]

pub times-append : (p : ℕ) (xs ys : List ℕ) → times p (xs ++ ys) ≡ times p xs + times p ys
times-append p [] ys = omega arith
times-append p (x ∷ xs) ys = omega (arith, times-append p xs ys)

pub times-cut : (p k : ℕ) (xs : List ℕ) → times p (take k xs) + times p (drop k xs) ≡ times p xs
times-cut p k xs = sym (times-append p (take k xs) (drop k xs)) ∙ ap (λ l. times p l) (take-append-drop k xs)

pub times-up_from : (p n count : ℕ) → ((n ≤ p) × (p < n + count) × (times p (up_from n count) ≡ 1)) ⊎ (times p (up_from n count) ≡ 0)
times-up_from p n zero = inr refl
times-up_from p n (suc count) = elim (once-cases p n) [
  | inl here ↦ elim (times-up_from p (n + 1) count) [
    | inl later ↦ absurd (omega (arith, here.0, later.0))
    | inr none ↦ inl (omega (arith, here.0), omega (arith, here.0), omega (arith, here.1, none))
  ]
  | inr there ↦ elim (times-up_from p (n + 1) count) [
    | inl later ↦ inl (omega (arith, later.0), omega (arith, later.1), omega (arith, there.1, later.2))
    | inr none ↦ inr (omega (arith, there.1, none))
  ]
]

pub times-fresh : (p n count : ℕ) → n ≤ p → p < n + count → times p (up_from n count) ≡ 1
times-fresh p n zero from to = absurd (omega arith)
times-fresh p n (suc count) from to = elim (once-cases p n) [
  | inl here ↦ elim (times-up_from p (n + 1) count) [
    | inl later ↦ absurd (omega (arith, here.0, later.0))
    | inr none ↦ omega (arith, here.1, none)
  ]
  | inr there ↦ omega (arith, there.1, times-fresh p (n + 1) count (omega (arith, there.0, from)) (omega arith))
]

-- a number that stands there has a place
pub place_of : (p : ℕ) (xs : List ℕ) → 1 ≤ times p xs → (k : ℕ) × (k < length xs) × (get_or xs k 0 ≡ p)
place_of p [] some = absurd (omega arith)
place_of p (x ∷ xs) some = elim (once-cases p x) [
  | inl here ↦ (zero, omega arith, here.0)
  | inr there ↦
      let later = place_of p xs (omega (arith, some, there.1)) in
      (suc later.0, omega (arith, later.1), later.2)
]

pub times_at : (p : ℕ) (xs : List ℕ) (k : ℕ) → k < length xs → get_or xs k 0 ≡ p → 1 ≤ times p xs
times_at p [] k below is = absurd (omega arith)
times_at p (x ∷ xs) zero below is = omega (arith, once-same p x is)
times_at p (x ∷ xs) (suc k) below is = omega (arith, times_at p xs k (omega arith) is)

-- how many of the numbers below one stand there
abbrev sum_below : List ℕ → ℕ → ℕ
sum_below xs zero = 0
sum_below xs (suc high) = sum_below xs high + times high xs

sum_below-nil : (high : ℕ) → sum_below [] high ≡ 0
sum_below-nil zero = refl
sum_below-nil (suc high) = omega (arith, sum_below-nil high)

once_below : (x high : ℕ) → (x < high) ⊎ (high ≤ x) → ℕ
once_below x high (inl below) = 1
once_below x high (inr above) = 0

sum_below-cons : (x : ℕ) (xs : List ℕ) (high : ℕ)
    → ((x < high) × (sum_below (x ∷ xs) high ≡ sum_below xs high + 1)) ⊎ ((high ≤ x) × (sum_below (x ∷ xs) high ≡ sum_below xs high))
sum_below-cons x xs zero = inr (omega arith, refl)
sum_below-cons x xs (suc high) = elim (sum_below-cons x xs high) [
  | inl before ↦ elim (once-cases high x) [
    | inl here ↦ absurd (omega (arith, before.0, here.0))
    | inr there ↦ inl (omega (arith, before.0), omega (arith, before.1, there.1))
  ]
  | inr not ↦ elim (once-cases high x) [
    | inl here ↦ inl (omega (arith, here.0), omega (arith, not.1, here.1))
    | inr there ↦ inr (omega (arith, not.0, there.0), omega (arith, not.1, there.1))
  ]
]

pub sum_below-length : (xs : List ℕ) (high : ℕ) → ((p : ℕ) → 1 ≤ times p xs → p < high) → sum_below xs high ≡ length xs
sum_below-length [] high below = sum_below-nil high
sum_below-length (x ∷ xs) high below =
    let here : x < high = below x (omega (arith, once-same x x refl)) in
    let rest = sum_below-length xs high (λ p some. below p (omega (arith, some))) in
    elim (sum_below-cons x xs high) [
      | inl in_it ↦ omega (arith, in_it.1, rest)
      | inr not ↦ absurd (omega (arith, here, not.0))
    ]

sum_below-few : (xs : List ℕ) (low high : ℕ) → ((p : ℕ) → times p xs ≤ 1) → ((p : ℕ) → 1 ≤ times p xs → low ≤ p)
    → sum_below xs high ≤ high - low
sum_below-few xs low zero few above = omega arith
sum_below-few xs low (suc high) few above =
    let before = sum_below-few xs low high few above in
    elim (cases_lt 0 (times high xs)) [
      | inl some ↦ omega (arith, before, few high, above high (omega (arith, some)))
      | inr none ↦ omega (arith, before, none)
    ]

-- numbers from here to before there, each at most once, are no more than these are
pub length-few : (xs : List ℕ) (low high : ℕ) → ((p : ℕ) → times p xs ≤ 1) → ((p : ℕ) → 1 ≤ times p xs → (low ≤ p) × (p < high))
    → length xs ≤ high - low
length-few xs low high few within =
    omega (arith, sum_below-length xs high (λ p some. (within p some).1), sum_below-few xs low high few (λ p some. (within p some).0))

sum_below-many : (xs : List ℕ) (low high : ℕ) → ((p : ℕ) → low ≤ p → p < high → 1 ≤ times p xs) → high - low ≤ sum_below xs high
sum_below-many xs low zero many = omega arith
sum_below-many xs low (suc high) many =
    let before = sum_below-many xs low high (λ p above below. many p above (omega (arith, below))) in
    elim (cases_lt high low) [
      | inl under ↦ omega (arith, under)
      | inr over ↦ omega (arith, before, many high (omega (arith, over)) (omega arith))
    ]

-- numbers from here to before there, each at least once, are no fewer than these are
pub length-many : (xs : List ℕ) (low high : ℕ) → ((p : ℕ) → low ≤ p → p < high → 1 ≤ times p xs) → ((p : ℕ) → 1 ≤ times p xs → p < high)
    → high - low ≤ length xs
length-many xs low high many within = omega (arith, sum_below-length xs high within, sum_below-many xs low high many)
