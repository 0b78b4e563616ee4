-- The digits of numbers, and digits without the zeros at their end.
use Rattle.std.proofs.Common.{◌≡◌, ◌≢◌, ℕ, zero, suc, ◌+◌, ◌-◌, ◌*◌, ◌/◌, ◌%◌, ◌^◌, ◌<◌, ◌≤◌, true, false, cond, eqb, List, [], ◌∷◌, ◌++◌}
use Rattle.std.proofs.Common.{length, length-append, drop, set, refl, sym, ◌∙◌, ap, append_assoc, arith, inl, inr}
use Rattle.std.specs.Prelude.{reverse, replicate, decimal, ℤ, unsigned_abs}
use Rattle.std.specs.Int.{is_negative}
use Rattle.std.specs.List.{prefix_len}
use Rattle.std.proofs.lemmas.List.{reverse-append, reverse-reverse, replicate-append-replicate}
use Rattle.std.proofs.lemmas.Fmt.{decimal_digit, decimal_step}
use Rattle.std.proofs.lemmas.Bool.{cases_lt}
use Rattle.std.proofs.Math.Nat.{pow-succ', one-le-pow}
use Rattle.std.proofs.lemmas.Bool.Decides.{nat_tests}
use Rattle.osm_base.specs.values.Degrees.{is_zero, padded, trimmed, fraction, degrees}

drop-more : (n x : ℕ) (xs : List ℕ) → drop (1 + n) (x ∷ xs) ≡ drop n xs
drop-more n x xs = let e : 1 + n ≡ suc n = omega arith in ap (λ k. drop k (x ∷ xs)) e

-- the digits from the first on that is no zero
abbrev behind_zeros : List ℕ → List ℕ
behind_zeros digits = drop (prefix_len is_zero digits) digits

behind_zeros-append : (digits : List ℕ) → behind_zeros (digits ++ 49 ∷ []) ≡ behind_zeros digits ++ 49 ∷ []
behind_zeros-append [] = refl
behind_zeros-append (digit ∷ digits) =
    elim (eqb digit 48) as (λ b. drop (cond b (1 + prefix_len is_zero (digits ++ 49 ∷ [])) 0) (digit ∷ digits ++ 49 ∷ [])
    ≡ drop (cond b (1 + prefix_len is_zero digits) 0) (digit ∷ digits) ++ 49 ∷ []) [
      | true ↦ rw (
        drop-more (prefix_len is_zero (digits ++ 49 ∷ [])) digit (digits ++ 49 ∷ []),
        drop-more (prefix_len is_zero digits) digit digits,
      ) (behind_zeros-append digits)
      | false ↦ refl
    ]

-- a zero at the end is left out
pub trimmed-zero : (digits : List ℕ) → trimmed (digits ++ 48 ∷ []) ≡ trimmed digits
trimmed-zero digits =
    rw (reverse-append digits (48 ∷ []), drop-more (prefix_len is_zero (reverse digits)) 48 (reverse digits)) refl

-- another digit there stays, with all before it
pub trimmed-digit : (digits : List ℕ) (digit : ℕ) → eqb digit 48 ≡ false → trimmed (digits ++ digit ∷ []) ≡ digits ++ digit ∷ []
trimmed-digit digits digit other =
    let none : prefix_len is_zero (reverse (digits ++ digit ∷ [])) ≡ 0 =
    ap (prefix_len is_zero) (reverse-append digits (digit ∷ [])) ∙ rw other refl in
    ap (λ k. reverse (drop k (reverse (digits ++ digit ∷ [])))) none ∙ reverse-reverse (digits ++ digit ∷ [])

-- a 1 in front stays
pub trimmed-one : (digits : List ℕ) → trimmed (49 ∷ digits) ≡ 49 ∷ trimmed digits
trimmed-one digits =
    ap (λ turned. reverse (behind_zeros turned)) (reverse-append (49 ∷ []) digits)
    ∙ ap reverse (behind_zeros-append (reverse digits))
    ∙ reverse-append (behind_zeros (reverse digits)) (49 ∷ [])

-- a number that ends with the digit 0
pub decimal-zero : (n : ℕ) → 10 ≤ n → n < 2 ^ 64 → n % 10 ≡ 0 → trimmed (decimal (n / 10)) ≡ trimmed (decimal n)
decimal-zero n least most last =
    sym (trimmed-zero (decimal (n / 10)))
    ∙ ap trimmed (ap (λ r. decimal (n / 10) ++ (48 + r) ∷ []) (sym last) ∙ sym (decimal_step n least most))

-- one that does not
pub trimmed-decimal : (n : ℕ) → n < 2 ^ 64 → n % 10 ≢ 0 → trimmed (decimal n) ≡ decimal n
trimmed-decimal n most other =
    let last : eqb (48 + n % 10) 48 ≡ false = grind (arith, nat_tests) in
    elim (cases_lt n 10) [
      | inl small ↦ let e : n % 10 ≡ n = omega arith in
          rw (decimal_digit n small) (trimmed-digit [] (48 + n) (ap (λ r. eqb (48 + r) 48) (sym e) ∙ last))
      | inr large ↦ rw (decimal_step n large most) (trimmed-digit (decimal (n / 10)) (48 + n % 10) last)
    ]

-- one place more
padded-step : (k n : ℕ) → n < 2 ^ 64 → padded (suc (suc k)) (decimal n) ≡ padded (suc k) (decimal (n / 10)) ++ (48 + n % 10) ∷ []
padded-step k n most =
    elim (cases_lt n 10) [
      | inl small ↦
          let quotient : n / 10 ≡ 0 = omega arith in
          let rest : n % 10 ≡ n = omega arith in
          let places : suc (suc k) - 1 ≡ suc k = omega arith in
          let fewer : suc k - 1 ≡ k = omega arith in
          let again : k + 1 ≡ suc k = omega arith in
          let zeros : padded (suc k) (decimal (n / 10)) ≡ replicate (suc k) 48 =
          ap (λ q. padded (suc k) (decimal q)) quotient
          ∙ ap (padded (suc k)) (decimal_digit 0 (omega arith))
          ∙ ap (λ count. replicate count 48 ++ 48 ∷ []) fewer
          ∙ replicate-append-replicate k 1 48
          ∙ ap (λ count. replicate count 48) again in
          ap (padded (suc (suc k))) (decimal_digit n small)
          ∙ ap (λ count. replicate count 48 ++ (48 + n) ∷ []) places
          ∙ ap (λ front. front ++ (48 + n) ∷ []) (sym zeros)
          ∙ ap (λ r. padded (suc k) (decimal (n / 10)) ++ (48 + r) ∷ []) (sym rest)
      | inr large ↦
          let size : suc (suc k) - length (decimal (n / 10) ++ (48 + n % 10) ∷ []) ≡ suc k - length (decimal (n / 10)) =
          omega (arith, length-append (decimal (n / 10)) ((48 + n % 10) ∷ [])) in
          ap (padded (suc (suc k))) (decimal_step n large most)
          ∙ ap (λ count. replicate count 48 ++ (decimal (n / 10) ++ (48 + n % 10) ∷ [])) size
          ∙ sym (append_assoc (replicate (suc k - length (decimal (n / 10))) 48) (decimal (n / 10)) ((48 + n % 10) ∷ []))
    ]

decimal-ten : (p n : ℕ) → 0 < p → 10 * p + n < 2 ^ 64 → decimal (10 * p + n) ≡ decimal (p + n / 10) ++ (48 + n % 10) ∷ []
decimal-ten p n least most =
    let quotient : (10 * p + n) / 10 ≡ p + n / 10 = omega arith in
    let rest : (10 * p + n) % 10 ≡ n % 10 = omega arith in
    decimal_step (10 * p + n) (omega arith) most
    ∙ ap (λ q. decimal q ++ (48 + (10 * p + n) % 10) ∷ []) quotient
    ∙ ap (λ r. decimal (p + n / 10) ++ (48 + r) ∷ []) rest

-- a number behind a 1 is written with all its zeros
pub decimal-behind_one : (k n : ℕ) → n < 10 ^ suc k → 10 ^ suc k + n < 2 ^ 64 → decimal (10 ^ suc k + n) ≡ 49 ∷ padded (suc k) (decimal n)
decimal-behind_one zero n below most =
    let quotient : 1 + n / 10 ≡ 1 = omega arith in
    let rest : n % 10 ≡ n = omega arith in
    decimal-ten 1 n (omega arith) most
    ∙ ap (λ q. decimal q ++ (48 + n % 10) ∷ []) quotient
    ∙ ap (λ front. front ++ (48 + n % 10) ∷ []) (decimal_digit 1 (omega arith))
    ∙ ap (λ r. 49 ∷ (48 + r) ∷ []) rest
    ∙ ap (λ digits. 49 ∷ padded 1 digits) (sym (decimal_digit n below))
decimal-behind_one (suc k) n below most =
    let power : 10 ^ suc (suc k) ≡ 10 * 10 ^ suc k = pow-succ' 10 (suc k) in
    let some : 0 < 10 ^ suc k = one-le-pow (suc k) 10 (omega arith) in
    let fits : 10 * 10 ^ suc k + n < 2 ^ 64 = omega arith in
    let lower : n / 10 < 10 ^ suc k = omega arith in
    ap (λ p. decimal (p + n)) power
    ∙ decimal-ten (10 ^ suc k) n some fits
    ∙ ap (λ front. front ++ (48 + n % 10) ∷ []) (decimal-behind_one k (n / 10) lower (omega arith))
    ∙ ap (λ digits. 49 ∷ digits) (sym (padded-step k n (omega arith)))

pub drop-whole : (xs : List ℕ) → drop (length xs) xs ≡ []
drop-whole [] = refl
drop-whole (x ∷ xs) = drop-whole xs

-- a point in place of the 1 in front
pub drop-point : (at x y : ℕ) (bytes digits : List ℕ) → drop at bytes ≡ x ∷ digits → drop at (set bytes at y) ≡ y ∷ digits
drop-point zero x y [] digits e = absurd (cc)
drop-point zero x y (b ∷ bytes) digits e = ap (λ d. y ∷ d) (cc)
drop-point (suc at) x y [] digits e = absurd (cc)
drop-point (suc at) x y (b ∷ bytes) digits e = drop-point at x y bytes digits e

-- what stands behind the whole degrees where it is not nothing
pub fraction-digits : (units : ℕ) → units ≢ 0 → fraction units ≡ 46 ∷ trimmed (padded 7 (decimal units))
unfolding fraction
fraction-digits units some = let other : eqb units 0 ≡ false = grind (arith, nat_tests) in rw other refl

-- and the digits of a number behind a 1
pub decimal-units : (units : ℕ) → units < 10000000 → trimmed (decimal (10000000 + units)) ≡ 49 ∷ trimmed (padded 7 (decimal units))
decimal-units units below =
    ap trimmed (decimal-behind_one 6 units below (omega arith)) ∙ trimmed-one (padded 7 (decimal units))

-- the text of a coordinate, by its sign
pub degrees-positive : (units : ℤ) → is_negative units ≡ false
    → degrees units ≡ decimal (unsigned_abs units / 10000000) ++ fraction (unsigned_abs units % 10000000)
unfolding degrees
degrees-positive units sign = rw sign refl

pub degrees-negative : (units : ℤ) → is_negative units ≡ true
    → degrees units ≡ 45 ∷ (decimal (unsigned_abs units / 10000000) ++ fraction (unsigned_abs units % 10000000))
unfolding degrees
degrees-negative units sign = rw sign refl

-- the text of a coordinate without its sign, by its size
pub size-text : (units : ℤ) (size whole : ℕ) (back : List ℕ) → size ≡ unsigned_abs units → whole ≡ size / 10000000
    → back ≡ fraction (size % 10000000)
    → decimal whole ++ back ≡ decimal (unsigned_abs units / 10000000) ++ fraction (unsigned_abs units % 10000000)
size-text units size whole back sized wholes backs =
    ap (λ after. decimal whole ++ after) backs
    ∙ ap (λ w. decimal w ++ fraction (size % 10000000)) wholes
    ∙ ap (λ s. decimal (s / 10000000) ++ fraction (s % 10000000)) sized
