-- The numbers that digits write, and how great they are.
use Rattle.std.proofs.Common.{◌≡◌, ℕ, ◌+◌, ◌*◌, ◌-◌, ◌^◌, ◌<◌, ◌≤◌, Bool, true, false, ◌&&◌, ◌||◌, List, [], ◌∷◌, ◌++◌, length, get_or}
use Rattle.std.proofs.Common.{take, refl, ◌∙◌, ap, arith, min, ◌⊎◌, inl, inr}
use Rattle.std.specs.Int.{is_in_range}
use Rattle.std.specs.List.{list_all}
use Rattle.std.specs.Char.{is_ascii_digit, is_ascii_hexdigit, digit_value}
use Rattle.std.specs.Str.Parse.{digits_value, digits_value_after, AllDigits}
use Rattle.std.proofs.Math.Nat.{pow-le-pow_right}
use Rattle.std.proofs.lemmas.Bool.{cases_lt, leb-true, lt-ltb, le-ltb}
use Rattle.std.proofs.lemmas.Int.Digits.{digits_value-lt, digits_value_more}
use Rattle.std.proofs.lemmas.List.Sums.{AllPass-from_list_all}
use Rattle.std.proofs.lemmas.Str.Parse.{digits_value-take-le}

-- both tests of a conjunction
pub both : (a b : Bool) → (a && b) ≡ true → (a ≡ true) × (b ≡ true)
both true b e = (refl, e)
both false b e = absurd cc

-- a digit, and its value
pub digit_range : (byte : ℕ) → is_ascii_digit byte ≡ true → (48 ≤ byte) × (byte ≤ 57)
digit_range byte e = let parts = both _ _ e in (leb-true _ _ parts.0, leb-true _ _ parts.1)

pub digit_value-digit : (byte : ℕ) → 48 ≤ byte → byte ≤ 57 → digit_value byte ≡ byte - 48
digit_value-digit byte low high = rw (le-ltb byte 48 low, lt-ltb byte 58 (omega arith)) refl

pub digit_at : (digits : List ℕ) (i : ℕ) → list_all is_ascii_digit digits ≡ true → i < length digits
    → (48 ≤ get_or digits i 0) × (get_or digits i 0 ≤ 57)
digit_at digits i all lt = digit_range _ (AllPass-from_list_all is_ascii_digit digits all i 0 lt)

pub all_digits : (digits : List ℕ) → list_all is_ascii_digit digits ≡ true → AllDigits 10 digits
all_digits [] all = tt
all_digits (byte ∷ digits) all =
    let parts = both _ _ all in
    let range = digit_range byte parts.0 in
    (omega (arith, digit_value-digit byte range.0 range.1), all_digits digits parts.1)

-- one digit more
pub value_more : (digits : List ℕ) (i : ℕ) → list_all is_ascii_digit digits ≡ true → i < length digits
    → digits_value 10 (take (i + 1) digits) ≡ digits_value 10 (take i digits) * 10 + (get_or digits i 0 - 48)
value_more digits i all lt =
    let range = digit_at digits i all lt in
    digits_value_more 10 digits i lt ∙ ap (λ d. digits_value 10 (take i digits) * 10 + d) (digit_value-digit _ range.0 range.1)

-- so many digits write a number below that power of ten
pub value_below : (digits : List ℕ) (most : ℕ) → list_all is_ascii_digit digits ≡ true → length digits ≤ most
    → digits_value 10 digits < 10 ^ most
value_below digits most all le =
    let below = digits_value-lt 10 digits (all_digits digits all) in
    let power : 10 ^ length digits ≤ 10 ^ most = pow-le-pow_right (omega arith) le in
    omega (arith, below, power)

-- and so do fewer of them
pub value_front_below : (digits : List ℕ) (most i : ℕ) → list_all is_ascii_digit digits ≡ true → length digits ≤ most
    → digits_value 10 (take i digits) < 10 ^ most
value_front_below digits most i all le =
    let front = digits_value-take-le 10 digits i (omega arith) in
    omega (arith, front, value_below digits most all le)

pub either : (a b : Bool) → (a || b) ≡ true → (a ≡ true) ⊎ (b ≡ true)
either true b e = inl refl
either false b e = inr e

range : (low high byte : ℕ) → is_in_range low high byte ≡ true → (low ≤ byte) × (byte ≤ high)
range low high byte e = let parts = both _ _ e in (leb-true _ _ parts.0, leb-true _ _ parts.1)

upper_below : (byte : ℕ) → 65 ≤ byte → byte ≤ 70 → digit_value byte < 16
upper_below byte low high = rw (
  le-ltb byte 48 (omega arith),
  le-ltb byte 58 (omega arith),
  le-ltb byte 65 low,
  lt-ltb byte 91 (omega arith),
) (omega arith)

lower_below : (byte : ℕ) → 97 ≤ byte → byte ≤ 102 → digit_value byte < 16
lower_below byte low high = rw (
  le-ltb byte 48 (omega arith),
  le-ltb byte 58 (omega arith),
  le-ltb byte 65 (omega arith),
  le-ltb byte 91 (omega arith),
  le-ltb byte 97 low,
  lt-ltb byte 123 (omega arith),
) (omega arith)

-- the value of a hexadecimal digit
pub hex_below : (byte : ℕ) → is_ascii_hexdigit byte ≡ true → digit_value byte < 16
hex_below byte e = elim (either (is_in_range 48 57 byte || is_in_range 65 70 byte) (is_in_range 97 102 byte) e) [
  | inl front ↦ elim (either (is_in_range 48 57 byte) (is_in_range 65 70 byte) front) [
    | inl digit ↦ (let r = range 48 57 byte digit in omega (arith, digit_value-digit byte r.0 r.1, r.0, r.1))
    | inr upper ↦ (let r = range 65 70 byte upper in upper_below byte r.0 r.1)
  ]
  | inr lower ↦ (let r = range 97 102 byte lower in lower_below byte r.0 r.1)
]

pub all_hex : (digits : List ℕ) → list_all is_ascii_hexdigit digits ≡ true → AllDigits 16 digits
all_hex [] all = tt
all_hex (byte ∷ digits) all = let parts = both _ _ all in (hex_below byte parts.0, all_hex digits parts.1)

pub hex_front_below : (digits : List ℕ) (most i : ℕ) → list_all is_ascii_hexdigit digits ≡ true → length digits ≤ most
    → digits_value 16 (take i digits) < 16 ^ most
hex_front_below digits most i all le =
    let front = digits_value-take-le 16 digits i (omega arith) in
    let below = digits_value-lt 16 digits (all_hex digits all) in
    let power : 16 ^ length digits ≤ 16 ^ most = pow-le-pow_right (omega arith) le in
    omega (arith, front, below, power)

-- digits that follow others
pub digits_value_after-append : (radix n : ℕ) (front back : List ℕ)
    → digits_value_after radix n (front ++ back) ≡ digits_value_after radix (digits_value_after radix n front) back
digits_value_after-append radix n [] back = refl
digits_value_after-append radix n (byte ∷ front) back = digits_value_after-append radix (n * radix + digit_value byte) front back

-- a number grows with each digit behind it
pub digits_value_after-ge : (n : ℕ) (digits : List ℕ) → n ≤ digits_value_after 10 n digits
digits_value_after-ge n [] = omega arith
digits_value_after-ge n (byte ∷ digits) = omega (arith, digits_value_after-ge (n * 10 + digit_value byte) digits)

-- what passes a cap passes it with more digits too
pub capped_after : (cap n : ℕ) (digits : List ℕ)
    → min (digits_value_after 10 (min n cap) digits) cap ≡ min (digits_value_after 10 n digits) cap
capped_after cap n digits = elim (cases_lt cap n) [
  | inl above ↦ (let e : min n cap ≡ cap = omega arith in
      rw e (omega (arith, digits_value_after-ge cap digits, digits_value_after-ge n digits)))
  | inr within ↦ (let e : min n cap ≡ n = omega arith in rw e refl)
]
