-- The numbers that digits write, and how great they are.
use Rattle.std.proofs.Common.{◌≡◌, ℕ, ◌+◌, ◌*◌, ◌-◌, ◌^◌, ◌<◌, ◌≤◌, Bool, true, false, ◌&&◌, List, [], ◌∷◌, length, get_or, take, refl, ◌∙◌}
use Rattle.std.proofs.Common.{ap, arith}
use Rattle.std.specs.List.{list_all}
use Rattle.std.specs.Char.{is_ascii_digit, digit_value}
use Rattle.std.specs.Str.Parse.{digits_value, AllDigits}
use Rattle.std.proofs.Math.Nat.{pow-le-pow_right}
use Rattle.std.proofs.lemmas.Bool.{leb-true, lt-ltb, le-ltb}
use Rattle.std.proofs.lemmas.Int.Digits.{digits_value-lt, digits_value_more}
use Rattle.std.proofs.lemmas.List.Sums.{AllPass-from_list_all}
use Rattle.std.proofs.lemmas.Str.Parse.{digits_value-take-le}
use Rattle.row_rules.specs.Cell.{are_digits}

-- both tests of a conjunction
pub both : (a b : Bool) → (a && b) ≡ true → (a ≡ true) × (b ≡ true)
both true b e = (refl, e)
both false b e = absurd cc

-- a digit, and its value
digit_range : (byte : ℕ) → is_ascii_digit byte ≡ true → (48 ≤ byte) × (byte ≤ 57)
digit_range byte e = let parts = both _ _ e in (leb-true _ _ parts.0, leb-true _ _ parts.1)

digit_value-digit : (byte : ℕ) → 48 ≤ byte → byte ≤ 57 → digit_value byte ≡ byte - 48
digit_value-digit byte low high = rw (le-ltb byte 48 low, lt-ltb byte 58 (omega arith)) refl

all_digits : (digits : List ℕ) → list_all is_ascii_digit digits ≡ true → AllDigits 10 digits
all_digits [] all = tt
all_digits (byte ∷ digits) all =
    let parts = both _ _ all in
    let range = digit_range byte parts.0 in
    (omega (arith, digit_value-digit byte range.0 range.1), all_digits digits parts.1)

-- one digit more
value_more : (digits : List ℕ) (i : ℕ) → list_all is_ascii_digit digits ≡ true → i < length digits
    → digits_value 10 (take (i + 1) digits) ≡ digits_value 10 (take i digits) * 10 + (get_or digits i 0 - 48)
value_more digits i all lt =
    let range = digit_range _ (AllPass-from_list_all is_ascii_digit digits all i 0 lt) in
    digits_value_more 10 digits i lt ∙ ap (λ d. digits_value 10 (take i digits) * 10 + d) (digit_value-digit _ range.0 range.1)

-- so many digits write a number below that power of ten
value_below : (digits : List ℕ) (most : ℕ) → list_all is_ascii_digit digits ≡ true → length digits ≤ most
    → digits_value 10 digits < 10 ^ most
value_below digits most all le =
    let below = digits_value-lt 10 digits (all_digits digits all) in
    let power : 10 ^ length digits ≤ 10 ^ most = pow-le-pow_right (omega arith) le in
    omega (arith, below, power)

-- a number of digits, and its parts: what it is so far, and what it is with one digit more
pub record AreDigits (digits : List ℕ) : Type 0 where
  pub below : digits_value 10 digits < 1000000000000000000
  pub front_below : (i : ℕ) → digits_value 10 (take i digits) < 1000000000000000000
  pub more : (i : ℕ) → i < length digits → digits_value 10 (take (i + 1) digits) ≡ digits_value 10 (take i digits) * 10
      + (get_or digits i 0 - 48)
  pub least : (i : ℕ) → i < length digits → 48 ≤ get_or digits i 0

pub AreDigits-test : (digits : List ℕ) → are_digits digits ≡ true → AreDigits digits
AreDigits-test digits test =
    let parts = both _ _ test in
    let long : length digits ≤ 18 = leb-true _ _ (both _ _ parts.0).1 in
    let below = value_below digits 18 parts.1 long in
    record {
      below = below;
      front_below = λ i. omega (arith, digits_value-take-le 10 digits i (omega arith), below);
      more = λ i lt. value_more digits i parts.1 lt;
      least = λ i lt. (digit_range _ (AllPass-from_list_all is_ascii_digit digits parts.1 i 0 lt)).0;
    }
