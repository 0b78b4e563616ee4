-- What is written of ids and coordinates is visible and spells them.
use Rattle.std.proofs.Common.{◌≡◌, ℕ, zero, suc, ◌+◌, ◌-◌, ◌*◌, ◌/◌, ◌%◌, ◌^◌, ◌<◌, ◌≤◌, Bool, true, false, cond, eqb, leb, ltb, List, []}
use Rattle.std.proofs.Common.{◌∷◌, ◌++◌, length, length-append, take, drop, get_or, refl, sym, ◌∙◌, ap, subst, append_assoc, add-one}
use Rattle.std.proofs.Common.{add-zero, arith, inl, inr}
use Rattle.std.specs.Prelude.{decimal, reverse, replicate, ℤ, pos, negsuc, neg_ℤ, unsigned_abs, ◌≤ℤ◌, nat_abs}
use Rattle.std.specs.Int.{is_negative}
use Rattle.std.specs.Char.{is_ascii_digit, digit_value}
use Rattle.std.specs.List.{list_all, prefix_len}
use Rattle.std.specs.Str.Parse.{digits_value, digits_value_after, AllDigits}
use Rattle.std.proofs.Math.Nat.{pow-succ', add-mul, mul_assoc}
use Rattle.std.proofs.lemmas.Bool.{cases_Bool, cases_lt, eqb-true, le-leb}
use Rattle.std.proofs.lemmas.Bool.Decides.{nat_tests}
use Rattle.std.proofs.lemmas.Fmt.{decimal_digit, decimal_is_IsNumeral, decimal_nonempty, length-decimal-le}
use Rattle.std.proofs.lemmas.List.{take-append-drop, reverse-append, reverse-reverse, take_all, length-replicate, get_or_past}
use Rattle.std.proofs.lemmas.List.{replicate-append-replicate}
use Rattle.std.proofs.lemmas.Int.{ints}
use Rattle.std.proofs.lemmas.List.Folds.{list_all-append}
use Rattle.std.proofs.lemmas.Str.Parse.{digit_from_value}
use Rattle.osm_base.specs.values.Degrees.{degrees, fraction, padded, trimmed, is_zero}
use Rattle.osm_base.specs.declared.values.place.TheConstants.{MAX_LON, MAX_LAT}
use Rattle.osm_base.specs.values.Key.{IsId}
use Rattle.osm_base.proofs.Digits.{decimal-behind_one}
use Rattle.opl_object.specs.Coordinate.{units, seven}
use Rattle.opl_object.specs.Spelling.{SpellsId, SpellsCoordinate, sign_text, decimals_text}
use Rattle.opl_object.proofs.Digits.{both}
use Rattle.opl_object.proofs.WrittenTexts.{IsVisible, AreVisible, visible, visible-append}

-- ---- digits

digit_is : (digit : ℕ) → digit_value digit < 10 → is_ascii_digit digit ≡ true
digit_is digit small = let range = digit_from_value digit small in rw (le-leb 48 digit range.0, le-leb digit 57 range.1) refl

are_ascii : (digits : List ℕ) → AllDigits 10 digits → list_all is_ascii_digit digits ≡ true
are_ascii [] all = refl
are_ascii (digit ∷ digits) all = rw (digit_is digit all.0) (are_ascii digits all.1)

pub decimal_digits : (n : ℕ) → n < 2 ^ 64 → list_all is_ascii_digit (decimal n) ≡ true
decimal_digits n small = are_ascii (decimal n) (decimal_is_IsNumeral n small).0.1

digits_visible : (digits : List ℕ) → list_all is_ascii_digit digits ≡ true → AreVisible digits
digits_visible [] all = tt
digits_visible (digit ∷ digits) all =
    let parts = both (is_ascii_digit digit) (list_all is_ascii_digit digits) all in
    (digit_range digit parts.0, digits_visible digits parts.1) where
      digit_range : (digit : ℕ) → is_ascii_digit digit ≡ true → IsVisible digit
      digit_range digit e = record { least = grind (arith, nat_tests); most = grind (arith, nat_tests) }

pub decimal_visible : (n : ℕ) → n < 2 ^ 64 → AreVisible (decimal n)
decimal_visible n small = digits_visible (decimal n) (decimal_digits n small)

-- ---- ids

pub id_spelled : (id : ℕ) → IsId id → SpellsId (decimal id) id
id_spelled id is_id =
    let small : id < 2 ^ 64 = omega (arith, is_id.greatest) in
    record {
      digits = record {
        some = omega (arith, decimal_nonempty id small);
        few = length-decimal-le 19 id (omega arith) (omega (arith, is_id.greatest)) small;
        digits = decimal_digits id small;
      };
      value = (decimal_is_IsNumeral id small).1;
      range = is_id;
    }

-- ---- the value of digits behind others

value_after-append : (n : ℕ) (front back : List ℕ)
    → digits_value_after 10 n (front ++ back) ≡ digits_value_after 10 (digits_value_after 10 n front) back
value_after-append n [] back = refl
value_after-append n (digit ∷ front) back = value_after-append (n * 10 + digit_value digit) front back

pub value_after-shift : (n : ℕ) (digits : List ℕ) → digits_value_after 10 n digits ≡ n * 10 ^ length digits + digits_value_after 10 0 digits
value_after-shift n [] = omega arith
value_after-shift n (digit ∷ digits) =
    let power : 10 ^ suc (length digits) ≡ 10 * 10 ^ length digits = pow-succ' 10 (length digits) in
    let here = value_after-shift (n * 10 + digit_value digit) digits in
    let alone = value_after-shift (0 * 10 + digit_value digit) digits in
    shifted n (digit_value digit) (10 ^ length digits) (10 ^ suc (length digits))
    (digits_value_after 10 (n * 10 + digit_value digit) digits) (digits_value_after 10 (0 * 10 + digit_value digit) digits)
    (digits_value_after 10 0 digits) power here alone where
      shifted : (n d p q a b c : ℕ) → q ≡ 10 * p → a ≡ (n * 10 + d) * p + c → b ≡ (0 * 10 + d) * p + c → a ≡ n * q + b
      shifted n d p q a b c eq ea eb =
          let one : (n * 10 + d) * p ≡ n * 10 * p + d * p = add-mul (n * 10) d p in
          let two : n * 10 * p ≡ n * (10 * p) = mul_assoc n 10 p in
          let three : n * q ≡ n * (10 * p) = ap (λ x. n * x) eq in
          let four : (0 * 10 + d) * p ≡ d * p = ap (λ x. x * p) (omega arith) in
          omega arith

-- seven digits of a number below ten million
length-padded : (n : ℕ) → n < 10000000 → length (padded 7 (decimal n)) ≡ 7
length-padded n small =
    let most = length-decimal-le 7 n (omega arith) small (omega arith) in
    length-append (replicate (7 - length (decimal n)) 48) (decimal n)
    ∙ ap (λ k. k + length (decimal n)) (length-replicate (7 - length (decimal n))) ∙ omega arith where
      length-replicate : (k : ℕ) → length {A = ℕ} (replicate k 48) ≡ k
      length-replicate zero = refl
      length-replicate (suc k) = ap suc (length-replicate k)

padded_digits : (n : ℕ) → n < 10000000 → list_all is_ascii_digit (padded 7 (decimal n)) ≡ true
padded_digits n small =
    list_all-append is_ascii_digit (replicate (7 - length (decimal n)) 48) (decimal n)
    ∙ rw (zeros (7 - length (decimal n)), decimal_digits n (omega arith)) refl where
      zeros : (k : ℕ) → list_all is_ascii_digit (replicate k 48) ≡ true
      zeros zero = refl
      zeros (suc k) = zeros k

value-padded : (n : ℕ) → n < 10000000 → digits_value_after 10 0 (padded 7 (decimal n)) ≡ n
value-padded n small =
    let whole : digits_value 10 (decimal (10 ^ 7 + n)) ≡ 10 ^ 7 + n = (decimal_is_IsNumeral (10 ^ 7 + n) (omega arith)).1 in
    let one : digits_value_after 10 1 (padded 7 (decimal n)) ≡ 10 ^ 7 + n =
    ap (digits_value 10) (sym (decimal-behind_one 6 n small (omega arith))) ∙ whole in
    let shift : digits_value_after 10 1 (padded 7 (decimal n)) ≡ 1 * 10 ^ length (padded 7 (decimal n))
    + digits_value_after 10 0 (padded 7 (decimal n)) = value_after-shift 1 (padded 7 (decimal n)) in
    let power : 10 ^ length (padded 7 (decimal n)) ≡ 10 ^ 7 = ap (λ k. 10 ^ k) (length-padded n small) in
    omega (arith, one, shift, power)

value-joined : (whole rest : ℕ) → whole < 2 ^ 64 → rest < 10000000
    → digits_value 10 (decimal whole ++ padded 7 (decimal rest)) ≡ whole * 10000000 + rest
value-joined whole rest small below =
    let front : digits_value_after 10 0 (decimal whole) ≡ whole = (decimal_is_IsNumeral whole small).1 in
    let power : 10 ^ length (padded 7 (decimal rest)) ≡ 10 ^ 7 = ap (λ k. 10 ^ k) (length-padded rest below) in
    value_after-append 0 (decimal whole) (padded 7 (decimal rest))
    ∙ ap (λ n. digits_value_after 10 n (padded 7 (decimal rest))) front
    ∙ value_after-shift whole (padded 7 (decimal rest))
    ∙ ap (λ p. whole * p + digits_value_after 10 0 (padded 7 (decimal rest))) power
    ∙ ap (λ n. whole * 10 ^ 7 + n) (value-padded rest below)

-- ---- decimals without the zeros at their end

zeros_front : (digits : List ℕ) → take (prefix_len is_zero digits) digits ≡ replicate (prefix_len is_zero digits) 48
zeros_front [] = refl
zeros_front (digit ∷ digits) = elim (cases_Bool (is_zero digit)) [
  | inl zero_ ↦ (
      let more : prefix_len is_zero (digit ∷ digits) ≡ suc (prefix_len is_zero digits) = rw zero_ (omega arith) in
      rw more (ap (λ d. d ∷ take (prefix_len is_zero digits) digits) (eqb-true digit 48 zero_)
      ∙ ap (λ rest. 48 ∷ rest) (zeros_front digits)))
  | inr other ↦ rw other refl
]

zeros_turned : (k : ℕ) → reverse {A = ℕ} (replicate k 48) ≡ replicate k 48
zeros_turned zero = refl
zeros_turned (suc k) =
    reverse-append (48 ∷ []) (replicate k 48) ∙ ap (λ front. front ++ 48 ∷ []) (zeros_turned k) ∙ replicate-append-replicate k 1 48
    ∙ ap (λ n. replicate n 48) (add-one k)

-- the zeros that are left out
trimmed_whole : (digits : List ℕ) → digits ≡ trimmed digits ++ replicate (length digits - length (trimmed digits)) 48
trimmed_whole digits =
    let turned = reverse digits in
    let p = prefix_len is_zero turned in
    let whole : digits ≡ trimmed digits ++ replicate p 48 =
    sym (reverse-reverse digits) ∙ ap reverse (sym (take-append-drop p turned)) ∙ reverse-append (take p turned) (drop p turned)
    ∙ ap (λ back. reverse (drop p turned) ++ back) (ap reverse (zeros_front turned) ∙ zeros_turned p) in
    let count : p ≡ length digits - length (trimmed digits) =
    omega (arith, ap length whole, length-append (trimmed digits) (replicate p 48), length-replicate {A = ℕ} p 48) in
    whole ∙ ap (λ k. trimmed digits ++ replicate k 48) count

pub value_zeros : (k : ℕ) → digits_value_after 10 0 (replicate k 48) ≡ 0
value_zeros zero = refl
value_zeros (suc k) = value_zeros k

-- the decimals of so many units
abbrev pub decimals_of : ℕ → List ℕ
decimals_of rest = cond (eqb rest 0) [] (trimmed (padded 7 (decimal rest)))

module _ (rest : ℕ) (small : rest < 10000000) where
  length-trimmed : length (trimmed (padded 7 (decimal rest))) ≤ 7
  length-trimmed = omega (
    arith,
    ap length (trimmed_whole (padded 7 (decimal rest))),
    length-padded rest small,
    length-append (trimmed (padded 7 (decimal rest)))
        (replicate (length (padded 7 (decimal rest)) - length (trimmed (padded 7 (decimal rest)))) 48),
  )

  length-decimals : length (decimals_of rest) ≤ 7
  length-decimals = elim (cases_Bool (eqb rest 0)) [
    | inl none ↦ rw none (omega arith)
    | inr some ↦ rw some length-trimmed
  ]

  seven_decimals : seven (decimals_of rest) ≡ padded 7 (decimal rest)
  seven_decimals = elim (cases_Bool (eqb rest 0)) [
    | inl none ↦ rw none (sym (ap (λ n. padded 7 (decimal n)) (eqb-true rest 0 none) ∙ ap (padded 7) (decimal_digit 0 (omega arith))))
    | inr some ↦ rw some (
        ap (λ front. front ++ replicate (7 - length (trimmed (padded 7 (decimal rest)))) 48)
        (take_all 7 (trimmed (padded 7 (decimal rest))) length-trimmed)
        ∙ ap (λ n. trimmed (padded 7 (decimal rest)) ++ replicate (n - length (trimmed (padded 7 (decimal rest)))) 48)
        (sym (length-padded rest small))
        ∙ sym (trimmed_whole (padded 7 (decimal rest))))
  ]

  digits_decimals : list_all is_ascii_digit (decimals_of rest) ≡ true
  digits_decimals = elim (cases_Bool (eqb rest 0)) [
    | inl none ↦ rw none refl
    | inr some ↦ rw some (both (list_all is_ascii_digit (trimmed (padded 7 (decimal rest)))) _ (
        sym (list_all-append is_ascii_digit (trimmed (padded 7 (decimal rest)))
        (replicate (length (padded 7 (decimal rest)) - length (trimmed (padded 7 (decimal rest)))) 48))
        ∙ ap (list_all is_ascii_digit) (sym (trimmed_whole (padded 7 (decimal rest)))) ∙ padded_digits rest small)).0
  ]

  some_decimals : eqb rest 0 ≡ false → 1 ≤ length (trimmed (padded 7 (decimal rest)))
  some_decimals some = elim (cases_lt (length (trimmed (padded 7 (decimal rest)))) 1) [
    | inl none ↦ (
        let nothing : trimmed (padded 7 (decimal rest)) ≡ [] = no_digits (trimmed (padded 7 (decimal rest))) (omega arith) in
        let zeros : padded 7 (decimal rest) ≡ replicate (length (padded 7 (decimal rest)) - length (trimmed (padded 7 (decimal rest)))) 48 =
        trimmed_whole (padded 7 (decimal rest)) ∙ ap
        (λ front. front ++ replicate (length (padded 7 (decimal rest)) - length (trimmed (padded 7 (decimal rest)))) 48) nothing in
        let value : rest ≡ 0 = sym (value-padded rest small) ∙ ap (digits_value_after 10 0) zeros
        ∙ value_zeros (length (padded 7 (decimal rest)) - length (trimmed (padded 7 (decimal rest)))) in
        absurd (grind (arith, nat_tests)))
    | inr least ↦ least
  ] where
    no_digits : (digits : List ℕ) → length digits ≡ 0 → digits ≡ []
    no_digits [] e = refl
    no_digits (digit ∷ digits) e = absurd (omega arith)

  fraction-decimals : fraction rest ≡ decimals_text (decimals_of rest)
  unfolding fraction
  fraction-decimals = elim (cases_Bool (eqb rest 0)) [
    | inl none ↦ rw none refl
    | inr some ↦ rw some (sym (with_point (trimmed (padded 7 (decimal rest))) (some_decimals some)))
  ] where
    with_point : (digits : List ℕ) → 1 ≤ length digits → decimals_text digits ≡ 46 ∷ digits
    with_point [] least = absurd (omega arith)
    with_point (digit ∷ digits) least = refl

  units-decimals : (whole : ℕ) → whole < 2 ^ 64 → units (decimal whole) (decimals_of rest) ≡ whole * 10000000 + rest
  units-decimals whole below =
      let round : get_or (decimals_of rest) 7 0 ≡ 0 = get_or_past (decimals_of rest) 7 0 length-decimals in
      ap (λ d. digits_value 10 (decimal whole ++ seven (decimals_of rest)) + cond (leb 53 d) 1 0) round
      ∙ ap (λ digits. digits_value 10 (decimal whole ++ digits) + 0) seven_decimals
      ∙ add-zero (digits_value 10 (decimal whole ++ padded 7 (decimal rest)))
      ∙ value-joined whole rest below small

signed : (value : ℤ) → cond (is_negative value) (neg_ℤ (pos (unsigned_abs value))) (pos (unsigned_abs value)) ≡ value
signed (pos n) = let plus : ltb n 0 ≡ false = grind (arith, nat_tests) in rw plus refl
signed (negsuc n) = refl

-- ---- coordinates

pub coordinate_spelled : (greatest : ℕ) (value : ℤ) → unsigned_abs value ≤ greatest → greatest ≤ 1800000000
    → SpellsCoordinate greatest (degrees value) value
unfolding degrees
coordinate_spelled greatest value near most =
    let size = unsigned_abs value in
    let whole = size / 10000000 in
    let rest = size % 10000000 in
    let small : rest < 10000000 = omega arith in
    let below : whole < 1000 = omega arith in
    let fits : whole < 2 ^ 64 = omega arith in
    let total : units (decimal whole) (decimals_of rest) ≡ size = units-decimals rest small whole fits ∙ omega arith in
    let short = length-decimal-le 3 whole (omega arith) (omega arith) fits in
    record {
      minus = is_negative value;
      whole = decimal whole;
      decimals = decimals_of rest;
      form = append_assoc (sign_text (is_negative value)) (decimal whole) (fraction rest)
          ∙ ap (λ back. sign_text (is_negative value) ++ (decimal whole ++ back)) (fraction-decimals rest small);
      some = omega (arith, decimal_nonempty whole fits);
      few = omega (arith, length-decimals rest small, short);
      whole_digits = decimal_digits whole fits;
      decimal_digits = digits_decimals rest small;
      near = omega (arith, total);
      is = ap (λ n. cond (is_negative value) (neg_ℤ (pos n)) (pos n)) total ∙ signed value;
    }

pub coordinate_visible : (greatest : ℕ) (text : List ℕ) (value : ℤ) → SpellsCoordinate greatest text value → AreVisible text
coordinate_visible greatest text value s = subst AreVisible (sym s.form) (
    visible-append (sign_text s.minus) (s.whole ++ decimals_text s.decimals) (sign s.minus)
    (visible-append s.whole (decimals_text s.decimals) (digits_visible s.whole s.whole_digits) (behind_point s.decimals s.decimal_digits))
    ) where
      sign : (minus : Bool) → AreVisible (sign_text minus)
      sign true = (visible 45 (omega arith) (omega arith), tt)
      sign false = tt

      behind_point : (digits : List ℕ) → list_all is_ascii_digit digits ≡ true → AreVisible (decimals_text digits)
      behind_point [] all = tt
      behind_point (digit ∷ digits) all = (visible 46 (omega arith) (omega arith), digits_visible (digit ∷ digits) all)

-- no further from zero than the earth goes
pub lon_near : (lon : ℤ) → lon ≤ℤ MAX_LON → neg_ℤ MAX_LON ≤ℤ lon → unsigned_abs lon ≤ nat_abs MAX_LON
lon_near lon east west = omega (arith, ints)

pub lat_near : (lat : ℤ) → lat ≤ℤ MAX_LAT → neg_ℤ MAX_LAT ≤ℤ lat → unsigned_abs lat ≤ nat_abs MAX_LAT
lat_near lat north south = omega (arith, ints)
