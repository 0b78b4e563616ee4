-- What is written of a text is visible and spells it.
use Rattle.std.proofs.Common.{◌≡◌, ℕ, zero, suc, ◌/◌, ◌%◌, ◌<◌, ◌≤◌, Bool, true, false, List, [], ◌∷◌, ◌++◌, length, drop, refl, sym, ◌∙◌}
use Rattle.std.proofs.Common.{ap, arith, inl, inr}
use Rattle.std.specs.Prelude.{flat_map}
use Rattle.std.specs.Char.{digit_char, is_ascii_hexdigit}
use Rattle.std.specs.List.{AllByRecursion, list_all, prefix_len}
use Rattle.std.specs.Str.Parse.{digits_value}
use lib.Utf8.{scalar, scalars}
use Rattle.std.proofs.lemmas.Bool.{cases_Bool, cases_lt, eqb-true}
use Rattle.std.proofs.lemmas.Bool.Decides.{nat_tests}
use Rattle.std.proofs.lemmas.List.{length-drop}
use Rattle.std.proofs.lemmas.Str.{encode_ascii, digit_value-digit_char}
use Rattle.opl_object.specs.Escapes.{is_bare, six_digits, is_zero, without_zeros, escape_text, code_text, written_text, IsText}
use Rattle.opl_object.specs.Escapes.{IsWithoutZero}
use Rattle.opl_object.specs.Spelling.{SpellsText, SpellsEscape}
use Rattle.opl_object.specs.Text.{is_reserved}
use Rattle.opl_object.proofs.Escaping.{bare-ascii}
use Rattle.opl_object.proofs.Digits.{both}

-- ---- visible bytes: those of ASCII that are neither blank nor control characters

pub record IsVisible (byte : ℕ) : Type 0 where
  pub least : 33 ≤ byte
  pub most : byte < 127

abbrev pub AreVisible : List ℕ → Type 0
AreVisible text = AllByRecursion IsVisible text

pub visible-append : (front rest : List ℕ) → AreVisible front → AreVisible rest → AreVisible (front ++ rest)
visible-append [] rest p q = q
visible-append (byte ∷ front) rest p q = (p.0, visible-append front rest p.1 q)

visible-drop : (n : ℕ) (text : List ℕ) → AreVisible text → AreVisible (drop n text)
visible-drop zero text p = p
visible-drop (suc n) [] p = p
visible-drop (suc n) (byte ∷ text) p = visible-drop n text p.1

pub visible : (byte : ℕ) → 33 ≤ byte → byte < 127 → IsVisible byte
visible byte least most = record { least = least; most = most }

bare_low : (code : ℕ) → code < 33 → is_bare code ≡ false
bare_low code low = grind (arith, nat_tests)

bare_high : (code : ℕ) → 127 ≤ code → is_bare code ≡ false
bare_high code high = grind (arith, nat_tests)

bare_visible : (code : ℕ) → is_bare code ≡ true → IsVisible code
bare_visible code bare = elim (cases_lt code 33) [
  | inl low ↦ absurd (let wrong : true ≡ false = sym bare ∙ bare_low code low in cc)
  | inr least ↦ elim (cases_lt code 127) [
    | inl most ↦ visible code least most
    | inr high ↦ absurd (let wrong : true ≡ false = sym bare ∙ bare_high code high in cc)
  ]
]

digit_visible : (n : ℕ) → n < 16 → IsVisible (digit_char n)
digit_visible n small = record { least = grind (arith, nat_tests); most = grind (arith, nat_tests) }

six_visible : (code : ℕ) → AreVisible (six_digits code)
six_visible code = (
  digit_visible (code / 1048576 % 16) (omega arith),
  (
    digit_visible (code / 65536 % 16) (omega arith),
    (
      digit_visible (code / 4096 % 16) (omega arith),
      (
        digit_visible (code / 256 % 16) (omega arith),
        (digit_visible (code / 16 % 16) (omega arith), (digit_visible (code % 16) (omega arith), tt)),
      ),
    ),
  ),
)

escape_visible : (code : ℕ) → AreVisible (escape_text code)
unfolding escape_text
escape_visible code = (
  visible 37 (omega arith) (omega arith),
  visible-append (without_zeros (six_digits code)) (37 ∷ [])
      (visible-drop (prefix_len is_zero (six_digits code)) (six_digits code) (six_visible code))
      (visible 37 (omega arith) (omega arith), tt),
)

pub written_visible : (text : List ℕ) → AreVisible (written_text text)
unfolding written_text
written_visible [] = tt
written_visible (code ∷ text) = elim (cases_Bool (is_bare code)) [
  | inl bare ↦ rw bare (bare_visible code bare, written_visible text)
  | inr other ↦ rw other (visible-append (escape_text code) (flat_map code_text text) (escape_visible code) (written_visible text))
]

-- ---- what is written spells the text

bare_free : (code : ℕ) → is_bare code ≡ true → is_reserved code ≡ false
bare_free code bare = elim (cases_Bool (is_reserved code)) [
  | inl held ↦ absurd (let wrong : true ≡ false = sym bare ∙ reserved_bare code held in cc)
  | inr free ↦ free
] where
  reserved_bare : (code : ℕ) → is_reserved code ≡ true → is_bare code ≡ false
  reserved_bare code held = grind (arith, nat_tests)

hex_digit : (n : ℕ) → n < 16 → is_ascii_hexdigit (digit_char n) ≡ true
hex_digit n small = elim (cases_lt n 10) [
  | inl low ↦ grind (arith, nat_tests)
  | inr high ↦ grind (arith, nat_tests)
]

all_hex : (code : ℕ) → list_all is_ascii_hexdigit (six_digits code) ≡ true
all_hex code =
    rw (
      hex_digit (code / 1048576 % 16) (omega arith),
      hex_digit (code / 65536 % 16) (omega arith),
      hex_digit (code / 4096 % 16) (omega arith),
      hex_digit (code / 256 % 16) (omega arith),
      hex_digit (code / 16 % 16) (omega arith),
      hex_digit (code % 16) (omega arith),
    ) refl

list_all-drop : (p : ℕ → Bool) (n : ℕ) (xs : List ℕ) → list_all p xs ≡ true → list_all p (drop n xs) ≡ true
list_all-drop p zero xs all = all
list_all-drop p (suc n) [] all = all
list_all-drop p (suc n) (x ∷ xs) all = list_all-drop p n xs (both (p x) (list_all p xs) all).1

value-without_zeros : (digits : List ℕ) → digits_value 16 (without_zeros digits) ≡ digits_value 16 digits
value-without_zeros [] = refl
value-without_zeros (digit ∷ digits) = elim (cases_Bool (is_zero digit)) [
  | inl zero_ ↦ (
      let more : prefix_len is_zero (digit ∷ digits) ≡ suc (prefix_len is_zero digits) = rw zero_ (omega arith) in
      let is : digit ≡ 48 = eqb-true digit 48 zero_ in
      ap (λ n. digits_value 16 (drop n (digit ∷ digits))) more ∙ value-without_zeros digits
      ∙ ap (λ d. digits_value 16 (d ∷ digits)) (sym is))
  | inr other ↦ rw other refl
]

six_value : (code : ℕ) → code < 16777216 → digits_value 16 (six_digits code) ≡ code
six_value code small =
    rw (
      digit_value-digit_char (code / 1048576 % 16) (omega arith),
      digit_value-digit_char (code / 65536 % 16) (omega arith),
      digit_value-digit_char (code / 4096 % 16) (omega arith),
      digit_value-digit_char (code / 256 % 16) (omega arith),
      digit_value-digit_char (code / 16 % 16) (omega arith),
      digit_value-digit_char (code % 16) (omega arith),
    ) (omega arith)

some_digit : (digits : List ℕ) (code : ℕ) → digits_value 16 digits ≡ code → 0 < code → 1 ≤ length digits
some_digit [] code e some = absurd (omega arith)
some_digit (digit ∷ digits) code e some = omega arith

scalar_small : (code : ℕ) → scalar code ≡ true → code < 16777216
scalar_small code e = elim (cases_lt code 16777216) [
  | inl small ↦ small
  | inr large ↦ absurd (let wrong : true ≡ false = sym e ∙ large_scalar code large in cc)
] where
  large_scalar : (code : ℕ) → 16777216 ≤ code → scalar code ≡ false
  large_scalar code large = grind (arith, nat_tests)

escape_spells_code : (code : ℕ) → scalar code ≡ true → 0 < code → SpellsEscape (escape_text code) code
unfolding escape_text
escape_spells_code code is_scalar some =
    let value : digits_value 16 (without_zeros (six_digits code)) ≡ code =
    value-without_zeros (six_digits code) ∙ six_value code (scalar_small code is_scalar) in
    record {
      digits = without_zeros (six_digits code);
      form = refl;
      some = some_digit (without_zeros (six_digits code)) code value some;
      few = omega (arith, length-drop (prefix_len is_zero (six_digits code)) (six_digits code));
      hexadecimal = list_all-drop is_ascii_hexdigit (prefix_len is_zero (six_digits code)) (six_digits code) (all_hex code);
      value = value;
      scalar = is_scalar;
      not_zero = some;
    }

pub written_spells : (text : List ℕ) → IsText text → IsWithoutZero text → SpellsText (written_text text) text
unfolding written_text
written_spells [] all some = refl
written_spells (code ∷ text) all some =
    let parts = both (scalar code) (scalars text) all in
    let rest = written_spells text parts.1 some.1 in
    elim (cases_Bool (is_bare code)) [
      | inl bare ↦ rw bare (
        code ∷ [],
        flat_map code_text text,
        refl,
        inl (record { form = sym (encode_ascii code (bare-ascii code bare)); scalar = parts.0; free = bare_free code bare }),
        rest,
      )
      | inr other ↦ rw other (escape_text code, flat_map code_text text, refl, inr (escape_spells_code code parts.0 some.0), rest)
    ]
