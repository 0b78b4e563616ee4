-- Texts as they are written, a run of bare characters and an escape at a time.
use Rattle.std.proofs.Common.{◌≡◌, ℕ, zero, suc, ◌+◌, ◌/◌, ◌%◌, ◌<◌, ◌≤◌, true, false, cond, not, List, [], ◌∷◌, ◌++◌, length}
use Rattle.std.proofs.Common.{length-append, take, drop, get_or, set, add-one, refl, sym, ◌∙◌, ap, arith, inl, inr}
use Rattle.std.specs.Prelude.{IsTrue}
use Rattle.std.specs.Char.{encode_utf8, digit_char}
use Rattle.std.specs.List.{list_all, position_or_len, prefix_len}
use Rattle.std.specs.Str.{IsUtf8, IsAscii, chars}
use Rattle.std.proofs.lemmas.Bool.{cases_Bool, cases_lt}
use Rattle.std.proofs.lemmas.Bool.Decides.{nat_tests}
use Rattle.std.proofs.lemmas.Str.{chars-append, chars-IsAscii, chars_past_char, length-encode, len_utf8_bounds, encode_ascii}
use Rattle.std.proofs.lemmas.Str.{IsUtf8-from_ascii, chars-nil}
use Rattle.opl_object.specs.Escapes.{is_bare, escape_text, written_text, is_zero, six_digits, without_zeros}
use Rattle.std.proofs.lemmas.List.{drop-set, drop-append-le}
use Rattle.std.proofs.lemmas.List.Sums.{prefix_len-le-length}
use Rattle.opl_object.proofs.Cuts.{IsAsciiTest}

pub bare-ascii : IsAsciiTest is_bare
bare-ascii byte passes = elim (cases_lt byte 128) [
  | inl low ↦ low
  | inr high ↦ (let none : is_bare byte ≡ false = grind (arith, nat_tests) in absurd (let wrong : true ≡ false = sym passes ∙ none in cc))
]

pub bare_front : (text : List ℕ) → list_all is_bare (take (position_or_len (λ byte. not (is_bare byte)) text) text) ≡ true
bare_front [] = refl
bare_front (byte ∷ text) = elim (cases_Bool (is_bare byte)) [
  | inl passed ↦ (
      let more : position_or_len (λ byte. not (is_bare byte)) (byte ∷ text) ≡ suc (position_or_len (λ byte. not (is_bare byte)) text) =
      rw passed (omega arith) in
      rw (more, passed) (bare_front text))
  | inr failed ↦ rw failed refl
]

pub bare_stop : (text : List ℕ) → is_bare (get_or (drop (position_or_len (λ byte. not (is_bare byte)) text) text) 0 0) ≡ false
bare_stop [] = refl
bare_stop (byte ∷ text) = elim (cases_Bool (is_bare byte)) [
  | inl passed ↦ (
      let more : position_or_len (λ byte. not (is_bare byte)) (byte ∷ text) ≡ suc (position_or_len (λ byte. not (is_bare byte)) text) =
      rw passed (omega arith) in
      rw more (bare_stop text))
  | inr failed ↦ rw failed failed
]

bare_is_ascii : (text : List ℕ) → list_all is_bare text ≡ true → IsAscii text
bare_is_ascii [] all i = omega arith
bare_is_ascii (byte ∷ text) all zero = bare-ascii byte
    (elim (cases_Bool (is_bare byte)) [ inl yes_ ↦ yes_ | inr other ↦ absurd (let wrong : false ≡ true = rw other at all in cc) ])
bare_is_ascii (byte ∷ text) all (suc i) =
    bare_is_ascii text (elim (cases_Bool (is_bare byte))
    [ inl yes_ ↦ rw yes_ at all | inr other ↦ absurd (let wrong : false ≡ true = rw other at all in cc) ]) i

-- bare characters are written as they are
written-bare : (bare rest : List ℕ) → list_all is_bare bare ≡ true → written_text (bare ++ rest) ≡ bare ++ written_text rest
unfolding written_text
written-bare [] rest all = refl
written-bare (byte ∷ bare) rest all = elim (cases_Bool (is_bare byte)) [
  | inl passed ↦ (
      let later : list_all is_bare bare ≡ true = rw passed at all in
      rw passed (ap (λ t. byte ∷ t) (written-bare bare rest later)))
  | inr failed ↦ absurd (let wrong : false ≡ true = rw failed at all in cc)
]

module _ (rest bare behind : List ℕ) (cut : rest ≡ bare ++ behind) (all : IsTrue (list_all is_bare bare)) where
  chars-bare : chars rest ≡ bare ++ chars behind
  chars-bare =
      let ascii = bare_is_ascii bare all in
      ap chars cut ∙ chars-append bare behind (IsUtf8-from_ascii bare ascii) ∙ ap (λ t. t ++ chars behind) (chars-IsAscii bare ascii)

  pub written_front : written_text (chars rest) ≡ bare ++ written_text (chars behind)
  written_front = ap written_text chars-bare ∙ written-bare bare (chars behind) all

  -- nothing stands behind the bare characters
  pub written_end : length behind ≡ 0 → written_text (chars rest) ≡ bare
  unfolding written_text
  written_end none =
      let nothing : behind ≡ [] = no_bytes behind none in
      ap written_text (chars-bare ∙ ap (λ t. bare ++ chars t) nothing ∙ ap (λ t. bare ++ t) chars-nil) ∙ written-bare bare [] all
      ∙ append-nil bare where
        no_bytes : (bytes : List ℕ) → length bytes ≡ 0 → bytes ≡ []
        no_bytes [] e = refl
        no_bytes (byte ∷ bytes) e = absurd (omega arith)

        append-nil : (xs : List ℕ) → xs ++ [] ≡ xs
        append-nil [] = refl
        append-nil (x ∷ xs) = ap (λ t. x ∷ t) (append-nil xs)

  module _ (code : ℕ) (after : List ℕ) (first : behind ≡ encode_utf8 code ++ after) (utf8 : IsUtf8 behind)
      (stop : is_bare (get_or behind 0 0) ≡ false) where
    not_bare : is_bare code ≡ false
    not_bare = elim (cases_Bool (is_bare code)) [
      | inl yes_ ↦ absurd (
          let one : behind ≡ code ∷ after = first ∙ ap (λ t. t ++ after) (encode_ascii code (bare-ascii code yes_)) in
          let wrong : is_bare code ≡ false = ap (λ t. is_bare (get_or t 0 0)) (sym one) ∙ stop in
          let never : true ≡ false = sym yes_ ∙ wrong in cc)
      | inr other ↦ other
    ]

    -- a character behind them is escaped
    pub written_step : written_text (chars rest) ≡ bare ++ (escape_text code ++ written_text (chars after))
    unfolding written_text
    written_step =
        ap written_text (chars-bare ∙ ap (λ t. bare ++ t) (chars_past_char behind after code utf8 first))
        ∙ written-bare bare (code ∷ chars after) all
        ∙ ap (λ b. bare ++ (cond b (code ∷ []) (escape_text code) ++ written_text (chars after))) not_bare

    pub shorter_step : length after < length rest
    shorter_step =
        let some = len_utf8_bounds code in
        omega (
          arith,
          ap length cut,
          ap length first,
          length-append bare behind,
          length-append (encode_utf8 code) after,
          length-encode code,
          some.0,
        )

-- ---- the escape among its bytes

prefix_len-end : (digits : List ℕ) → prefix_len is_zero (digits ++ 37 ∷ []) ≡ prefix_len is_zero digits
prefix_len-end [] = refl
prefix_len-end (digit ∷ digits) = ap (λ n. cond (is_zero digit) (1 + n) 0) (prefix_len-end digits)

-- a percent sign over the last of the zeros, or over the one in front of the digits
placed : (digits : List ℕ) (n : ℕ) → n ≡ prefix_len is_zero (digits ++ 37 ∷ [])
    → drop n (set (37 ∷ digits ++ 37 ∷ []) n 37) ≡ 37 ∷ (without_zeros digits ++ 37 ∷ [])
placed digits n e =
    let start : n ≡ prefix_len is_zero digits = e ∙ prefix_len-end digits in
    let most : n ≤ length digits = omega (arith, prefix_len-le-length is_zero digits) in
    let there : n < length (37 ∷ digits ++ 37 ∷ []) = omega (arith, length-append (37 ∷ digits) (37 ∷ [])) in
    drop-set (37 ∷ digits ++ 37 ∷ []) n 37 there
    ∙ ap (λ k. 37 ∷ drop k (37 ∷ digits ++ 37 ∷ [])) (add-one n)
    ∙ ap (λ rest. 37 ∷ rest) (drop-append-le n digits (37 ∷ []) most)
    ∙ ap (λ k. 37 ∷ (drop k digits ++ 37 ∷ [])) start

pub escape_text-placed : (code n a b c d e f : ℕ) → a ≡ digit_char (code / 1048576 % 16) → b ≡ digit_char (code / 65536 % 16)
    → c ≡ digit_char (code / 4096 % 16)
    → d ≡ digit_char (code / 256 % 16) → e ≡ digit_char (code / 16 % 16) → f ≡ digit_char (code % 16)
    → n ≡ prefix_len is_zero (a ∷ b ∷ c ∷ d ∷ e ∷ f ∷ 37 ∷ []) → drop n (set (37 ∷ a ∷ b ∷ c ∷ d ∷ e ∷ f ∷ 37 ∷ []) n 37) ≡ escape_text code
unfolding escape_text
escape_text-placed code n a b c d e f ea eb ec ed ee ef start =
    let same : a ∷ b ∷ c ∷ d ∷ e ∷ f ∷ [] ≡ six_digits code = λ i. ea i ∷ eb i ∷ ec i ∷ ed i ∷ ee i ∷ ef i ∷ [] in
    placed (a ∷ b ∷ c ∷ d ∷ e ∷ f ∷ []) n start ∙ ap (λ digits. 37 ∷ (without_zeros digits ++ 37 ∷ [])) same
