-- Bytes as digits and back, from one part to the next.
use Rattle.std.proofs.Common.{◌≡◌, ℕ, ◌+◌, ◌-◌, ◌/◌, ◌%◌, ◌<◌, ◌≤◌, zero, suc, true, List, [], ◌∷◌, ◌++◌, length, take, drop, slice_index, Option, Some, None, unwrap_or, is_some, Ok, append-nil, append_assoc, refl, sym, ap, ◌∙◌, arith}
use Rattle.std.specs.List.{list_all}
use Rattle.std.proofs.lemmas.Bool.{eqb-true}
use Rattle.std.proofs.lemmas.Bool.Decides.{nat_tests}
use Rattle.std.proofs.lemmas.List.{length-drop, take_all}
use Rattle.hex.proofs.Pairs.{cons_byte, decode_pairs-ok_pair}
use Rattle.hex.specs.Hex.{decode_of, decode_pairs, encode_lower, encode_with, hex_digit_value, lower_digits, pair_value}
use Rattle.opl_object.proofs.Digits.{both}
use Rattle.delta_feed.specs.Hexes.{byte_of, bytes_of, is_digit, is_hex}

-- what a pattern leaves is all that stands behind its first ones
pub left : (n : ℕ) (xs : List ℕ) → take (length xs - n) (drop n xs) ≡ drop n xs
left n xs = take_all (length xs - n) (drop n xs) (omega (arith, length-drop n xs))

-- ---- digits that are read

some_digit : (o : Option ℕ) → is_some o ≡ true → o ≡ Some (unwrap_or o 0)
some_digit (Some v) e = refl
some_digit None e = absurd (cc)

digit_counts : (c : ℕ) → is_digit c ≡ true → hex_digit_value c ≡ Some (unwrap_or (hex_digit_value c) 0)
digit_counts c e = some_digit (hex_digit_value c) (grind (arith, nat_tests))

pair_is : (high low i : ℕ) → is_digit high ≡ true → is_digit low ≡ true → pair_value high low i ≡ Ok (byte_of high low)
pair_is high low i first second = rw (digit_counts high first, digit_counts low second) refl

decoded : (i : ℕ) (xs : List ℕ) → list_all is_digit xs ≡ true → length xs % 2 ≡ 0 → decode_pairs i xs ≡ Ok (bytes_of xs)
unfolding decode_pairs
decoded i [] all even = refl
decoded i (one ∷ []) all even = absurd (omega (arith, even))
decoded i (high ∷ low ∷ xs) all even =
    let parts = both (is_digit high) (list_all is_digit (low ∷ xs)) all in
    let more = both (is_digit low) (list_all is_digit xs) parts.1 in
    decode_pairs-ok_pair i high low (byte_of high low) xs (pair_is high low i parts.0 more.0)
    ∙ ap (cons_byte (byte_of high low)) (decoded (i + 2) xs more.1 (omega (arith, even)))

pub are_even : (digits : List ℕ) → is_hex digits ≡ true → length digits % 2 ≡ 0
are_even digits hex = eqb-true (length digits % 2) 0 (both _ _ (both _ _ hex).0).1

pub all_read : (digits : List ℕ) → is_hex digits ≡ true → decode_of digits ≡ Ok (bytes_of digits)
all_read digits hex =
    let even = are_even digits hex in
    rw even (decoded 0 digits (both _ _ hex).1 even)

pub one_read : (out new xs behind whole : List ℕ) (byte : ℕ) → 2 ≤ length xs → new ≡ out ++ byte ∷ [] → byte ≡ byte_of (slice_index xs 0) (slice_index xs 1)
    → behind ≡ drop 2 xs → out ++ bytes_of xs ≡ whole → new ++ bytes_of behind ≡ whole
one_read out new (high ∷ low ∷ xs) behind whole byte some put is rest so_far =
    ap (λ (own : List ℕ). own ++ bytes_of behind) put ∙ ap (λ own. (out ++ byte ∷ []) ++ bytes_of own) rest
    ∙ append_assoc out (byte ∷ []) (bytes_of xs) ∙ rw is so_far
one_read out new (high ∷ []) behind whole byte some put is rest so_far = absurd (omega arith)
one_read out new [] behind whole byte some put is rest so_far = absurd (omega arith)

pub few_read : (out xs whole : List ℕ) → length xs ≤ 1 → out ++ bytes_of xs ≡ whole → out ≡ whole
few_read out [] whole few so_far = sym (append-nil out) ∙ so_far
few_read out (one ∷ []) whole few so_far = sym (append-nil out) ∙ so_far
few_read out (one ∷ two ∷ xs) whole few so_far = absurd (omega arith)

pub digits_left : (xs behind : List ℕ) → 2 ≤ length xs → behind ≡ drop 2 xs → list_all is_digit xs ≡ true → list_all is_digit behind ≡ true
digits_left (high ∷ low ∷ xs) behind some rest all = ap (list_all is_digit) rest ∙ (both (is_digit low) (list_all is_digit xs) (both (is_digit high) (list_all is_digit (low ∷ xs)) all).1).1
digits_left (high ∷ []) behind some rest all = absurd (omega arith)
digits_left [] behind some rest all = absurd (omega arith)

-- the bytes of the first sixteen digits
abbrev pub first_bytes : List ℕ → List ℕ
first_bytes xs = byte_of (slice_index xs 0) (slice_index xs 1) ∷ byte_of (slice_index xs 2) (slice_index xs 3) ∷ byte_of (slice_index xs 4) (slice_index xs 5) ∷ byte_of (slice_index xs 6) (slice_index xs 7) ∷ byte_of (slice_index xs 8) (slice_index xs 9) ∷ byte_of (slice_index xs 10) (slice_index xs 11) ∷ byte_of (slice_index xs 12) (slice_index xs 13) ∷ byte_of (slice_index xs 14) (slice_index xs 15) ∷ []

cut_sixteen : (xs : List ℕ) → 16 ≤ length xs → bytes_of xs ≡ first_bytes xs ++ bytes_of (drop 16 xs)
cut_sixteen (a ∷ b ∷ c ∷ d ∷ e ∷ f ∷ g ∷ h ∷ i ∷ j ∷ k ∷ l ∷ m ∷ n ∷ o ∷ p ∷ xs) some = refl
cut_sixteen (a ∷ b ∷ c ∷ d ∷ e ∷ f ∷ g ∷ h ∷ i ∷ j ∷ k ∷ l ∷ m ∷ n ∷ o ∷ []) some = absurd (omega arith)
cut_sixteen (a ∷ b ∷ c ∷ d ∷ e ∷ f ∷ g ∷ h ∷ i ∷ j ∷ k ∷ l ∷ m ∷ n ∷ []) some = absurd (omega arith)
cut_sixteen (a ∷ b ∷ c ∷ d ∷ e ∷ f ∷ g ∷ h ∷ i ∷ j ∷ k ∷ l ∷ m ∷ []) some = absurd (omega arith)
cut_sixteen (a ∷ b ∷ c ∷ d ∷ e ∷ f ∷ g ∷ h ∷ i ∷ j ∷ k ∷ l ∷ []) some = absurd (omega arith)
cut_sixteen (a ∷ b ∷ c ∷ d ∷ e ∷ f ∷ g ∷ h ∷ i ∷ j ∷ k ∷ []) some = absurd (omega arith)
cut_sixteen (a ∷ b ∷ c ∷ d ∷ e ∷ f ∷ g ∷ h ∷ i ∷ j ∷ []) some = absurd (omega arith)
cut_sixteen (a ∷ b ∷ c ∷ d ∷ e ∷ f ∷ g ∷ h ∷ i ∷ []) some = absurd (omega arith)
cut_sixteen (a ∷ b ∷ c ∷ d ∷ e ∷ f ∷ g ∷ h ∷ []) some = absurd (omega arith)
cut_sixteen (a ∷ b ∷ c ∷ d ∷ e ∷ f ∷ g ∷ []) some = absurd (omega arith)
cut_sixteen (a ∷ b ∷ c ∷ d ∷ e ∷ f ∷ []) some = absurd (omega arith)
cut_sixteen (a ∷ b ∷ c ∷ d ∷ e ∷ []) some = absurd (omega arith)
cut_sixteen (a ∷ b ∷ c ∷ d ∷ []) some = absurd (omega arith)
cut_sixteen (a ∷ b ∷ c ∷ []) some = absurd (omega arith)
cut_sixteen (a ∷ b ∷ []) some = absurd (omega arith)
cut_sixteen (a ∷ []) some = absurd (omega arith)
cut_sixteen [] some = absurd (omega arith)

pub eight_read : (out new xs behind whole bytes : List ℕ) → 16 ≤ length xs → new ≡ out ++ bytes → bytes ≡ first_bytes xs → behind ≡ drop 16 xs
    → out ++ bytes_of xs ≡ whole → new ++ bytes_of behind ≡ whole
eight_read out new xs behind whole bytes some put are rest so_far =
    ap (λ (own : List ℕ). own ++ bytes_of behind) (put ∙ ap (λ own. out ++ own) are)
    ∙ ap (λ own. (out ++ first_bytes xs) ++ bytes_of own) rest
    ∙ append_assoc out (first_bytes xs) (bytes_of (drop 16 xs)) ∙ ap (λ own. out ++ own) (sym (cut_sixteen xs some)) ∙ so_far

digits_behind : (n : ℕ) (xs : List ℕ) → list_all is_digit xs ≡ true → list_all is_digit (drop n xs) ≡ true
digits_behind zero xs all = all
digits_behind (suc n) [] all = refl
digits_behind (suc n) (digit ∷ xs) all = digits_behind n xs (both (is_digit digit) (list_all is_digit xs) all).1

pub digit_at : (n : ℕ) (xs : List ℕ) → n < length xs → list_all is_digit xs ≡ true → is_digit (slice_index xs n) ≡ true
digit_at n [] there all = absurd (omega arith)
digit_at zero (digit ∷ xs) there all = (both (is_digit digit) (list_all is_digit xs) all).0
digit_at (suc n) (digit ∷ xs) there all = digit_at n xs (omega arith) (both (is_digit digit) (list_all is_digit xs) all).1

pub sixteen_behind : (xs behind : List ℕ) → 16 ≤ length xs → behind ≡ drop 16 xs → list_all is_digit xs ≡ true → list_all is_digit behind ≡ true
sixteen_behind xs behind some rest all = ap (list_all is_digit) rest ∙ digits_behind 16 xs all

-- ---- bytes that are written

pub one_written : (out new xs behind whole : List ℕ) (high low : ℕ) → 1 ≤ length xs → new ≡ (out ++ high ∷ []) ++ low ∷ []
    → high ≡ slice_index lower_digits (slice_index xs 0 / 16) → low ≡ slice_index lower_digits (slice_index xs 0 % 16)
    → behind ≡ drop 1 xs → out ++ encode_lower xs ≡ whole → new ++ encode_lower behind ≡ whole
unfolding encode_with
one_written out new (byte ∷ xs) behind whole high low some put first second rest so_far =
    ap (λ (own : List ℕ). own ++ encode_lower behind) (put ∙ append_assoc out (high ∷ []) (low ∷ []))
    ∙ ap (λ own. (out ++ high ∷ low ∷ []) ++ encode_lower own) rest ∙ append_assoc out (high ∷ low ∷ []) (encode_lower xs)
    ∙ rw (first, second) so_far
one_written out new [] behind whole high low some put first second rest so_far = absurd (omega arith)

-- the first eight
abbrev pub first_eight : List ℕ → List ℕ
first_eight xs = slice_index xs 0 ∷ slice_index xs 1 ∷ slice_index xs 2 ∷ slice_index xs 3 ∷ slice_index xs 4 ∷ slice_index xs 5 ∷ slice_index xs 6 ∷ slice_index xs 7 ∷ []

cut_eight : (xs : List ℕ) → 8 ≤ length xs → encode_lower xs ≡ encode_lower (first_eight xs) ++ encode_lower (drop 8 xs)
unfolding encode_with
cut_eight (a ∷ b ∷ c ∷ d ∷ e ∷ f ∷ g ∷ h ∷ xs) some = refl
cut_eight (a ∷ b ∷ c ∷ d ∷ e ∷ f ∷ g ∷ []) some = absurd (omega arith)
cut_eight (a ∷ b ∷ c ∷ d ∷ e ∷ f ∷ []) some = absurd (omega arith)
cut_eight (a ∷ b ∷ c ∷ d ∷ e ∷ []) some = absurd (omega arith)
cut_eight (a ∷ b ∷ c ∷ d ∷ []) some = absurd (omega arith)
cut_eight (a ∷ b ∷ c ∷ []) some = absurd (omega arith)
cut_eight (a ∷ b ∷ []) some = absurd (omega arith)
cut_eight (a ∷ []) some = absurd (omega arith)
cut_eight [] some = absurd (omega arith)

pub eight_written : (out new xs behind whole digits : List ℕ) → 8 ≤ length xs → new ≡ out ++ digits → digits ≡ encode_lower (first_eight xs)
    → behind ≡ drop 8 xs → out ++ encode_lower xs ≡ whole → new ++ encode_lower behind ≡ whole
eight_written out new xs behind whole digits some put are rest so_far =
    ap (λ (own : List ℕ). own ++ encode_lower behind) (put ∙ ap (λ own. out ++ own) are)
    ∙ ap (λ own. (out ++ encode_lower (first_eight xs)) ++ encode_lower own) rest
    ∙ append_assoc out (encode_lower (first_eight xs)) (encode_lower (drop 8 xs))
    ∙ ap (λ own. out ++ own) (sym (cut_eight xs some)) ∙ so_far

pub all_written : (out xs whole : List ℕ) → length xs ≤ 0 → out ++ encode_lower xs ≡ whole → out ≡ whole
unfolding encode_with
all_written out [] whole none so_far = sym (append-nil out) ∙ so_far
all_written out (byte ∷ xs) whole none so_far = absurd (omega arith)
