-- Texts that need no escape, and the escapes of characters.
use Rattle.std.proofs.Common.{◌≡◌, ℕ, suc, ◌<◌, ◌≤◌, Bool, true, false, ◌||◌, List, [], ◌∷◌, ◌++◌, length, get_or, ltb, refl, sym, ◌∙◌, ap}
use Rattle.std.proofs.Common.{arith}
use Rattle.std.proofs.lemmas.Bool.Decides.{nat_tests}
use Rattle.std.proofs.lemmas.List.{append-nil}
use Rattle.std.proofs.lemmas.Str.{encode_ascii, inside_one}
use Rattle.std.specs.List.{list_any}
use Rattle.std.specs.Prelude.{encode_utf8}
use Rattle.row_text.specs.CopyText.{copy_text, has_escape, text_of_byte}

-- a byte without an escape is written as it is
plain_byte : (byte : ℕ) → has_escape byte ≡ false → text_of_byte byte ≡ byte ∷ []
unfolding has_escape text_of_byte
plain_byte byte h = grind (arith, nat_tests)

or_left : (a b : Bool) → (a || b) ≡ false → a ≡ false
or_left true b e = absurd (cc)
or_left false b e = refl

or_right : (a b : Bool) → (a || b) ≡ false → b ≡ false
or_right true b e = absurd (cc)
or_right false b e = e

-- so is a text without escapes
pub plain : (text : List ℕ) → list_any has_escape text ≡ false → copy_text text ≡ text
plain [] h = refl
plain (byte ∷ bytes) h =
    ap (λ front. front ++ copy_text bytes) (plain_byte byte (or_left (has_escape byte) (list_any has_escape bytes) h))
    ∙ ap (λ rest. byte ∷ rest) (plain bytes (or_right (has_escape byte) (list_any has_escape bytes) h))

-- no byte past ASCII has an escape
past_ascii : (byte : ℕ) → 128 ≤ byte → has_escape byte ≡ false
unfolding has_escape
past_ascii byte h = grind (arith, nat_tests)

none_past : (bytes : List ℕ) → ((k : ℕ) → k < length bytes → 128 ≤ get_or bytes k 0) → list_any has_escape bytes ≡ false
none_past [] h = refl
none_past (byte ∷ bytes) h =
    rw (past_ascii byte (h 0 (omega arith))) (none_past bytes (λ k below. h (suc k) (omega arith)))

-- the bytes of a character past ASCII are past it
bytes_past : (character : ℕ) → 128 ≤ character → (k : ℕ) → k < length (encode_utf8 character) → 128 ≤ get_or (encode_utf8 character) k 0
bytes_past character far k below =
    elim (ltb (get_or (encode_utf8 character) k 0) 128) as
    (λ b. ltb (get_or (encode_utf8 character) k 0) 128 ≡ b → 128 ≤ get_or (encode_utf8 character) k 0) [
      | true ↦ λ e.
          let same = inside_one character [] (encode_utf8 character) k (sym (append-nil (encode_utf8 character))) below
          (grind (arith, nat_tests)) in
          absurd (grind (arith, nat_tests))
      | false ↦ λ e. grind (arith, nat_tests)
    ] refl

-- a character without an escape is written as it is
pub plain_character : (character : ℕ) → has_escape character ≡ false → copy_text (encode_utf8 character) ≡ encode_utf8 character
plain_character character h =
    elim (ltb character 128) as (λ b. ltb character 128 ≡ b → copy_text (encode_utf8 character) ≡ encode_utf8 character) [
      | true ↦ λ e.
          let one : encode_utf8 character ≡ character ∷ [] = encode_ascii character (grind (arith, nat_tests)) in
          rw one (plain (character ∷ []) (rw h refl))
      | false ↦ λ e. plain (encode_utf8 character) (none_past (encode_utf8 character) (bytes_past character (grind (arith, nat_tests))))
    ] refl
