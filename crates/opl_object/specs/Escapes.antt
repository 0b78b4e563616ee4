-- A text as it is written: some characters as they are, all others as escapes.
-- osmium "OPL File Format": special characters are written as a percent sign, the code point in hexadecimal digits and
-- a percent sign. This writer leaves only letters, digits and five signs as they are.
use Rattle.std.specs.Prelude.{◌≡◌, ℕ, ◌/◌, ◌%◌, ◌<◌, Bool, true, ◌||◌, ◌==◌, if◌then◌else◌, List, [], ◌∷◌, ◌++◌, drop, flat_map}
use Rattle.std.specs.Char.{is_ascii_alphanumeric, digit_char}
use Rattle.std.specs.List.{prefix_len, AllByRecursion}
use lib.Utf8.{scalars}
use Rattle.opl_object.specs.declared.ascii.TheConstants.{PERCENT, MINUS, POINT, SLASH, DIGIT_0, COLON, UNDERSCORE}

-- an ASCII letter or digit, or one of _ - . : /
abbrev pub is_bare : ℕ → Bool
is_bare code = is_ascii_alphanumeric code || ((code == UNDERSCORE || code == MINUS) || (code == POINT || (code == COLON || code == SLASH)))

-- the six hexadecimal digits of a code point, in lower case
abbrev pub six_digits : ℕ → List ℕ
six_digits code =
    digit_char (code / 1048576 % 16) ∷ digit_char (code / 65536 % 16) ∷ digit_char (code / 4096 % 16)
    ∷ digit_char (code / 256 % 16) ∷ digit_char (code / 16 % 16) ∷ digit_char (code % 16) ∷ []

-- the digit 0
abbrev pub is_zero : ℕ → Bool
is_zero digit = digit == DIGIT_0

-- digits without the zeros at their front
abbrev pub without_zeros : List ℕ → List ℕ
without_zeros digits = drop (prefix_len is_zero digits) digits

-- an escape: its digits between two percent signs
unfoldable pub escape_text : ℕ → List ℕ
escape_text code = PERCENT ∷ (without_zeros (six_digits code) ++ PERCENT ∷ [])

-- a character as it is, or its escape
abbrev pub code_text : ℕ → List ℕ
code_text code = if is_bare code then code ∷ [] else escape_text code

-- a text, character by character
unfoldable pub written_text : List ℕ → List ℕ
written_text text = flat_map code_text text

-- all characters are Unicode scalar values
abbrev pub IsText : List ℕ → Type 0
IsText text = scalars text ≡ true

-- no character is the code point zero
abbrev pub IsWithoutZero : List ℕ → Type 0
IsWithoutZero text = AllByRecursion (λ code. 0 < code) text
