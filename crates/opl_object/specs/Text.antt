-- Texts of a line: keys, values, roles and names.
-- osmium "OPL File Format": all characters that have a special meaning in a line are escaped, by a percent sign,
-- the code point in hexadecimal digits and a percent sign.
use Rattle.std.specs.Prelude.{ℕ, Bool, ◌&&◌, ◌||◌, not, ◌==◌, nat_le, nat_lt, if◌then◌else◌, List, [], ◌∷◌, ◌++◌, length, Result, Ok, Err}
use Rattle.std.specs.List.{list_all, slice_split}
use Rattle.std.specs.Char.{is_ascii_hexdigit, encode_utf8}
use lib.Utf8.{scalar}
use Rattle.std.specs.Str.{chars}
use Rattle.std.specs.Str.Parse.{digits_value}
use Rattle.opl_object.specs.declared.ascii.TheConstants.{TAB, LINE_FEED, SPACE, PERCENT, COMMA, EQUALS, AT}
use Rattle.opl_object.specs.declared.why.Why.{Why}
use Rattle.opl_object.specs.declared.why.Why.TheVariants.{Escape}
use Rattle.opl_object.specs.Fields.{is}
use Rattle.opl_object.specs.Why.{◌>>=◌}

-- what stands in no text as it is: zero, tab, newline, space, percent, comma, equals sign, at sign
abbrev pub is_reserved : ℕ → Bool
is_reserved byte = (((byte == 0) || (byte == TAB)) || ((byte == LINE_FEED) || (byte == SPACE))) ||
    (((byte == PERCENT) || (byte == COMMA)) || ((byte == EQUALS) || (byte == AT)))

-- nothing reserved
abbrev pub is_plain : List ℕ → Bool
is_plain text = list_all (λ byte. not (is_reserved byte)) text

-- the code point between two percent signs: from 1 to 6 hexadecimal digits, a Unicode scalar value that is not zero
unfoldable pub escaped : List ℕ → Result ℕ Why
escaped digits = if ((nat_le 1 (length digits) && nat_le (length digits) 6) && list_all is_ascii_hexdigit digits)
    && (scalar (digits_value 16 digits) && nat_lt 0 (digits_value 16 digits)) then Ok (digits_value 16 digits) else Err Escape

-- Between its percent signs a text is by turns plain and the digits of an escape, plain at both ends.
-- What the pieces stand for, in UTF-8, behind what went before them.
unfoldable pub resolved : List ℕ → List (List ℕ) → Result (List ℕ) Why
resolved text [] = Err Escape
resolved text (plain ∷ []) = if is_plain plain then Ok (text ++ plain) else Err Escape
resolved text (plain ∷ digits ∷ pieces) = if is_plain plain
    then (escaped digits >>= λ code. resolved ((text ++ plain) ++ encode_utf8 code) pieces)
    else Err Escape

-- the UTF-8 of a text of a line, its escapes resolved
unfoldable pub bytes_of : List ℕ → Result (List ℕ) Why
bytes_of spelled = resolved [] (slice_split (is PERCENT) spelled)

-- and its characters
unfoldable pub text_of : List ℕ → Result (List ℕ) Why
text_of spelled = bytes_of spelled >>= λ bytes. Ok (chars bytes)

-- a text that is not kept: only whether it is one
unfoldable pub checked_text : List ℕ → Result (Unit {0}) Why
checked_text spelled = bytes_of spelled >>= λ _. Ok tt
