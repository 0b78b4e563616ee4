-- Numbers and times of a line.
-- osmium "OPL File Format": v, c and i are numbers, t is a time in ISO format, and an id follows the kind.
use Rattle.std.specs.Prelude.{ℕ, Bool, ◌&&◌, ◌||◌, ◌==◌, nat_le, if◌then◌else◌, List, length, drop, slice_index, Result, Ok, Err}
use Rattle.std.specs.List.{list_all, zip}
use Rattle.std.specs.Char.{is_ascii_digit}
use Rattle.std.specs.Str.Parse.{digits_value}
use Rattle.osm_base.specs.declared.values.key.TheConstants.{MAX_ID}
use Rattle.opl_object.specs.declared.ascii.TheConstants.{MINUS}
use Rattle.opl_object.specs.declared.number.TheConstants.{TIME_FORM}
use Rattle.opl_object.specs.declared.why.Why.{Why}
use Rattle.opl_object.specs.declared.why.Why.TheVariants.{Id}
use Rattle.opl_object.specs.Fields.{is_empty}

-- whether a minus stands in front
abbrev pub is_negative : List ℕ → Bool
is_negative text = slice_index text 0 == MINUS

-- what stands behind a minus, or all
abbrev pub unsigned : List ℕ → List ℕ
unsigned text = if is_negative text then drop 1 text else text

-- from one to so many digits
abbrev pub are_digits : ℕ → List ℕ → Bool
are_digits most text = (nat_le 1 (length text) && nat_le (length text) most) && list_all is_ascii_digit text

-- nothing, or an optional minus and from 1 to 19 digits
abbrev pub is_whole : List ℕ → Bool
is_whole text = is_empty text || are_digits 19 (unsigned text)

-- a digit where the form has one, and else the form's own character
abbrev pub is_formed : ℕ × ℕ → Bool
is_formed (form, byte) = if is_ascii_digit form then is_ascii_digit byte else (byte == form)

-- nothing, or a time as 2024-05-01T10:00:00Z
abbrev pub is_time : List ℕ → Bool
is_time text = is_empty text || ((length text == 20) && list_all is_formed (zip TIME_FORM text))

-- an id: from 1 to 19 digits, whose value is an id
unfoldable pub id_of : List ℕ → Result ℕ Why
id_of text = if are_digits 19 text && (nat_le 1 (digits_value 10 text) && nat_le (digits_value 10 text) MAX_ID)
    then Ok (digits_value 10 text) else Err Id
