-- A number among the words.
use Rattle.std.specs.Prelude.{ℕ, Bool, ◌&&◌, nat_le, if◌then◌else◌, List, length, Option, Some, None}
use Rattle.std.specs.Char.{is_ascii_digit}
use Rattle.std.specs.List.{list_all}
use Rattle.std.specs.Str.Parse.{digits_value}

-- from 1 to 6 decimal digits
abbrev pub is_spelled : List ℕ → Bool
is_spelled word = (nat_le 1 (length word) && nat_le (length word) 6) && list_all is_ascii_digit word

-- the number that a word writes
unfoldable pub number : List ℕ → Option ℕ
number word = if is_spelled word then Some (digits_value 10 word) else None

-- where it is in a range
abbrev pub in_range : (least most : ℕ) → Option ℕ → Option ℕ
in_range least most None = None
in_range least most (Some value) = if nat_le least value && nat_le value most then Some value else None
