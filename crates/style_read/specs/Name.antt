-- The name of a selection, a table or a column: 1 to 63 characters of a to z, 0 to 9 and `_`, so that PostgreSQL takes it
-- as it is. PostgreSQL manual, "Identifiers and Key Words": an identifier has at most 63 bytes.
use Rattle.std.specs.Prelude.{ℕ, List, Bool, ◌&&◌, ◌||◌, ◌==◌, nat_le, length}
use Rattle.std.specs.Char.{is_ascii_digit, is_ascii_lowercase}
use Rattle.std.specs.List.{list_all}
use Rattle.style_read.specs.declared.name.TheConstants.{MAX_NAME, UNDERSCORE}

-- a character of a name
abbrev pub is_name_byte : ℕ → Bool
is_name_byte byte = (is_ascii_lowercase byte || is_ascii_digit byte) || byte == UNDERSCORE

-- a name
abbrev pub is_name : List ℕ → Bool
is_name text = (nat_le 1 (length text) && nat_le (length text) MAX_NAME) && list_all is_name_byte text
