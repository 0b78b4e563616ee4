-- How a line and its values are cut.
-- osmium "OPL File Format": a line consists of fields that are separated by one or more spaces or tabs;
-- the first character of a field is its letter, and the items of a list are separated by commas.
use Rattle.std.specs.Prelude.{ℕ, ◌≡◌, Bool, ◌||◌, not, ◌==◌, nat_lt, if◌then◌else◌, List, [], length, take, drop, slice_index}
use Rattle.std.specs.Prelude.{Option, None, Some}
use Rattle.std.specs.List.{slice_split, filter, position_or_len, before_first, after_first}
use Rattle.opl_object.specs.declared.ascii.TheConstants.{TAB, SPACE}

-- the test that a byte is this one
abbrev pub is : ℕ → ℕ → Bool
is byte other = other == byte

-- a space or a tab
abbrev pub is_blank : ℕ → Bool
is_blank byte = byte == SPACE || byte == TAB

-- the value in front of a text ends here, at its first space or tab or where the text ends, and this is so of it
pub record IsValueEnd (Says : List ℕ → Type 0) (text : List ℕ) (end : ℕ) : Type 0 where
  pub place : end ≡ position_or_len is_blank text
  pub value : Says (take end text)

-- the text from its first space or tab on
abbrev pub from_blank : List ℕ → List ℕ
from_blank text = drop (position_or_len is_blank text) text

abbrev pub is_empty : List ℕ → Bool
is_empty text = length text == 0

-- the pieces between spaces and tabs that are not empty
unfoldable pub fields_of : List ℕ → List (List ℕ)
fields_of line = filter (λ piece. not (is_empty piece)) (slice_split is_blank line)

-- what stands before the first byte that ends a piece and, where there is one, what stands after it
abbrev pub cut_at : (ℕ → Bool) → List ℕ → List ℕ × Option (List ℕ)
cut_at ends text = (before_first ends text, if nat_lt (position_or_len ends text) (length text) then Some (after_first ends text) else None)

-- the pieces of what stands after a cut
abbrev pub later_pieces : (ℕ → Bool) → Option (List ℕ) → List (List ℕ)
later_pieces ends None = []
later_pieces ends (Some rest) = slice_split ends rest

-- what stands behind this first byte, where it is the first
abbrev pub behind : ℕ → List ℕ → Option (List ℕ)
behind first text = if slice_index text 0 == first then Some (drop 1 text) else None
