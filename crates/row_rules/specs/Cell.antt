-- The cells of a row.
-- osm2pgsql manual, "Defining Columns": a column of text or of whole numbers, and one of all tags as JSON.
use Rattle.std.specs.Prelude.{ℕ, ℤ, pos, neg_ℤ, Bool, true, false, ◌&&◌, ◌==◌, List, [], ◌∷◌, length, drop, map, encode_utf8_all, nat_le}
use Rattle.std.specs.Prelude.{slice_index, if◌then◌else◌, Option, None, Some}
use Rattle.std.specs.Char.{is_ascii_digit}
use Rattle.std.specs.Cmp.Lexicographic.{slice_cmp}
use Rattle.std.specs.FinMap as finite
use Rattle.std.specs.List.{filter_map, join_with_byte, list_all, slice_get}
use Rattle.std.specs.Option.{option_map_or}
use Rattle.std.specs.Ordering.{nat_cmp}
use Rattle.std.specs.Str.{chars}
use Rattle.std.specs.Str.Parse.{digits_value}
use Rattle.serde_json.specs.Data.{Members, member, no_members, object, string}
use Rattle.serde_json.specs.Written.{compact_text}
use Rattle.osm_base.specs.declared.values.row.Cell.{Cell}
use Rattle.osm_base.specs.declared.values.row.Cell.TheVariants as cells
use Rattle.osm_base.specs.values.Tags.{TagMap, TagPairs}
use Rattle.style_read.specs.declared.style.Column.{Column}
use Rattle.style_read.specs.declared.style.Origin.{Origin}
use Rattle.style_read.specs.declared.style.Origin.TheVariants as origins
use Rattle.style_read.specs.declared.style.Selection.{Selection}
use Rattle.row_rules.specs.declared.cell.TheConstants.{COMMA, MAX_DIGITS, MINUS}

-- whether a minus stands in front of the bytes of a text
abbrev pub is_negative : List ℕ → Bool
is_negative text = slice_index text 0 == MINUS

-- whether bytes are from one to `MAX_DIGITS` digits
abbrev pub are_digits : List ℕ → Bool
are_digits text = (nat_le 1 (length text) && nat_le (length text) MAX_DIGITS) && list_all is_ascii_digit text

-- the number that digits spell, if they are digits
abbrev pub unsigned : List ℕ → Option ℕ
unsigned text = if are_digits text then Some (digits_value 10 text) else None

-- the whole number that bytes spell: an optional minus and from one to `MAX_DIGITS` digits
abbrev pub whole_number : List ℕ → Option ℤ
whole_number text =
    if is_negative text then option_map_or (λ n. Some (neg_ℤ (pos n))) (unsigned (drop 1 text)) None
    else option_map_or (λ n. Some (pos n)) (unsigned text) None

-- the cell of a tag's value, as a text or as a whole number
abbrev pub value_cell : Bool → List ℕ → Cell
value_cell false value = cells.Text value
value_cell true value = option_map_or cells.Int (whole_number (encode_utf8_all value)) cells.Null

-- the members of a JSON object: keys and values in UTF-8, by rising keys
abbrev pub members_of : TagPairs → Members
members_of [] = no_members
members_of (tag ∷ tags) = member (encode_utf8_all tag.0) (string (encode_utf8_all tag.1)) (members_of tags)

-- all tags as a JSON object without spaces
abbrev pub json_of : TagMap → List ℕ
json_of tags = compact_text (object (members_of (finite.entries tags)))

-- the values of a tag over the relations that select, in UTF-8
abbrev pub values_of : List ℕ → List TagMap → List (List ℕ)
values_of key relations = map encode_utf8_all (filter_map (λ tags. finite.get tags key) relations)

-- texts as the keys of a finite map, which says nothing of each
abbrev pub marked : List (List ℕ) → List (List ℕ × Unit {0})
marked texts = map (λ text. (text, tt)) texts

-- the distinct ones of some texts, in byte order: the keys of the map of these
abbrev pub distinct : List (List ℕ) → List (List ℕ)
distinct texts = finite.keys (finite.from_entries {R = slice_cmp nat_cmp} (marked texts))

-- texts joined by commas; nothing where there is none
abbrev pub joined_cell : List (List ℕ) → Cell
joined_cell [] = cells.Null
joined_cell (text ∷ texts) = cells.Text (chars (join_with_byte COMMA (text ∷ texts)))

-- the cell of the values that a selection hands on, over the relations that select by it
abbrev pub selected_cell : Option Selection → List TagMap → Cell
selected_cell None relations = cells.Null
selected_cell (Some selection) relations = joined_cell (distinct (values_of selection.take relations))

-- the cell of an origin, as a text or as a whole number, for an object with these tags
abbrev pub cell_from : List Selection → (ℕ → List TagMap) → TagMap → Bool → Origin → Cell
cell_from selections selecting tags int (origins.Tag key) = option_map_or (value_cell int) (finite.get tags key) cells.Null
cell_from selections selecting tags int origins.AllTags = cells.Text (chars (json_of tags))
cell_from selections selecting tags int (origins.Selected number) = selected_cell (slice_get selections number) (selecting number)

-- the cell of a column
abbrev pub cell_of : List Selection → (ℕ → List TagMap) → TagMap → Column → Cell
cell_of selections selecting tags column = cell_from selections selecting tags column.int column.origin
