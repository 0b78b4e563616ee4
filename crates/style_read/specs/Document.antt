-- What stands in a document of TOML, as it is asked for a style. What is asked for and is not there is empty.
-- TOML, "Table", "Array" and "String"; a table is written by a header, by dotted keys or in line, all with one meaning.
use Rattle.std.specs.Prelude.{ℕ, List, [], ◌∷◌, Bool, true, ◌&&◌, ◌==◌, false, not, length, Option, None, is_some, is_none, if◌then◌else◌}
use Rattle.std.specs.Option.{option_map, unwrap_or}
use Rattle.std.specs.List.{list_any, list_all}
use Rattle.std.specs.Str.{is_utf8}
use Rattle.toml.specs.Data.{Data, table, Items, no_items, item, Members, no_members, member, get, as_str, as_array, as_table}
use Rattle.toml.specs.Parse.{parse_document}

-- the table that a text is, where it is a document
abbrev pub table_of_text : List ℕ → Option Data
table_of_text text = option_map table (parse_document text)

-- the table that bytes are, where they are text and a document
unfoldable pub document : List ℕ → Option Data
document bytes = if is_utf8 bytes then table_of_text bytes else None

-- items as a list
abbrev pub items_in : Items → List Data
items_in no_items = []
items_in (item value rest) = value ∷ items_in rest

-- the bytes of a text
abbrev pub text_value : Data → List ℕ
text_value value = unwrap_or (as_str value) []

-- the values of a list
abbrev pub values_of : Data → List Data
values_of value = unwrap_or (option_map items_in (as_array value)) []

-- the bytes of the text at a key
abbrev pub text_at : List ℕ → Data → List ℕ
text_at key part = unwrap_or (option_map text_value (get key part)) []

-- the values of the list at a key
abbrev pub values_at : List ℕ → Data → List Data
values_at key part = unwrap_or (option_map values_of (get key part)) []

-- nothing stands at a key
abbrev pub lacks : List ℕ → Data → Bool
lacks key part = is_none (get key part)

-- what stands at a key, if anything, passes this test
abbrev pub may_have : (Data → Bool) → List ℕ → Data → Bool
may_have test key part = unwrap_or (option_map test (get key part)) true

-- values by their type
abbrev pub is_text : Data → Bool
is_text value = is_some (as_str value)

abbrev pub is_list : Data → Bool
is_list value = is_some (as_array value)

abbrev pub is_table : Data → Bool
is_table value = is_some (as_table value)

-- a list of texts
abbrev pub are_texts : Data → Bool
are_texts value = is_list value && list_all is_text (values_of value)

-- a list of tables
abbrev pub are_tables : Data → Bool
are_tables value = is_list value && list_all is_table (values_of value)

-- a list of nothing stands at a key
abbrev pub has_empty_list : List ℕ → Data → Bool
has_empty_list key part = unwrap_or (option_map (λ value. is_list value && length (values_of value) == 0) (get key part)) false

-- the keys of a table
abbrev pub keys_in : Members → List (List ℕ)
keys_in no_members = []
keys_in (member key value rest) = key ∷ keys_in rest

-- a part has a key that fails this test
abbrev pub has_other_key : (List ℕ → Bool) → Data → Bool
has_other_key is_known part = list_any (λ key. not (is_known key)) (unwrap_or (option_map keys_in (as_table part)) [])
