-- Which causes stand against which part of a document, and which of them is told.
-- The parts are examined in the order top, selections, tables, and the first part with a fault decides; within a part the
-- first cause that applies in the order of `order`. The columns of a table belong to its part. docs/STYLES.md states the
-- rule for operators.
use Rattle.std.specs.Prelude.{ℕ, ◌+◌, List, [], ◌∷◌, ◌++◌, Bool, false, ◌&&◌, ◌||◌, not, nat_lt, ◌==◌, Option, None, is_some, length, codes}
use Rattle.std.specs.List.{find, list_any}
use Rattle.std.specs.Option.{option_map, option_or}
use Rattle.toml.specs.Data.{Data}
use Rattle.style_read.specs.Document.{text_value, text_at, values_at, lacks, may_have, is_text, is_table, are_texts, are_tables}
use Rattle.style_read.specs.Document.{has_empty_list, has_other_key}
use Rattle.style_read.specs.Name.{is_name}
use Rattle.style_read.specs.Condition.{is_named, is_bad_condition, asks_unknown}
use Rattle.style_read.specs.Column.{is_bad_column}
use Rattle.style_read.specs.Words.{is_key_of, source_of, is_geometry, gives_geometry, may_select, mode_of, is_type}
use Rattle.style_read.specs.declared.fault.StyleWhy.{StyleWhy}
use Rattle.style_read.specs.declared.fault.StyleWhy.TheVariants as causes
use Rattle.style_read.specs.declared.fault.StylePart.{StylePart}
use Rattle.style_read.specs.declared.fault.StylePart.TheVariants as parts
use Rattle.style_read.specs.declared.style.TheConstants.{MAX_SELECTIONS, MAX_TABLES, MAX_COLUMNS}
use Rattle.style_read.specs.declared.words.Level.TheVariants as levels

-- the order in which causes are asked of a part
abbrev pub order : List StyleWhy
order =
    causes.TooMany ∷ causes.UnknownKey ∷ causes.MissingKey ∷ causes.WrongType ∷ causes.Name
    ∷ causes.SourceGeometry ∷ causes.Condition ∷ causes.Column ∷ causes.UnknownSelection ∷ []

-- the first cause that applies, in this order
abbrev pub first_cause : (StyleWhy → Bool) → Option StyleWhy
first_cause applies = find applies order

-- what the document writes as selections, and as tables
abbrev pub selections_of : Data → List Data
selections_of document = values_at (codes "select") document

abbrev pub tables_of : Data → List Data
tables_of document = values_at (codes "table") document

-- there are more selections or tables than there may be
unfoldable pub has_too_many : Data → Bool
has_too_many document = nat_lt MAX_SELECTIONS (length (selections_of document)) || nat_lt MAX_TABLES (length (tables_of document))

-- there is no table
unfoldable pub lacks_tables : Data → Bool
lacks_tables document = lacks (codes "table") document || has_empty_list (codes "table") document

-- selections or tables are no list of tables
unfoldable pub has_other_lists : Data → Bool
has_other_lists document = not (may_have are_tables (codes "select") document) || not (may_have are_tables (codes "table") document)

-- the causes against the top
unfoldable pub top_has : Data → StyleWhy → Bool
top_has document causes.TooMany = has_too_many document
top_has document causes.UnknownKey = has_other_key (is_key_of levels.Top) document
top_has document causes.MissingKey = lacks_tables document
top_has document causes.WrongType = has_other_lists document
top_has document _ = false

-- a name is not in its form, or that of a part before
unfoldable pub has_bad_name : (before : List Data) → Data → Bool
has_bad_name before part = not (is_name (text_at (codes "name") part)) || list_any (is_named (text_at (codes "name") part)) before

-- a value of a list is no condition where it stands
unfoldable pub has_bad_condition : (key : List ℕ) → Bool → Data → Bool
has_bad_condition key selecting part = list_any (λ value. is_bad_condition selecting (text_value value)) (values_at key part)

-- a key of a selection is not there
unfoldable pub lacks_of_selection : Data → Bool
lacks_of_selection part = lacks (codes "name") part || (lacks (codes "where") part || lacks (codes "take") part)

-- a value of a selection has another type
unfoldable pub has_other_types : Data → Bool
has_other_types part = not (may_have is_text (codes "name") part) ||
    (not (may_have are_texts (codes "where") part) || not (may_have is_text (codes "take") part))

-- a condition of a selection is none on tags, or the key that it takes is empty
unfoldable pub is_bad_selection : Data → Bool
is_bad_selection part = has_bad_condition (codes "where") false part || length (text_at (codes "take") part) == 0

-- the causes against a selection, beside those before it
unfoldable pub selection_has : (before : List Data) → Data → StyleWhy → Bool
selection_has before part causes.UnknownKey = has_other_key (is_key_of levels.Selection) part
selection_has before part causes.MissingKey = lacks_of_selection part
selection_has before part causes.WrongType = has_other_types part
selection_has before part causes.Name = has_bad_name before part
selection_has before part causes.Condition = is_bad_selection part
selection_has before part _ = false

-- a key of a column is not there, where the column is a table
unfoldable pub lacks_of_column : Data → Bool
lacks_of_column column = is_table column && (lacks (codes "name") column || lacks (codes "from") column)

-- a text that names a type
abbrev pub is_type_word : Data → Bool
is_type_word value = is_text value && is_type (text_value value)

-- a value of a column has another type, or is none of the words
unfoldable pub has_other_column_types : Data → Bool
has_other_column_types column =
    not (may_have is_text (codes "name") column) ||
    (not (may_have is_text (codes "from") column) || not (may_have is_type_word (codes "type") column))

-- a column has a name that is not in its form, or that of a column before
abbrev pub has_bad_column_name : (before columns : List Data) → Bool
has_bad_column_name before [] = false
has_bad_column_name before (column ∷ rest) = has_bad_name before column || has_bad_column_name (before ++ column ∷ []) rest

-- the columns of a table, and the word of its source
abbrev pub columns_of : Data → List Data
columns_of part = values_at (codes "column") part

abbrev pub source_word : Data → List ℕ
source_word part = text_at (codes "source") part

-- a key of a table or of a column has no meaning
unfoldable pub has_other_keys : Data → Bool
has_other_keys part = has_other_key (is_key_of levels.Table) part || list_any (has_other_key (is_key_of levels.Column)) (columns_of part)

-- a key of a table or of a column is not there
unfoldable pub lacks_of_table : Data → Bool
lacks_of_table part = lacks (codes "name") part ||
    (lacks (codes "source") part || (lacks (codes "geometry") part || list_any lacks_of_column (columns_of part)))

-- a text that names a source, a geometry, a mode
abbrev pub is_source : Data → Bool
is_source value = is_text value && is_some (source_of (text_value value))

abbrev pub is_geometry_word : Data → Bool
is_geometry_word value = is_text value && is_geometry (text_value value)

abbrev pub is_mode : Data → Bool
is_mode value = is_text value && is_some (mode_of (text_value value))

-- a source, a geometry or a mode is none of the words
unfoldable pub has_other_words : Data → Bool
has_other_words part =
    not (may_have is_source (codes "source") part) ||
    (not (may_have is_geometry_word (codes "geometry") part) || not (may_have is_mode (codes "expire") part))

-- a value of a table or of a column has another type, or is none of the words
unfoldable pub has_other_table_types : Data → Bool
has_other_table_types part =
    not (may_have is_text (codes "name") part) || (has_other_words part || (not (may_have are_texts (codes "where") part)
    || (not (may_have are_texts (codes "any") part) ||
    (not (may_have are_tables (codes "column") part) || list_any has_other_column_types (columns_of part)))))

-- a condition of a table is none that may stand there
unfoldable pub has_bad_conditions : Data → Bool
has_bad_conditions part = has_bad_condition (codes "where") (may_select (source_word part)) part || has_bad_condition (codes "any")
    (may_select (source_word part)) part

-- a condition of a list asks for a selection that is not there
unfoldable pub asks_unknown_at : (selections : List Data) → (key : List ℕ) → Data → Bool
asks_unknown_at selections key part = list_any (λ value. asks_unknown selections (text_value value)) (values_at key part)

-- so does a column
unfoldable pub is_from_unknown : (selections : List Data) → Data → Bool
is_from_unknown selections column = asks_unknown selections (text_at (codes "from") column)

-- so does a table
unfoldable pub table_asks_unknown : (selections : List Data) → Data → Bool
table_asks_unknown selections part =
    asks_unknown_at selections (codes "where") part ||
    (asks_unknown_at selections (codes "any") part || list_any (is_from_unknown selections) (columns_of part))

-- there are more columns than there may be
unfoldable pub has_too_many_columns : Data → Bool
has_too_many_columns part = nat_lt MAX_COLUMNS (length (columns_of part))

-- the name of a table or of a column is not in its form, or stood before
unfoldable pub has_bad_names : (before : List Data) → Data → Bool
has_bad_names before part = has_bad_name before part || has_bad_column_name [] (columns_of part)

-- the source gives another geometry
unfoldable pub has_other_geometry : Data → Bool
has_other_geometry part = not (gives_geometry (source_word part) (text_at (codes "geometry") part))

-- a column is from nothing that may stand there
unfoldable pub has_bad_columns : Data → Bool
has_bad_columns part = list_any (is_bad_column (may_select (source_word part))) (columns_of part)

-- the causes against a table, beside the selections and the tables before it
unfoldable pub table_has : (selections before : List Data) → Data → StyleWhy → Bool
table_has selections before part causes.TooMany = has_too_many_columns part
table_has selections before part causes.UnknownKey = has_other_keys part
table_has selections before part causes.MissingKey = lacks_of_table part
table_has selections before part causes.WrongType = has_other_table_types part
table_has selections before part causes.Name = has_bad_names before part
table_has selections before part causes.SourceGeometry = has_other_geometry part
table_has selections before part causes.Condition = has_bad_conditions part
table_has selections before part causes.Column = has_bad_columns part
table_has selections before part causes.UnknownSelection = table_asks_unknown selections part
table_has selections before part _ = false

-- parts in order, each judged beside those before it, and counted from 1
abbrev pub first_with_cause : (List Data → Data → Option StyleWhy) → (ℕ → StylePart) → (before rest : List Data)
    → Option (StyleWhy × StylePart)
first_with_cause cause part before [] = None
first_with_cause cause part before (value ∷ rest) =
    option_or (option_map (λ why. (why, part (length before + 1))) (cause before value))
    (first_with_cause cause part (before ++ value ∷ []) rest)

-- the first cause against a selection, and against a table
abbrev pub selection_cause : (before : List Data) → Data → Option StyleWhy
selection_cause before part = first_cause (selection_has before part)

abbrev pub table_cause : (selections before : List Data) → Data → Option StyleWhy
table_cause selections before part = first_cause (table_has selections before part)

-- what stands against a document, and in which part
unfoldable pub fault_of : Data → Option (StyleWhy × StylePart)
fault_of document =
    option_or (option_map (λ why. (why, parts.Top)) (first_cause (top_has document)))
    (option_or (first_with_cause selection_cause parts.Selection [] (selections_of document))
    (first_with_cause (table_cause (selections_of document)) parts.Table [] (tables_of document)))
