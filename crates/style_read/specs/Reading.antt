-- The style that bytes write, or what stands against them.
-- The bytes are one document of TOML in UTF-8, as `toml` parses it; bytes that are none have cause 1 at the top. Where no
-- other cause stands against the document, it writes its selections and its tables in their order.
use Rattle.std.specs.Prelude.{◌≡◌, ℕ, List, Option, None, Some, Result, Ok, Err, map, codes}
use Rattle.std.specs.List.{filter_map}
use Rattle.std.specs.Option.{unwrap_or}
use Rattle.std.specs.Str.{chars}
use Rattle.toml.specs.Data.{Data}
use Rattle.style_read.specs.Document.{document, text_value, text_at, values_at}
use Rattle.style_read.specs.Causes.{fault_of, selections_of, tables_of, columns_of, source_word}
use Rattle.style_read.specs.Condition.{tag_condition, condition_of}
use Rattle.style_read.specs.Column.{column_of}
use Rattle.style_read.specs.Words.{source_of, mode_of}
use Rattle.style_read.specs.Style.{StyleOf}
use Rattle.style_read.specs.declared.fault.StyleWhy.{StyleWhy}
use Rattle.style_read.specs.declared.fault.StyleWhy.TheVariants as causes
use Rattle.style_read.specs.declared.fault.StylePart.{StylePart}
use Rattle.style_read.specs.declared.fault.StylePart.TheVariants as parts
use Rattle.style_read.specs.declared.fault.StyleFault.{StyleFault}
use Rattle.style_read.specs.declared.fault.StyleFault.TheVariants as faults
use Rattle.style_read.specs.declared.style.Condition.{Condition}
use Rattle.style_read.specs.declared.style.Selection.{Selection}
use Rattle.style_read.specs.declared.style.Source.{Source}
use Rattle.style_read.specs.declared.style.Source.TheVariants.{Node}
use Rattle.style_read.specs.declared.style.Mode.{Mode}
use Rattle.style_read.specs.declared.style.Mode.TheVariants.{Full}
use Rattle.style_read.specs.declared.style.TableDef.{TableDef}

-- the conditions that a list writes
abbrev pub tag_conditions : List Data → List Condition
tag_conditions values = filter_map (λ value. tag_condition (text_value value)) values

abbrev pub conditions : (selections : List Data) → List Data → List Condition
conditions selections values = filter_map (λ value. condition_of selections (text_value value)) values

-- the selection that a part writes
unfoldable pub selection : Data → Selection
selection part = record {
  name = chars (text_at (codes "name") part);
  conditions = tag_conditions (values_at (codes "where") part);
  take = chars (text_at (codes "take") part);
}

-- the source and the mode of a table
unfoldable pub source_at : Data → Source
source_at part = unwrap_or (source_of (source_word part)) Node

unfoldable pub mode_at : Data → Mode
mode_at part = unwrap_or (mode_of (text_at (codes "expire") part)) Full

-- the table that a part writes
unfoldable pub table : (selections : List Data) → Data → TableDef
table selections part = record {
  name = chars (text_at (codes "name") part);
  source = source_at part;
  all_of = conditions selections (values_at (codes "where") part);
  one_of = conditions selections (values_at (codes "any") part);
  mode = mode_at part;
  columns = filter_map (column_of selections) (columns_of part);
}

-- the style that a document writes
unfoldable pub style_of : Data → StyleOf
style_of document = record {
  selections = map selection (selections_of document);
  tables = map (table (selections_of document)) (tables_of document);
}

-- the style of a document, unless this stands against it
abbrev pub unless_fault : Data → Option (StyleWhy × StylePart) → Result StyleOf (StyleWhy × StylePart)
unless_fault found (Some fault) = Err fault
unless_fault found None = Ok (style_of found)

-- the same of bytes
abbrev pub reading_of : Option Data → Result StyleOf (StyleWhy × StylePart)
reading_of None = Err (causes.Toml, parts.Top)
reading_of (Some found) = unless_fault found (fault_of found)

-- what bytes are read as: a style, or a cause and its part
unfoldable pub reading : List ℕ → Result StyleOf (StyleWhy × StylePart)
reading bytes = reading_of (document bytes)

-- a call gives what is read, unless memory ran out
abbrev pub Gives : Result StyleOf StyleFault → Result StyleOf (StyleWhy × StylePart) → Type 0
Gives (Ok style) read = read ≡ Ok style
Gives (Err (faults.Bad why part)) read = read ≡ Err (why, part)
Gives (Err faults.OutOfMemory) read = Unit {0}
