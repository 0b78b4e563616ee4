-- Answers to queries as text: a line with the version of the store and the count of rows, and behind it the rows.
use Rattle.std.specs.Prelude.{ℕ, List, ◌++◌, codes, flat_map, length}
use Rattle.std.specs.Fmt.{decimal}
use Rattle.map_query.specs.Answer.{answer}
use Rattle.map_query.specs.declared.answering.Found.{Found}
use Rattle.map_query.specs.declared.answering.Found.TheVariants.{Count, Rows}
use Rattle.map_query.specs.declared.query.Query.{Query}
use Rattle.osm_base.specs.declared.values.row.NumberedRow.{NumberedRow}
use Rattle.osm_base.specs.map.Spots.{TableMap}
use Rattle.row_text.specs.Row.{row_line}
use Rattle.style_read.specs.Style.{StyleOf}

-- the line before an answer
abbrev pub counted : (version : ℕ) → (kind : List ℕ) → (count : ℕ) → List ℕ
counted version kind count = codes "version " ++ decimal version ++ kind ++ decimal count ++ codes "\n"

-- rows as in the text of a table
abbrev pub rows_text : List NumberedRow → List ℕ
rows_text rows = flat_map (λ own. row_line own.number own.row) rows

abbrev pub found_text : (version : ℕ) → Found → List ℕ
found_text version (Count count) = counted version (codes " count ") count
found_text version (Rows rows) = counted version (codes " rows ") (length rows) ++ rows_text rows

-- the answers of a version, one behind the other
abbrev pub answers_text : StyleOf → TableMap → (version : ℕ) → List Query → List ℕ
answers_text style tables version queries = flat_map (λ query. found_text version (answer style tables query)) queries
