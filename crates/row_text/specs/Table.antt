-- The text of a table: the lines of its rows by rising numbers, and where two have one number by rising keys.
-- osm2pgsql manual, "Geometry Processing", "Areas": where ways and relations have rows in one table, the ids of relations are
-- negated, so that no two rows of it have one number.
use Rattle.std.specs.Prelude.{ℕ, ℤ, Bool, true, false, List, flat_map}
use Rattle.std.specs.Option.{option_map_or}
use Rattle.std.specs.List.{slice_get}
use Rattle.osm_base.specs.map.Spots.{TableMap}
use Rattle.osm_base.specs.values.Key.{KeyOf}
use Rattle.osm_base.specs.declared.values.row.Row.{Row}
use Rattle.style_read.specs.Style.{StyleOf}
use Rattle.style_read.specs.declared.style.Source.{Source}
use Rattle.style_read.specs.declared.style.Source.TheVariants as sources
use Rattle.row_text.specs.Numbered.{rows_by_number}
use Rattle.row_text.specs.Row.{row_line, signed_number}

-- whether a source is that of areas
abbrev pub is_area : Source → Bool
is_area sources.Area = true
is_area _ = false

-- whether the table with a number is one of areas
abbrev pub has_areas : StyleOf → (table : ℕ) → Bool
has_areas style table = option_map_or (λ def. is_area def.source) (slice_get style.tables table) false

-- the number of the row that an object has in a table
abbrev pub row_number : StyleOf → (table : ℕ) → KeyOf → ℤ
row_number style table key = signed_number (has_areas style table) key

-- the lines of rows in a table of areas or in another one
abbrev pub lines_of : (of_areas : Bool) → List (KeyOf × Row) → List ℕ
lines_of of_areas rows = flat_map (λ (key, row). row_line (signed_number of_areas key) row) rows

-- the text of a table of these tables under a style
abbrev pub table_text : StyleOf → TableMap → (table : ℕ) → List ℕ
table_text style tables table = lines_of (has_areas style table) (rows_by_number (has_areas style table) tables table)
