-- The line of a row, and its number.
-- PostgreSQL manual, COPY, "Text Format": a row is a line, its columns are separated by the delimiter, here a tab, and \N is NULL.
-- osm2pgsql manual, "Geometry Processing", "Areas": the row of a relation that bounds an area has the negated id of the relation.
use Rattle.std.specs.Prelude.{ℕ, ℤ, pos, neg_ℤ, Bool, true, List, [], ◌∷◌, ◌++◌, codes, encode_utf8_all, flat_map}
use Rattle.std.specs.Fmt.{signed_decimal}
use Rattle.osm_base.specs.values.Key.{KeyOf}
use Rattle.osm_base.specs.declared.values.key.Kind.{Kind}
use Rattle.osm_base.specs.declared.values.key.Kind.TheVariants as kinds
use Rattle.osm_base.specs.declared.values.row.Cell.{Cell}
use Rattle.osm_base.specs.declared.values.row.Cell.TheVariants as cells
use Rattle.osm_base.specs.declared.values.row.Geometry.{Geometry}
use Rattle.osm_base.specs.declared.values.row.Row.{Row}
use Rattle.row_text.specs.CopyText.{copy_text}
use Rattle.row_text.specs.Geometry.{geometry_text}

-- what a cell says
abbrev pub cell_text : Cell → List ℕ
cell_text cells.Null = codes "\\N"
cell_text (cells.Text text) = copy_text (encode_utf8_all text)
cell_text (cells.Int number) = signed_decimal number

-- the number of a row, its cells and its geometry
unfoldable pub row_line : ℤ → Row → List ℕ
row_line number row =
    signed_decimal number ++ flat_map (λ cell. codes "\t" ++ cell_text cell) row.cells ++ codes "\t" ++ geometry_text row.geometry
    ++ codes "\n"

-- a row of one cell, a text
abbrev pub text_row : List ℕ → Geometry → Row
text_row text geometry = record { cells = cells.Text text ∷ []; geometry = geometry }

-- the number of an object of a kind with an id, in a table of areas or in another one
abbrev pub signed_id : Bool → Kind → ℕ → ℤ
signed_id true kinds.Relation id = neg_ℤ (pos id)
signed_id _ _ id = pos id

-- the number of the row of an object: its id, negated for a relation in a table of areas
abbrev pub signed_number : Bool → KeyOf → ℤ
signed_number of_areas key = signed_id of_areas key.kind key.id
