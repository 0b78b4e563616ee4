-- The text of lines: a row for each way with a tag of the key and a line, by rising id.
-- It is the id, the value of the key and the line as `LINESTRING(x y,x y)`, longitude first, separated by tabs and ended by a newline.
-- OGC Simple Features, "Well-known Text Representation for Geometry": a line string is its points in order, separated by commas.
-- The value has the escapes of PostgreSQL's COPY text format.
use Rattle.std.specs.Prelude.{ℕ, Option, Some, List, [], pos, flat_map}
use Rattle.std.specs.FinMap as map
use Rattle.osm_base.specs.values.Place.{PlaceOf}
use Rattle.osm_base.specs.declared.values.key.Kind.{Kind}
use Rattle.osm_base.specs.declared.values.key.Kind.TheVariants as kinds
use Rattle.osm_base.specs.declared.values.object.Object.{Object}
use Rattle.osm_base.specs.declared.values.object.Object.TheVariants.{Way}
use Rattle.piece_ends.specs.Pieces.{Line}
use Rattle.piece_ends.specs.Points.{line}
use Rattle.std.specs.Str.{chars}
use Rattle.osm_base.specs.declared.values.object.Entry.{Entry}
use Rattle.osm_base.specs.map.Objects.{ObjectSet, folded_all}
use Rattle.osm_base.specs.map.Listers.{known_of}
use Rattle.osm_base.specs.declared.values.row.Geometry.TheVariants as geometries
use Rattle.row_text.specs.Row.{row_line, text_row}

-- the row of a way with this id, this value of the key and this line
abbrev pub way_text : (id : ℕ) → (value : List ℕ) → Line → List ℕ
way_text id value places = row_line (pos id) (text_row value (geometries.Line places))

-- the same, where there is a value and a line
abbrev pub way_row : (id : ℕ) → Option (List ℕ) → Option Line → List ℕ
way_row id (Some value) (Some places) = way_text id value places
way_row id _ _ = []

-- the row of an object with this id, where it is a way with a line and the tag
abbrev pub object_row : (key : List ℕ) → (place : ℕ → Option PlaceOf) → (id : ℕ) → Option Object → List ℕ
object_row key place id (Some (Way nodes tags)) = way_row id (map.get tags key) (line place nodes)
object_row key place id _ = []

-- this row, where a key of this kind is that of a way
abbrev pub of_way : Kind → List ℕ → List ℕ
of_way kinds.Way text = text
of_way kinds.Node text = []
of_way kinds.Relation text = []

-- the rows of all ways, by rising id
abbrev pub lines_text : (key : List ℕ) → ObjectSet → List ℕ
lines_text key objects = flat_map (λ (at, object). of_way at.kind (object_row key (known_of objects).place at.id (Some object)))
    (map.entries objects)

-- the text of the lines with this key of the objects that these entries make
abbrev pub lines_text_of : List ℕ → List Entry → List ℕ
lines_text_of key entries = lines_text (chars key) (folded_all map.empty entries)
