-- What rows are made of, in bytes: a byte for the form, and what belongs to it.
use Rattle.std.specs.Prelude.{ℕ, List, [], ◌∷◌}
use Rattle.osm_base.specs.values.Place.{PlaceOf}
use Rattle.osm_base.specs.declared.values.row.Cell.{Cell}
use Rattle.osm_base.specs.declared.values.row.Cell.TheVariants as cells
use Rattle.osm_base.specs.declared.values.row.Geometry.{Geometry}
use Rattle.osm_base.specs.declared.values.row.Geometry.TheVariants.{Point, Line, Lines, Area}
use Rattle.value_bytes.specs.Lists.{list_bytes, IsList}
use Rattle.value_bytes.specs.Numbers.{int_bytes, IsInt}
use Rattle.value_bytes.specs.Places.{place_bytes, IsPlace}
use Rattle.value_bytes.specs.Texts.{text_bytes, IsText}

-- a cell: nothing, a text, or a signed number of eight bytes
unfoldable pub cell_bytes : Cell → List ℕ
cell_bytes cells.Null = 0 ∷ []
cell_bytes (cells.Text text) = 1 ∷ text_bytes text
cell_bytes (cells.Int number) = 2 ∷ int_bytes number

unfoldable pub IsCell : Cell → Type 0
IsCell cells.Null = Unit {0}
IsCell (cells.Text text) = IsText text
IsCell (cells.Int number) = IsInt number

-- lines, polygons
abbrev pub line_bytes : List PlaceOf → List ℕ
line_bytes line = list_bytes place_bytes line

abbrev pub IsLine : List PlaceOf → Type 0
IsLine line = IsList IsPlace line

abbrev pub lines_bytes : List (List PlaceOf) → List ℕ
lines_bytes lines = list_bytes line_bytes lines

abbrev pub AreLines : List (List PlaceOf) → Type 0
AreLines lines = IsList IsLine lines

-- a geometry: a place, a line, lines, or polygons
unfoldable pub geometry_bytes : Geometry → List ℕ
geometry_bytes (Point place) = 1 ∷ place_bytes place
geometry_bytes (Line places) = 2 ∷ line_bytes places
geometry_bytes (Lines lines) = 3 ∷ lines_bytes lines
geometry_bytes (Area polygons) = 4 ∷ list_bytes lines_bytes polygons

unfoldable pub IsGeometry : Geometry → Type 0
IsGeometry (Point place) = IsPlace place
IsGeometry (Line places) = IsLine places
IsGeometry (Lines lines) = AreLines lines
IsGeometry (Area polygons) = IsList AreLines polygons
