-- The laws of cells and geometries in bytes.
use Rattle.std.proofs.Common.{◌≡◌, ◌≢◌, ℕ, ℤ, List, [], ◌∷◌, ◌++◌, refl}
use Rattle.osm_base.specs.values.Place.{PlaceOf}
use Rattle.osm_base.specs.declared.values.row.Cell.{Cell}
use Rattle.osm_base.specs.declared.values.row.Cell.TheVariants as cells
use Rattle.osm_base.specs.declared.values.row.Geometry.{Geometry}
use Rattle.osm_base.specs.declared.values.row.Geometry.TheVariants.{Point, Line, Lines, Area}
use Rattle.value_bytes.specs.Forms.{IsFrontless}
use Rattle.value_bytes.specs.Lists.{list_bytes, IsList}
use Rattle.value_bytes.specs.Numbers.{int_bytes, IsInt}
use Rattle.value_bytes.specs.Places.{place_bytes, IsPlace}
use Rattle.value_bytes.specs.Rows.{cell_bytes, IsCell, line_bytes, IsLine, lines_bytes, AreLines, geometry_bytes, IsGeometry}
use Rattle.value_bytes.specs.Texts.{text_bytes, IsText}
use Rattle.value_bytes.proofs.Variants.{IsVariant, nothing, IsNothing}

only_null : (other : Cell) (rest behind : List ℕ) → IsCell other → cell_bytes other ++ rest ≡ 0 ∷ behind
    → (value : Unit {0}) × IsNothing value × (other ≡ cells.Null) × (behind ≡ nothing value ++ rest)
unfolding cell_bytes
only_null cells.Null rest behind is same = (tt, tt, refl, cc)
only_null (cells.Text text) rest behind is same = absurd (cc)
only_null (cells.Int number) rest behind is same = absurd (cc)

pub null_cell : IsVariant 0 nothing IsNothing cell_bytes IsCell (λ _. cells.Null)
unfolding cell_bytes IsCell
null_cell = record { is = λ value is. tt; told = λ value. refl; only = only_null }

only_text : (other : Cell) (rest behind : List ℕ) → IsCell other → cell_bytes other ++ rest ≡ 1 ∷ behind
    → (text : List ℕ) × IsText text × (other ≡ cells.Text text) × (behind ≡ text_bytes text ++ rest)
unfolding cell_bytes IsCell
only_text cells.Null rest behind is same = absurd (cc)
only_text (cells.Text text) rest behind is same = (text, is, refl, cc)
only_text (cells.Int number) rest behind is same = absurd (cc)

pub text_cell : IsVariant 1 text_bytes IsText cell_bytes IsCell cells.Text
unfolding cell_bytes IsCell
text_cell = record { is = λ value is. is; told = λ value. refl; only = only_text }

only_int : (other : Cell) (rest behind : List ℕ) → IsCell other → cell_bytes other ++ rest ≡ 2 ∷ behind
    → (number : ℤ) × IsInt number × (other ≡ cells.Int number) × (behind ≡ int_bytes number ++ rest)
unfolding cell_bytes IsCell
only_int cells.Null rest behind is same = absurd (cc)
only_int (cells.Text text) rest behind is same = absurd (cc)
only_int (cells.Int number) rest behind is same = (number, is, refl, cc)

pub int_cell : IsVariant 2 int_bytes IsInt cell_bytes IsCell cells.Int
unfolding cell_bytes IsCell
int_cell = record { is = λ value is. is; told = λ value. refl; only = only_int }

-- another byte is in front of no cell
pub other_cell : (bytes : List ℕ) (byte : ℕ) (behind : List ℕ) → bytes ≡ byte ∷ behind → byte ≢ 0 → byte ≢ 1 → byte ≢ 2
    → IsFrontless cell_bytes IsCell bytes
unfolding cell_bytes
other_cell bytes byte behind cut no_null no_text no_int cells.Null rest begins = no_null (cc (begins.bytes_are))
other_cell bytes byte behind cut no_null no_text no_int (cells.Text text) rest begins = no_text (cc (begins.bytes_are))
other_cell bytes byte behind cut no_null no_text no_int (cells.Int number) rest begins = no_int (cc (begins.bytes_are))

pub no_cell : (bytes : List ℕ) → bytes ≡ [] → IsFrontless cell_bytes IsCell bytes
unfolding cell_bytes
no_cell bytes none cells.Null rest begins = absurd (cc (begins.bytes_are))
no_cell bytes none (cells.Text text) rest begins = absurd (cc (begins.bytes_are))
no_cell bytes none (cells.Int number) rest begins = absurd (cc (begins.bytes_are))

only_point : (other : Geometry) (rest behind : List ℕ) → IsGeometry other → geometry_bytes other ++ rest ≡ 1 ∷ behind
    → (place : PlaceOf) × IsPlace place × (other ≡ Point place) × (behind ≡ place_bytes place ++ rest)
unfolding geometry_bytes IsGeometry
only_point (Point place) rest behind is same = (place, is, refl, cc)
only_point (Line places) rest behind is same = absurd (cc)
only_point (Lines lines) rest behind is same = absurd (cc)
only_point (Area polygons) rest behind is same = absurd (cc)

pub point : IsVariant 1 place_bytes IsPlace geometry_bytes IsGeometry Point
unfolding geometry_bytes IsGeometry
point = record { is = λ value is. is; told = λ value. refl; only = only_point }

only_line : (other : Geometry) (rest behind : List ℕ) → IsGeometry other → geometry_bytes other ++ rest ≡ 2 ∷ behind
    → (line : List PlaceOf) × IsLine line × (other ≡ Line line) × (behind ≡ line_bytes line ++ rest)
unfolding geometry_bytes IsGeometry
only_line (Point place) rest behind is same = absurd (cc)
only_line (Line places) rest behind is same = (places, is, refl, cc)
only_line (Lines lines) rest behind is same = absurd (cc)
only_line (Area polygons) rest behind is same = absurd (cc)

pub line : IsVariant 2 line_bytes IsLine geometry_bytes IsGeometry Line
unfolding geometry_bytes IsGeometry
line = record { is = λ value is. is; told = λ value. refl; only = only_line }

only_lines : (other : Geometry) (rest behind : List ℕ) → IsGeometry other → geometry_bytes other ++ rest ≡ 3 ∷ behind
    → (lines : List (List PlaceOf)) × AreLines lines × (other ≡ Lines lines) × (behind ≡ lines_bytes lines ++ rest)
unfolding geometry_bytes IsGeometry
only_lines (Point place) rest behind is same = absurd (cc)
only_lines (Line places) rest behind is same = absurd (cc)
only_lines (Lines lines) rest behind is same = (lines, is, refl, cc)
only_lines (Area polygons) rest behind is same = absurd (cc)

pub lines : IsVariant 3 lines_bytes AreLines geometry_bytes IsGeometry Lines
unfolding geometry_bytes IsGeometry
lines = record { is = λ value is. is; told = λ value. refl; only = only_lines }

only_area : (other : Geometry) (rest behind : List ℕ) → IsGeometry other → geometry_bytes other ++ rest ≡ 4 ∷ behind
    → (polygons : List (List (List PlaceOf))) × IsList AreLines polygons × (other ≡ Area polygons)
    × (behind ≡ list_bytes lines_bytes polygons ++ rest)
unfolding geometry_bytes IsGeometry
only_area (Point place) rest behind is same = absurd (cc)
only_area (Line places) rest behind is same = absurd (cc)
only_area (Lines lines) rest behind is same = absurd (cc)
only_area (Area polygons) rest behind is same = (polygons, is, refl, cc)

pub area : IsVariant 4 (list_bytes lines_bytes) (IsList AreLines) geometry_bytes IsGeometry Area
unfolding geometry_bytes IsGeometry
area = record { is = λ value is. is; told = λ value. refl; only = only_area }

-- another byte is in front of no geometry
pub other_geometry : (bytes : List ℕ) (byte : ℕ) (behind : List ℕ) → bytes ≡ byte ∷ behind → byte ≢ 1 → byte ≢ 2 → byte ≢ 3 → byte ≢ 4
    → IsFrontless geometry_bytes IsGeometry bytes
unfolding geometry_bytes
other_geometry bytes byte behind cut one two three four (Point place) rest begins = one (cc (begins.bytes_are))
other_geometry bytes byte behind cut one two three four (Line places) rest begins = two (cc (begins.bytes_are))
other_geometry bytes byte behind cut one two three four (Lines lines) rest begins = three (cc (begins.bytes_are))
other_geometry bytes byte behind cut one two three four (Area polygons) rest begins = four (cc (begins.bytes_are))

pub no_geometry : (bytes : List ℕ) → bytes ≡ [] → IsFrontless geometry_bytes IsGeometry bytes
unfolding geometry_bytes
no_geometry bytes none (Point place) rest begins = absurd (cc (begins.bytes_are))
no_geometry bytes none (Line places) rest begins = absurd (cc (begins.bytes_are))
no_geometry bytes none (Lines lines) rest begins = absurd (cc (begins.bytes_are))
no_geometry bytes none (Area polygons) rest begins = absurd (cc (begins.bytes_are))
