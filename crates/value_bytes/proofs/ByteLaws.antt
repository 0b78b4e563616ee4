-- The bytes of a row are bytes, and there is one at least.
use Rattle.std.proofs.Common.{◌≡◌, ◌<◌, ◌≤◌, ◌+◌, ◌/◌, ◌%◌, ◌^◌, zero, suc, ℕ, Bool, true, false, ◌&&◌, cond, List, [], ◌∷◌, ◌++◌, length, slice_index}
use Rattle.std.proofs.Common.{ltb, refl, sym, subst, arith, mod-lt, encode_utf8_all, inl, inr, ◌⊎◌}
use Rattle.std.specs.Int.{byte_at, bytes_low_first, w32, w64, cast_unsigned}
use Rattle.std.specs.List.{AllByRecursion}
use lib.Dec.{ltb→lt, T}
use lib.Utf8.{encode, scalar, scalars, scalar_cases}
use Rattle.osm_base.specs.declared.values.row.Cell.{Cell}
use Rattle.osm_base.specs.declared.values.row.Cell.TheVariants as cells
use Rattle.osm_base.specs.declared.values.row.Geometry.{Geometry}
use Rattle.osm_base.specs.declared.values.row.Geometry.TheVariants.{Point, Line, Lines, Area}
use Rattle.osm_base.specs.declared.values.row.Row.{Row}
use Rattle.osm_base.specs.values.Place.{PlaceOf}
use Rattle.value_bytes.specs.Forms.{all_bytes}
use Rattle.value_bytes.specs.Lists.{list_bytes}
use Rattle.value_bytes.specs.Numbers.{counted_bytes, int_bytes, number_bytes}
use Rattle.value_bytes.specs.Places.{four_bytes, place_bytes}
use Rattle.value_bytes.specs.Rows.{IsCell, cell_bytes, geometry_bytes, line_bytes, lines_bytes}
use Rattle.value_bytes.specs.Texts.{IsText, text_bytes}
use Rattle.value_bytes.specs.Row.{IsRow, row_bytes}

abbrev Bytes : List ℕ → Type 0
Bytes bytes = AllByRecursion (λ byte. byte < 256) bytes

both : (front back : List ℕ) → Bytes front → Bytes back → Bytes (front ++ back)
both [] back each other = other
both (byte ∷ front) back each other = (each.0, both front back each.1 other)

-- those of a number
byte_low : (i n : ℕ) → byte_at i n < 256
byte_low zero n = mod-lt n (omega arith)
byte_low (suc i) n = mod-lt (n / 256 ^ suc i) (omega arith)

bytes_low : (i k n : ℕ) → Bytes (bytes_low_first i k n)
bytes_low i zero n = tt
bytes_low i (suc k) n = (byte_low i n, bytes_low (suc i) k n)

number_low : (number : ℕ) → Bytes (number_bytes number)
unfolding number_bytes
number_low number = bytes_low 0 8 number

four_low : (number : ℕ) → Bytes (four_bytes number)
unfolding four_bytes
four_low number = bytes_low 0 4 number

-- those of a character
and_first : (a b : Bool) → (a && b) ≡ true → a ≡ true
and_first true b is = refl
and_first false b is = absurd (cc (is))

and_second : (a b : Bool) → (a && b) ≡ true → b ≡ true
and_second true b is = is
and_second false b is = absurd (cc (is))

below_last : (c : ℕ) → (c < 55296) ⊎ ((57344 ≤ c) × (c < 1114112)) → c < 1114112
below_last c (inl low) = omega (arith, low)
below_last c (inr high) = omega (arith, high.1)

less : (a b : ℕ) → ltb a b ≡ true → a < b
less a b is = ltb→lt a b (subst T (sym is) tt)

char_low : (c : ℕ) → scalar c ≡ true → Bytes (encode c)
unfolding encode
char_low c is =
    let last = below_last c (scalar_cases c is) in
    elim (ltb c 128) as (λ b. ltb c 128 ≡ b → Bytes (cond b (c ∷ []) (cond (ltb c 2048) ((192 + c / 64) ∷ (128 + c % 64) ∷ [])
    (cond (ltb c 65536) ((224 + c / 4096) ∷ (128 + c / 64 % 64) ∷ (128 + c % 64) ∷ [])
    ((240 + c / 262144) ∷ (128 + c / 4096 % 64) ∷ (128 + c / 64 % 64) ∷ (128 + c % 64) ∷ []))))) [
      | true ↦ λ short. let small = less c 128 short in (omega (arith, small), tt)
      | false ↦ λ _.
          elim (ltb c 2048) as (λ b. ltb c 2048 ≡ b → Bytes (cond b ((192 + c / 64) ∷ (128 + c % 64) ∷ [])
          (cond (ltb c 65536) ((224 + c / 4096) ∷ (128 + c / 64 % 64) ∷ (128 + c % 64) ∷ [])
          ((240 + c / 262144) ∷ (128 + c / 4096 % 64) ∷ (128 + c / 64 % 64) ∷ (128 + c % 64) ∷ [])))) [
            | true ↦ λ short. let small = less c 2048 short in (omega (arith, small), (omega arith, tt))
            | false ↦ λ _.
                elim (ltb c 65536) as (λ b. ltb c 65536 ≡ b → Bytes (cond b ((224 + c / 4096) ∷ (128 + c / 64 % 64) ∷ (128 + c % 64) ∷ [])
                ((240 + c / 262144) ∷ (128 + c / 4096 % 64) ∷ (128 + c / 64 % 64) ∷ (128 + c % 64) ∷ []))) [
                  | true ↦ λ short. let small = less c 65536 short in (omega (arith, small), (omega arith, (omega arith, tt)))
                  | false ↦ λ _. (omega (arith, last), (omega arith, (omega arith, (omega arith, tt))))
                ] refl
          ] refl
    ] refl

chars_low : (text : List ℕ) → scalars text ≡ true → Bytes (encode_utf8_all text)
chars_low [] are = tt
chars_low (c ∷ text) are =
    both (encode c) (encode_utf8_all text) (char_low c (and_first (scalar c) (scalars text) are))
    (chars_low text (and_second (scalar c) (scalars text) are))

text_low : (text : List ℕ) → IsText text → Bytes (text_bytes text)
unfolding text_bytes counted_bytes
text_low text is =
    both (number_bytes (length (encode_utf8_all text))) (encode_utf8_all text) (number_low (length (encode_utf8_all text)))
    (chars_low text is.scalar)

-- those of lists
all_low : {V : Type 0} (spell : V → List ℕ) → ((value : V) → Bytes (spell value)) → (values : List V) → Bytes (all_bytes spell values)
all_low spell low [] = tt
all_low spell low (value ∷ values) = both (spell value) (all_bytes spell values) (low value) (all_low spell low values)

list_low : {V : Type 0} (spell : V → List ℕ) → ((value : V) → Bytes (spell value)) → (values : List V) → Bytes (list_bytes spell values)
unfolding list_bytes
list_low spell low values =
    both (number_bytes (length values)) (all_bytes spell values) (number_low (length values)) (all_low spell low values)

place_low : (place : PlaceOf) → Bytes (place_bytes place)
unfolding place_bytes
place_low place =
    both (four_bytes (cast_unsigned w32 place.lon)) (four_bytes (cast_unsigned w32 place.lat)) (four_low (cast_unsigned w32 place.lon))
    (four_low (cast_unsigned w32 place.lat))

line_low : (line : List PlaceOf) → Bytes (line_bytes line)
line_low line = list_low place_bytes place_low line

lines_low : (lines : List (List PlaceOf)) → Bytes (lines_bytes lines)
lines_low lines = list_low line_bytes line_low lines

-- those of what rows are made of
geometry_low : (geometry : Geometry) → Bytes (geometry_bytes geometry)
unfolding geometry_bytes
geometry_low (Point place) = (omega arith, place_low place)
geometry_low (Line places) = (omega arith, line_low places)
geometry_low (Lines lines) = (omega arith, lines_low lines)
geometry_low (Area polygons) = (omega arith, list_low lines_bytes lines_low polygons)

cell_low : (cell : Cell) → IsCell cell → Bytes (cell_bytes cell)
unfolding cell_bytes IsCell int_bytes
cell_low cells.Null is = (omega arith, tt)
cell_low (cells.Text text) is = (omega arith, text_low text is)
cell_low (cells.Int number) is = (omega arith, number_low (cast_unsigned w64 number))

cells_low : (row : List Cell) → AllByRecursion IsCell row → Bytes (all_bytes cell_bytes row)
cells_low [] each = tt
cells_low (cell ∷ row) each = both (cell_bytes cell) (all_bytes cell_bytes row) (cell_low cell each.0) (cells_low row each.1)

row_low : (columns : ℕ) (row : Row) → IsRow columns row → Bytes (row_bytes row)
unfolding row_bytes
row_low columns row is =
    both (all_bytes cell_bytes row.cells) (geometry_bytes row.geometry) (cells_low row.cells is.cells.each) (geometry_low row.geometry)

at_each : (bytes : List ℕ) → Bytes bytes → (i : ℕ) → slice_index bytes i < 256
at_each [] each i = omega arith
at_each (byte ∷ bytes) each zero = each.0
at_each (byte ∷ bytes) each (suc i) = at_each bytes each.1 i

-- each of a row that has a spelling is a byte
pub row_bytes-low : (columns : ℕ) (row : Row) → IsRow columns row → (i : ℕ) → slice_index (row_bytes row) i < 256
row_bytes-low columns row is = at_each (row_bytes row) (row_low columns row is)

-- the form of its geometry is one at least
longer : (front back : List ℕ) → 1 ≤ length back → 1 ≤ length (front ++ back)
longer [] back some = some
longer (byte ∷ front) back some = omega arith

geometry_some : (geometry : Geometry) → 1 ≤ length (geometry_bytes geometry)
unfolding geometry_bytes
geometry_some (Point place) = omega arith
geometry_some (Line places) = omega arith
geometry_some (Lines lines) = omega arith
geometry_some (Area polygons) = omega arith

pub row_bytes-some : (row : Row) → 1 ≤ length (row_bytes row)
unfolding row_bytes
row_bytes-some row = longer (all_bytes cell_bytes row.cells) (geometry_bytes row.geometry) (geometry_some row.geometry)
