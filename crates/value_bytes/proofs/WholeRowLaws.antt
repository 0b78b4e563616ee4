-- The laws of rows in bytes.
use Rattle.std.proofs.Common.{◌≡◌, ℕ, List, ◌++◌, refl, ap, append_assoc}
use Rattle.osm_base.specs.declared.values.row.Cell.{Cell}
use Rattle.osm_base.specs.declared.values.row.Geometry.{Geometry}
use Rattle.osm_base.specs.declared.values.row.Row.{Row}
use Rattle.value_bytes.specs.Forms.{IsFront, IsFrontless, both_bytes, Both, all_bytes, AreMany}
use Rattle.value_bytes.specs.Rows.{cell_bytes, IsCell, geometry_bytes, IsGeometry}
use Rattle.value_bytes.proofs.Fronts.{front_both, frontless_first, frontless_second}
use Rattle.value_bytes.proofs.Seen.{AreSeen, front_seen, frontless_seen}
use Rattle.value_bytes.specs.Row.{row_bytes, IsRow}

-- the cells and the geometry
abbrev pub cells_bytes : List Cell → List ℕ
cells_bytes cells = all_bytes cell_bytes cells

abbrev pub parts : Row → List Cell × Geometry
parts row = (row.cells, row.geometry)

parts_fit : (columns : ℕ) (row : Row) → IsRow columns row → Both (AreMany columns IsCell) IsGeometry (parts row)
parts_fit columns row is = (is.cells, is.geometry)

rows_seen : (columns : ℕ) → AreSeen (both_bytes cells_bytes geometry_bytes) (Both (AreMany columns IsCell) IsGeometry) row_bytes
    (IsRow columns) parts
unfolding row_bytes
rows_seen columns = record { is = parts_fit columns; told = λ row. refl }

one_row : (one two : Row) → parts one ≡ parts two → one ≡ two
one_row one two same =
    let cells = ap (λ (p : List Cell × Geometry). p.0) same in
    let geometry = ap (λ (p : List Cell × Geometry). p.1) same in
    λ i. record { cells = cells i; geometry = geometry i }

pub row_front : (columns : ℕ) (bytes behind rest : List ℕ) (row : Row)
    → IsFront cells_bytes (AreMany columns IsCell) bytes row.cells behind → IsFront geometry_bytes IsGeometry behind row.geometry rest
    → IsFront row_bytes (IsRow columns) bytes row rest
row_front columns bytes behind rest row first second =
    front_seen (both_bytes cells_bytes geometry_bytes) (Both (AreMany columns IsCell) IsGeometry) row_bytes (IsRow columns) parts
    (rows_seen columns) bytes (parts row) rest
    (front_both cells_bytes (AreMany columns IsCell) geometry_bytes IsGeometry bytes row.cells behind row.geometry rest first second) row
    (record { cells = first.begins.is; geometry = second.begins.is }) refl (λ other is same. one_row other row same)

pub row_no_cells : (columns : ℕ) (bytes : List ℕ) → IsFrontless cells_bytes (AreMany columns IsCell) bytes
    → IsFrontless row_bytes (IsRow columns) bytes
row_no_cells columns bytes none =
    frontless_seen (both_bytes cells_bytes geometry_bytes) (Both (AreMany columns IsCell) IsGeometry) row_bytes (IsRow columns) parts
    (rows_seen columns) bytes
    (frontless_first cells_bytes (AreMany columns IsCell) geometry_bytes IsGeometry bytes none)

pub row_no_geometry : (columns : ℕ) (bytes : List ℕ) (cells : List Cell) (behind : List ℕ)
    → IsFront cells_bytes (AreMany columns IsCell) bytes cells behind → IsFrontless geometry_bytes IsGeometry behind
    → IsFrontless row_bytes (IsRow columns) bytes
row_no_geometry columns bytes cells behind first none =
    frontless_seen (both_bytes cells_bytes geometry_bytes) (Both (AreMany columns IsCell) IsGeometry) row_bytes (IsRow columns) parts
    (rows_seen columns) bytes
    (frontless_second cells_bytes (AreMany columns IsCell) geometry_bytes IsGeometry bytes cells behind first none)

pub row_put : (row : Row) (old : List ℕ) → (old ++ cells_bytes row.cells) ++ geometry_bytes row.geometry ≡ old ++ row_bytes row
unfolding row_bytes
row_put row old = append_assoc old (cells_bytes row.cells) (geometry_bytes row.geometry)
