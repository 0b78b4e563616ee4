-- Cells of the earth, and the boxes that share one.
-- This repository's own: the cell of a place is ((lon + 1800000000) / 4194304, (lat + 900000000) / 4194304), rounded down. What
-- lies beyond the west or the south of the earth counts as its edge. A box has the cells from its south west corner to its
-- north east one, and is wide where they are more than 64.
use Rattle.std.specs.Prelude.{ℕ, zero, suc, ◌+◌, ◌-◌, ◌*◌, ◌/◌, ◌^◌, ◌<◌, ◌==◌, nat_lt, nat_le, ℤ, pos, ◌+ℤ◌, unsigned_abs, Bool, ◌&&◌}
use Rattle.std.specs.Prelude.{◌||◌, if◌then◌else◌}
use Rattle.std.specs.Int.{int_max}
use Rattle.osm_base.specs.declared.values.place.GeoBox.{GeoBox}
use Rattle.grid_index.specs.declared.cells.TheConstants.{CELL_UNITS, MOST_CELLS, LAST_LEVEL}
use Rattle.grid_index.specs.declared.cells.Cells.{Cells}

-- how far a coordinate is from the edge of the earth, which is so far west or south of zero
abbrev pub from_edge : ℕ → ℤ → ℕ
from_edge edge units = unsigned_abs (int_max (units +ℤ pos edge) (pos 0))

-- the column of a longitude, and the row of a latitude
abbrev pub column : ℤ → ℕ
column lon = from_edge 1800000000 lon / CELL_UNITS

abbrev pub row : ℤ → ℕ
row lat = from_edge 900000000 lat / CELL_UNITS

-- the cells of a box
abbrev pub cells_of : GeoBox → Cells
cells_of box = record { west = column box.west; south = row box.south; east = column box.east; north = row box.north }

-- the numbers of columns and rows are small
pub record HasFew (cells : Cells) : Type 0 where
  pub west : cells.west < 1024
  pub south : cells.south < 1024
  pub east : cells.east < 1024
  pub north : cells.north < 1024

-- a box is wide
unfoldable pub is_wide_of : Cells → Bool
is_wide_of cells = nat_lt MOST_CELLS (((cells.east + 1) - cells.west) * ((cells.north + 1) - cells.south))

abbrev pub is_wide : GeoBox → Bool
is_wide box = is_wide_of (cells_of box)

-- two boxes share a cell
abbrev pub share : (asked cells : Cells) → Bool
share asked cells =
    (nat_le cells.west asked.east && nat_le asked.west cells.east) && (nat_le cells.south asked.north && nat_le asked.south cells.north)

-- a box may be near an asked one: it is wide, or they share a cell
abbrev pub is_candidate : (asked box : GeoBox) → Bool
is_candidate asked box = is_wide box || share (cells_of asked) (cells_of box)

-- the column or row of the part of a level that holds this column or row of cells
unfoldable pub part : (level number : ℕ) → ℕ
part level number = if nat_lt level LAST_LEVEL then number / 2 ^ level else 0

-- one part of a level holds all these cells
abbrev pub is_within : (level : ℕ) → Cells → Bool
is_within level cells = (part level cells.west == part level cells.east) && (part level cells.south == part level cells.north)

-- the first of so many levels of which one part holds all these cells, or else the one behind them
unfoldable pub level_from : (levels level : ℕ) → Cells → ℕ
level_from zero level cells = level
level_from (suc levels) level cells = if is_within level cells then level else level_from levels (level + 1) cells

unfoldable pub level_of : Cells → ℕ
level_of cells = if is_wide_of cells then LAST_LEVEL else level_from LAST_LEVEL 0 cells
