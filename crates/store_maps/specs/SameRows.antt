-- Whether two rows are equal.
use Rattle.std.specs.Prelude.{Bool, true, false, nat_eq, ◌&&◌, Option, None, Some}
use Rattle.std.specs.Cmp.Lexicographic.{pointwise}
use Rattle.std.specs.Ordering.{int_eq}
use Rattle.osm_base.specs.declared.values.row.Cell.{Cell}
use Rattle.osm_base.specs.declared.values.row.Cell.TheVariants as cells
use Rattle.osm_base.specs.declared.values.row.Geometry.{Geometry}
use Rattle.osm_base.specs.declared.values.row.Geometry.TheVariants as shapes
use Rattle.osm_base.specs.declared.values.row.Row.{Row}
use Rattle.osm_base.specs.values.Line.{same_place}

-- whether two cells say the same
abbrev pub same_cell : Cell → Cell → Bool
same_cell cells.Null cells.Null = true
same_cell (cells.Text one) (cells.Text other) = pointwise nat_eq one other
same_cell (cells.Int one) (cells.Int other) = int_eq one other
same_cell _ _ = false

-- whether two geometries are of one form and have the same places
abbrev pub same_shape : Geometry → Geometry → Bool
same_shape (shapes.Point one) (shapes.Point other) = same_place one other
same_shape (shapes.Line one) (shapes.Line other) = pointwise same_place one other
same_shape (shapes.Lines one) (shapes.Lines other) = pointwise (pointwise same_place) one other
same_shape (shapes.Area one) (shapes.Area other) = pointwise (pointwise (pointwise same_place)) one other
same_shape _ _ = false

-- whether two rows are equal
abbrev pub same_row : Row → Row → Bool
same_row one other = pointwise same_cell one.cells other.cells && same_shape one.geometry other.geometry

-- whether there is the same row, or neither is there
abbrev pub same_found : Option Row → Option Row → Bool
same_found None None = true
same_found (Some one) (Some other) = same_row one other
same_found _ _ = false
