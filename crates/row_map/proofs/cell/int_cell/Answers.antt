use Rattle.std.proofs.Common.{ap}
use Rattle.std.proofs.Math.Facts.{to_z-of_z}
use Rattle.osm_base.specs.declared.values.row.Cell.TheVariants as cells
use Rattle.row_map.proofs.cell.int_cell.Goals as goal

pub returns : goal.returns
returns c = record { cell = ap cells.Int (to_z-of_z c.ranges.number) }
