use Rattle.std.proofs.Common.{◌≡◌, map, reverse}
use Rattle.map_query.specs.RowBoxes.{boxes_from}
use Rattle.map_query.proofs.row_boxes.boxes_in.Given as goal

-- the boxes are those of the rows that came, the last of which is the first
abbrev pub invariant-loop-spot : goal.invariant-loop-spot
invariant-loop-spot l = l.boxes ≡ boxes_from (reverse (map (λ entry. (entry.0.now, entry.1.now)) l.yielded))
