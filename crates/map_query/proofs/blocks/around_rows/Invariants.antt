use Rattle.std.proofs.Common.{◌≡◌, drop, map}
use Rattle.std.specs.List.{fold}
use Rattle.map_query.specs.Answer.{joined_boxes}
use Rattle.map_query.specs.Ordered.{around_rows}
use Rattle.map_query.proofs.blocks.around_rows.Given as goal

-- the box so far, and those of the rows that are left, are the box around all
abbrev pub invariant-loop-own : goal.invariant-loop-own
invariant-loop-own l = fold joined_boxes l.around (map (λ own. own.around) (drop l.own-index l.rows)) ≡ around_rows l.rows
