use Rattle.std.proofs.Common.{◌≡◌, ◌++◌, drop, map}
use Rattle.row_text.specs.Numbered.{seen as in_order}
use Rattle.map_query.specs.Ordered.{seen}
use Rattle.map_query.proofs.ordered.with_boxes.Given as goal

-- what is made, and then what is made of the rows that are left, is all
abbrev pub invariant-loop-own : goal.invariant-loop-own
invariant-loop-own l = map seen l.rows.items ++ map in_order (drop l.own-index l.ordered) ≡ map in_order l.ordered
