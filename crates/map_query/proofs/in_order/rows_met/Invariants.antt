use Rattle.std.proofs.Common.{◌≡◌, ◌++◌, drop}
use Rattle.map_query.specs.Ordered.{AreBlocks, met}
use Rattle.map_query.proofs.in_order.rows_met.Given as goal

-- what is found, and then what is found among the rows of the blocks that are left, is what is found among all
abbrev pub invariant-loop-around : goal.invariant-loop-around
invariant-loop-around l = record {
  blocks : AreBlocks (drop l.around-index l.own.blocks.items) (drop l.at l.own.rows.items);
  found : l.rows ++ met l.style l.own.table l.asked (drop l.at l.own.rows.items) ≡ met l.style l.own.table l.asked l.own.rows.items;
}
