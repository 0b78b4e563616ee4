use Rattle.std.proofs.Common.{◌≡◌, ◌++◌, drop}
use Rattle.map_query.specs.Ordered.{met}
use Rattle.map_query.proofs.in_order.push_met.Given as goal

-- what is found, and then what is found among the rows that are left, is what is found among all
abbrev pub invariant-loop-own : goal.invariant-loop-own
invariant-loop-own l =
    l.rows ++ met l.style l.table l.asked (drop l.own-index l.block) ≡ l.fn.rows ++ met l.style l.table l.asked l.block
