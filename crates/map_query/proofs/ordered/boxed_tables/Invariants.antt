use Rattle.std.specs.List.{All}
use Rattle.map_query.specs.Ordered.{IsTable}
use Rattle.map_query.proofs.ordered.boxed_tables.Given as goal

-- what was made so far
abbrev pub invariant-loop-table : goal.invariant-loop-table
invariant-loop-table l = All (IsTable l.style l.tables) l.all.items
