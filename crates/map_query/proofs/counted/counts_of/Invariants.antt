use Rattle.std.proofs.Common.{◌≡◌, length}
use Rattle.map_query.specs.Counted.{AreCounts}
use Rattle.map_query.proofs.counted.counts_of.Given as goal

-- the tables so far are counted
abbrev pub invariant-loop-table : goal.invariant-loop-table
invariant-loop-table l = (length l.counts.items ≡ l.table) × AreCounts l.tables l.counts.items
