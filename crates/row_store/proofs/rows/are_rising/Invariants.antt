use Rattle.std.proofs.Common.{◌≤◌, ◌^◌, drop}
use Rattle.store_maps.specs.Rows.{RiseFrom, AreRising}
use Rattle.row_store.proofs.rows.are_rising.Given as goal

-- the rows rise where those that are left do
abbrev pub invariant-loop-row : goal.invariant-loop-row
invariant-loop-row l = record {
  low : l.least ≤ 2 ^ 32;
  ahead : AreRising l.rows → RiseFrom l.least (drop l.row-index l.rows);
  back : RiseFrom l.least (drop l.row-index l.rows) → AreRising l.rows;
}
