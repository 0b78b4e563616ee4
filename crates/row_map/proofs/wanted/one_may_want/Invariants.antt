use Rattle.std.proofs.Common.{◌≡◌, drop}
use Rattle.row_rules.specs.Wanted.{one_may_want}
use Rattle.row_map.proofs.wanted.one_may_want.Given as goal

-- whether one of those that are left may want it decides
abbrev pub invariant-loop-table : goal.invariant-loop-table
invariant-loop-table l = one_may_want (drop l.table-index l.tables) l.object ≡ one_may_want l.tables l.object
