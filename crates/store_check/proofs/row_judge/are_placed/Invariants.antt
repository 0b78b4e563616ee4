use Rattle.std.proofs.Common.{take}
use Rattle.std.specs.List.{AllByRecursion}
use Rattle.store_check.specs.Values.{IsPlaced}
use Rattle.store_check.proofs.row_judge.are_placed.Given as goal

-- the rows so far stand there
abbrev pub invariant-loop-row : goal.invariant-loop-row
invariant-loop-row l = AllByRecursion (IsPlaced l.tables l.place) (take l.row-index l.rows)
