use Rattle.std.proofs.Common.{◌≡◌, ◌-◌}
use Rattle.grid_index.specs.Cells.{level_from}
use Rattle.grid_index.proofs.cells.level_within.Given as goal

-- the levels so far do not hold all the cells
abbrev pub invariant-loop-level : goal.invariant-loop-level
invariant-loop-level l = level_from (11 - l.level) l.level l.cells ≡ level_from 11 0 l.cells
