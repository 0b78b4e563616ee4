use Rattle.std.proofs.Common.{sym, ◌∙◌, arith}
use Rattle.grid_index.proofs.Levels.{level_next, level_stop, level_end}
use Rattle.grid_index.proofs.cells.level_within.Goals as goal

pub returns-then-is_within-clause-level : goal.returns-then-is_within-clause-level
returns-then-is_within-clause-level c =
    sym (level_stop c.args.cells c.loop-level.level (omega arith) (sym c.is_within.ensures.within ∙ c.if-is_within.true))
    ∙ c.loop-level.invariant

pub loop-level-preserved : goal.loop-level-preserved
loop-level-preserved c =
    sym (level_next c.args.cells c.loop-level.level (omega arith) (sym c.is_within.ensures.within ∙ c.if-is_within.false))
    ∙ c.loop-level.invariant

pub returns-clause-level : goal.returns-clause-level
returns-clause-level c = sym (level_end c.args.cells c.loop-level.level (omega arith)) ∙ c.loop-level.invariant
