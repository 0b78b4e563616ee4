use Rattle.std.proofs.Common.{arith}
use Rattle.stage_core.specs.Core.{new_worker}
use Rattle.stage_core.proofs.Fill.{fill_next}
use Rattle.stage_core.proofs.state.reset_all.Goals as goal

pub loop-worker-preserved : goal.loop-worker-preserved
loop-worker-preserved c = rw (c.loop-worker.invariant, c.reset.ensures.fresh)
    (fill_next c.args.workers.now c.loop-worker.worker-index new_worker (omega arith))
