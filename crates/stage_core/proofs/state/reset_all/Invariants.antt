use Rattle.std.proofs.Common.{◌≡◌, ◌++◌, drop, replicate}
use Rattle.stage_core.specs.Core.{new_worker}
use Rattle.stage_core.proofs.state.reset_all.Given as goal

-- those before are new, and those after are as they were
abbrev pub invariant-loop-worker : goal.invariant-loop-worker
invariant-loop-worker l = l.workers ≡ replicate l.worker-index new_worker ++ drop l.worker-index l.initial.workers
