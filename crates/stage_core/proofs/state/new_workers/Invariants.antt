use Rattle.std.proofs.Common.{◌≡◌, replicate}
use Rattle.stage_core.specs.Core.{new_worker}
use Rattle.stage_core.proofs.state.new_workers.Given as goal

abbrev pub invariant-loop : goal.invariant-loop
invariant-loop l = l.workers.items ≡ replicate l.counter new_worker
