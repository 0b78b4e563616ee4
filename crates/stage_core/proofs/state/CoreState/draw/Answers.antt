use Rattle.std.proofs.Common.{arith}
use Rattle.stage_core.proofs.Kept.{next_small}
use Rattle.stage_core.proofs.state.CoreState.draw.Goals as goal

pub overflow_add-self : goal.overflow_add-self
overflow_add-self c = let few = next_small _ c.self.invariant in let short = c.self.inside.workers.small in omega arith
