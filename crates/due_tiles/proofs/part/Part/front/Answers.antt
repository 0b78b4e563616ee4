use Rattle.due_tiles.proofs.Splicing.{before_back}
use Rattle.due_tiles.proofs.part.Part.front.Goals as goal

pub invariant_of-result : goal.invariant_of-result
invariant_of-result c = record { set = rw c.split_at.ensures.front (before_back c.args.self.runs.now c.args.count c.args.self.set) }
