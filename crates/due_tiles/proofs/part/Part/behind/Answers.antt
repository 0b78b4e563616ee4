use Rattle.due_tiles.proofs.Splicing.{after_front}
use Rattle.due_tiles.proofs.part.Part.behind.Goals as goal

pub invariant_of-result : goal.invariant_of-result
invariant_of-result c = record { set = rw c.split_at.ensures.back (after_front c.args.self.runs.now c.args.count c.args.self.set) }
