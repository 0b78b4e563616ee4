use Rattle.std.specs.FinMap as map
use Rattle.chain_store.specs.Gathered.{IsGathering}
use Rattle.chain_store.proofs.gathering.gather.Given as goal

abbrev pub invariant-loop-entry : goal.invariant-loop-entry
invariant-loop-entry l = IsGathering l.fn.written l.fn.read l.fn.before l.parts.items l.left l.known l.had

abbrev pub decreases-loop-entry : goal.decreases-loop-entry
decreases-loop-entry l = map.len l.left
