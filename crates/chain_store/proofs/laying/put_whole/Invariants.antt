use Rattle.std.proofs.Common.{◌≡◌}
use Rattle.std.specs.Vec.Iter.{into_iter_items}
use Rattle.chain_store.specs.Pairs.{laid_pairs, puts}
use Rattle.chain_store.proofs.laying.put_whole.Given as goal

abbrev pub invariant-loop-one : goal.invariant-loop-one
invariant-loop-one l = puts l.set (laid_pairs (into_iter_items l.one-iterator)) ≡ puts l.initial.set (laid_pairs l.fn.laid.items)
