use Rattle.std.proofs.Common.{◌≡◌, drop}
use Rattle.chain_store.specs.Pairs.{laid_pairs, puts}
use Rattle.chain_store.proofs.laying.put_all.Given as goal

abbrev pub invariant-loop-one : goal.invariant-loop-one
invariant-loop-one l = puts l.set (laid_pairs (drop l.one-index l.laid)) ≡ puts l.initial.set (laid_pairs l.laid)
