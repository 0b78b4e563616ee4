use Rattle.std.proofs.Common.{◌≡◌, drop}
use Rattle.chain_store.specs.Pairs.{chain_pairs, puts}
use Rattle.chain_store.proofs.laying.put_chain.Given as goal

abbrev pub invariant-loop-place : goal.invariant-loop-place
invariant-loop-place l =
    puts l.set (chain_pairs l.chain.owner l.chain.tail (drop l.place l.chain.pages.now) l.rest (drop l.place l.chain.old.now)
    (drop l.place l.chain.same.now))
    ≡ puts l.initial.set (chain_pairs l.chain.owner l.chain.tail l.chain.pages.now l.fn.bytes l.chain.old.now l.chain.same.now)
