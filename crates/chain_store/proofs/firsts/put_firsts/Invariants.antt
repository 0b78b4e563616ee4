use Rattle.std.proofs.Common.{◌≡◌, drop}
use Rattle.chain_store.specs.Firsts.{firsts_put}
use Rattle.chain_store.proofs.firsts.put_firsts.Given as goal

abbrev pub invariant-loop-one : goal.invariant-loop-one
invariant-loop-one l = firsts_put l.at l.low l.count (drop l.one-index l.laid) l.bytes
    ≡ firsts_put l.at l.low l.count l.laid l.initial.bytes
