use Rattle.std.proofs.Common.{refl, true}
use Rattle.ring_nest.proofs.Owned.{least_more}
use Rattle.ring_nest.proofs.owners.least_of.Goals as goal

pub loop-number-preserved : goal.loop-number-preserved
loop-number-preserved c =
    rw c.lesser.ensures (least_more (λ _. true) c.args.numbers.now c.loop-number.number-index c.loop-number.least c.loop-number-test.true
    refl c.loop-number.invariant)
