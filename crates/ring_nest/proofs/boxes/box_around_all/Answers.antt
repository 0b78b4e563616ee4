use Rattle.ring_nest.proofs.Held.{covered_next, nothing}
use Rattle.ring_nest.proofs.boxes.box_around_all.Goals as goal

pub loop-other-preserved : goal.loop-other-preserved
loop-other-preserved c =
    covered_next c.loop-other.around c.widened-around.result nothing c.args.boxes.now c.loop-other.other-index c.loop-other-test.true
    c.widened-around.ensures.so_far c.widened-around.ensures.other c.loop-other.invariant
