use Rattle.piece_ends.proofs.IndexSteps.{marked, reached_next}
use Rattle.piece_ends.proofs.index.lowest_at.Goals as goal

pub loop-number-preserved : goal.loop-number-preserved
loop-number-preserved c =
    let busy = marked c.args.used.now c.loop-number.number c.if-not-used-number.false in
    rw c.next_of-number.ensures.next
    (reached_next _ _ _ c.args.links.now c.args.heads.now c.requires c.loop-number.number c.loop-number-test.true c.loop-number.invariant
    busy)
