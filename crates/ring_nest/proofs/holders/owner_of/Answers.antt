use Rattle.std.proofs.Common.{get_or}
use Rattle.ring_nest.specs.Holders.{is_above}
use Rattle.ring_nest.proofs.Owned.{least_more, least_same, not_above, one_above}
use Rattle.ring_nest.proofs.holders.owner_of.Goals as goal
use Rattle.ring_nest.proofs.holders.owner_of.Goals.{then-depths-number, else-depths-number}

pub loop-number-preserved : goal.loop-number-preserved
loop-number-preserved c =
    let numbers = c.args.holders.now in
    let at = c.loop-number.number-index in
    let deep = get_or c.args.depths.now (get_or numbers at 0) 0 in
    let test = is_above c.args.depths.now c.args.depth in
    elim c.if-depths-number.branch [
      | then-depths-number w ↦ rw (w.owner-is, w.lesser.ensures)
          (least_more test numbers at c.loop-number.owner c.loop-number-test.true
          (one_above deep c.args.depth w.if-depths-number.true c.requires.held) c.loop-number.invariant)
      | else-depths-number w ↦ rw w.owner-is
          (least_same test numbers at c.loop-number.owner c.loop-number-test.true
          (not_above deep c.args.depth w.if-depths-number.false c.requires.held) c.loop-number.invariant)
    ]
