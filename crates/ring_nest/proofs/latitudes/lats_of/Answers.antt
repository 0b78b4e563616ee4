use Rattle.std.proofs.Common.{arith}
use Rattle.ring_nest.proofs.Lats.{ring_more, ring_same}
use Rattle.ring_nest.proofs.latitudes.lats_of.Goals as goal
use Rattle.ring_nest.proofs.latitudes.lats_of.Goals.{then-marks-at+in_ok-add_ring, else-marks-at}

pub loop-at-preserved : goal.loop-at-preserved
loop-at-preserved c =
    let rings = c.args.rings.now in
    let marks = c.args.marks.now in
    let at = c.loop-at.at in (
      omega (arith, c.loop-at-test.true),
      elim c.if-marks-at.branch [
        | then-marks-at+in_ok-add_ring w ↦ rw (w.lats-is, w.in_ok-add_ring.ensures.added, w.as_slice.ensures.items)
            (ring_more rings marks at c.loop-at.lats.items w.index-rings-at.result _ c.requires.marks (omega arith)
            w.index-rings-at.is w.if-marks-at.true c.loop-at.invariant.1)
        | else-marks-at w ↦ rw w.lats-is
            (ring_same rings marks at c.loop-at.lats.items _ c.requires.marks (omega arith) w.if-marks-at.false c.loop-at.invariant.1)
      ],
    )
