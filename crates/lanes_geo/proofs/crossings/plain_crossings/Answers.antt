use Rattle.std.proofs.Common.{arith, drop, length-drop}
use Rattle.lanes_geo.proofs.Level.{one_more, few, no_segment}
use Rattle.lanes_geo.proofs.crossings.plain_crossings.Goals as goal

pub overflow_add-count : goal.overflow_add-count
overflow_add-count c =
    let more = one_more c.args.ring.now c.args.place c.index-ring-at.result c.index-ring-at-in-loop-at.result c.loop-at.at
    (omega arith) c.index-ring-at.is c.index-ring-at-in-loop-at.is in
    let bound = few c.args.ring.now c.args.place in
    let one = rw c.is_crossed.ensures at c.one_if-count.ensures in
    record { fits = omega (arith, one, more, c.loop-at.invariant.1) }

pub loop-at-preserved : goal.loop-at-preserved
loop-at-preserved c =
    let more = one_more c.args.ring.now c.args.place c.index-ring-at.result c.index-ring-at-in-loop-at.result c.loop-at.at
    (omega arith) c.index-ring-at.is c.index-ring-at-in-loop-at.is in
    let one = rw c.is_crossed.ensures at c.one_if-count.ensures in
    (omega arith, omega (arith, one, more, c.loop-at.invariant.1))

pub returns : goal.returns
returns c =
    let none = no_segment (drop c.loop-at.at c.args.ring.now) c.args.place (rw length-drop (omega arith)) in
    omega (arith, none, c.loop-at.invariant.1)
