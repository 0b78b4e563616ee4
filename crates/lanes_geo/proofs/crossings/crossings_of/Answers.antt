use Rattle.std.proofs.Common.{arith}
use Rattle.lanes_geo.proofs.Level.{thirty_two_more, few}
use Rattle.lanes_geo.proofs.crossings.crossings_of.Goals as goal

pub overflow_add-count : goal.overflow_add-count
overflow_add-count c =
    let more = thirty_two_more c.args.ring.now c.args.place c.loop-at.at (omega arith) in
    let bound = few c.args.ring.now c.args.place in
    record { fits = omega (arith, c.crossings_at-count.ensures, c.loop-at.invariant.1) }

pub loop-at-preserved : goal.loop-at-preserved
loop-at-preserved c =
    let more = thirty_two_more c.args.ring.now c.args.place c.loop-at.at (omega arith) in
    (omega arith, omega (arith, c.crossings_at-count.ensures, c.loop-at.invariant.1))

pub overflow_add-result : goal.overflow_add-result
overflow_add-result c =
    let bound = few c.args.ring.now c.args.place in
    let rest = rw c.split_at.ensures.back at c.plain_crossings.ensures in
    record { fits = omega (arith, rest, c.loop-at.invariant.1) }
