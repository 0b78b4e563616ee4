use Rattle.std.proofs.Common.{arith, refl}
use Rattle.delta_feed.proofs.HexSteps.{all_written, left, one_written}
use Rattle.delta_feed.proofs.hexes.push_few.Goals as goal

pub loop-rest-preserved : goal.loop-rest-preserved
loop-rest-preserved c =
    let xs = c.loop-rest.rest.now in
    one_written c.loop-rest.out.items _ xs _ _ c.high_digit.result c.low_digit.result c.in-len1-up.len_at_least
    (rw (c.in_ok-push-2.ensures.items, c.in_ok-push.ensures.items) refl) c.high_digit.ensures.digit c.low_digit.ensures.digit (left 1 xs) c.loop-rest.invariant

pub returns : goal.returns
returns c = record { digits = all_written c.loop-rest.out.items c.loop-rest.rest.now _ (omega (arith, c.in_default.len_below)) c.loop-rest.invariant }
