use Rattle.delta_feed.proofs.HexSteps.{eight_written, left}
use Rattle.delta_feed.proofs.hexes.push_hex.Goals as goal

pub loop-rest-preserved : goal.loop-rest-preserved
loop-rest-preserved c =
    let xs = c.loop-rest.rest.now in
    eight_written c.loop-rest.out.items _ xs _ _ c.eight_in_hex-digits.result c.in-len8-up.len_at_least c.in_ok-extend_from_slice.ensures.items
    c.eight_in_hex-digits.ensures.digits (left 8 xs) c.loop-rest.invariant
