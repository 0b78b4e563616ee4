use Rattle.std.proofs.Common.{arith}
use Rattle.delta_feed.proofs.HexSteps.{digit_at, digits_left, few_read, left, one_read}
use Rattle.delta_feed.proofs.hexes.add_bytes.Goals as goal

pub loop-rest-preserved : goal.loop-rest-preserved
loop-rest-preserved c =
    let xs = c.loop-rest.rest.now in
    let long = c.in-len2-up.len_at_least in
    let all = c.loop-rest.invariant.digits in
    record {
      read = one_read c.loop-rest.bytes.items _ xs _ _ c.byte_of.result long c.in_ok-push.ensures.items
          (c.byte_of.ensures.byte (digit_at 0 xs (omega (arith, long)) all) (digit_at 1 xs (omega (arith, long)) all)) (left 2 xs)
          c.loop-rest.invariant.read;
      digits = digits_left xs _ long (left 2 xs) all;
    }

pub returns : goal.returns
returns c = record { bytes = few_read c.loop-rest.bytes.items c.loop-rest.rest.now _ (omega (arith, c.in_default.len_below)) c.loop-rest.invariant.read }
