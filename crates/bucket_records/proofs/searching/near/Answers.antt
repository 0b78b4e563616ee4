-- A mark whose record is below the key comes nearer.
use Rattle.std.proofs.Common.{arith}
use Rattle.bucket_records.proofs.MapLaws.{keys_below}
use Rattle.bucket_records.proofs.searching.near.Goals as goal

pub loop-low-preserved-then-own-key : goal.loop-low-preserved-then-own-key
loop-low-preserved-then-own-key c =
    let some = c.loop-low.invariant.4 (omega (arith, c.loop-low-test.true)) in (
      omega (arith, c.next_mark-middle.ensures.high),
      c.at_mark-at.ensures.within,
      c.at_mark-at.ensures.rest,
      λ k low.
          keys_below c.args.records.now c.args.key c.at_mark-at.result.0 c.front-own.ensures.rise (c.at_mark-at.ensures.some some)
          (omega (arith, c.front-own.ensures.key, c.if-own-key.true)) k (omega (arith, low)),
      c.loop-low.invariant.4,
    )
