use Rattle.std.proofs.Common.{arith}
use Rattle.outside.proofs.Growth.{Appends_more, AppendsPrefix_more}
use Rattle.outside.proofs.sink.put_all.Goals as goal

pub loop-rest-preserved : goal.loop-rest-preserved
loop-rest-preserved g c =
    let first = c.in_ok-count.ensures.bytes in
    record {
      all = λ after rest. c.loop-rest.invariant.all after
          (Appends_more c.in_ok-count.count _ _ _ after first (rw c.split_at.ensures.back at rest));
      front = λ after rest. c.loop-rest.invariant.front after
          (AppendsPrefix_more c.in_ok-count.count _ _ _ after first (rw c.split_at.ensures.back at rest));
      later = omega (arith, c.loop-rest.invariant.later, c.in_ok-count.ensures.cause.later);
    }
