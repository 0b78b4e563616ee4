use Rattle.std.proofs.Common.{◌≡◌, add-one, arith, subst, zero-add}
use Rattle.std.specs.List.{range_with_len}
use Rattle.ring_nest.proofs.Owned.{range_more}
use Rattle.ring_nest.proofs.holders.numbers_below.Goals as goal

pub loop-number-preserved : goal.loop-number-preserved
loop-number-preserved c = rw (c.in_ok-push.ensures.items, c.loop-number.invariant, add-one, range_more 0 c.loop-number.number, zero-add)

pub returns : goal.returns
returns c =
    let all : c.loop-number.number ≡ c.args.count = omega arith in
    subst (λ count. c.loop-number.numbers.items ≡ range_with_len 0 count) all c.loop-number.invariant
