use Rattle.std.proofs.Common.{◌≡◌, ◌≤◌, ◌+◌, true, length, arith, rules}
use Rattle.std.proofs.lemmas.Bool.{leb-true}
use Rattle.updater.specs.Number.{is_spelled}
use Rattle.opl_object.proofs.Digits.{both, value_more, value_front_below}
use Rattle.updater.proofs.number.value_of.Goals as goal

pub overflow_mul-value : goal.overflow_mul-value
overflow_mul-value c =
    let test : is_spelled c.args.digits.now ≡ true = search rules in
    let parts = both _ _ test in
    let long : length c.args.digits.now ≤ 6 = leb-true _ _ (both _ _ parts.0).1 in
    let below = value_front_below c.args.digits.now 6 (c.loop-digit.digit-index + 1) parts.1 long in
    let more = value_more c.args.digits.now c.loop-digit.digit-index parts.1 c.loop-digit-test.true in
    omega (arith, below, more, c.loop-digit.invariant)

pub overflow_add-value : goal.overflow_add-value
overflow_add-value c =
    let test : is_spelled c.args.digits.now ≡ true = search rules in
    let parts = both _ _ test in
    let long : length c.args.digits.now ≤ 6 = leb-true _ _ (both _ _ parts.0).1 in
    let below = value_front_below c.args.digits.now 6 (c.loop-digit.digit-index + 1) parts.1 long in
    let more = value_more c.args.digits.now c.loop-digit.digit-index parts.1 c.loop-digit-test.true in
    omega (arith, below, more, c.loop-digit.invariant, c.from.ensures)

pub loop-digit-preserved : goal.loop-digit-preserved
loop-digit-preserved c =
    let test : is_spelled c.args.digits.now ≡ true = search rules in
    let parts = both _ _ test in
    let more = value_more c.args.digits.now c.loop-digit.digit-index parts.1 c.loop-digit-test.true in
    omega (arith, more, c.loop-digit.invariant, c.from.ensures)
