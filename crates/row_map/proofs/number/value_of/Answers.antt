use Rattle.std.proofs.Common.{◌≡◌, ◌+◌, true, arith, rules}
use Rattle.row_rules.specs.Cell.{are_digits}
use Rattle.row_map.proofs.Digits.{AreDigits-test}
use Rattle.row_map.proofs.number.value_of.Goals as goal

pub overflow_mul-value : goal.overflow_mul-value
overflow_mul-value c =
    let test : are_digits c.args.digits.now ≡ true = search rules in
    let digits = AreDigits-test c.args.digits.now test in
    omega (
      arith,
      digits.front_below (c.loop-digit.digit-index + 1),
      digits.more c.loop-digit.digit-index c.loop-digit-test.true,
      c.loop-digit.invariant,
    )

pub overflow_add-value : goal.overflow_add-value
overflow_add-value c =
    let test : are_digits c.args.digits.now ≡ true = search rules in
    let digits = AreDigits-test c.args.digits.now test in
    omega (
      arith,
      digits.front_below (c.loop-digit.digit-index + 1),
      digits.more c.loop-digit.digit-index c.loop-digit-test.true,
      c.loop-digit.invariant,
      c.from.ensures,
    )

pub loop-digit-preserved : goal.loop-digit-preserved
loop-digit-preserved c =
    let test : are_digits c.args.digits.now ≡ true = search rules in
    let digits = AreDigits-test c.args.digits.now test in
    omega (arith, digits.more c.loop-digit.digit-index c.loop-digit-test.true, c.loop-digit.invariant, c.from.ensures)

pub returns-clause-small : goal.returns-clause-small
returns-clause-small c =
    let test : are_digits c.args.digits.now ≡ true = search rules in
    let digits = AreDigits-test c.args.digits.now test in
    omega (arith, digits.front_below c.loop-digit.digit-index, c.loop-digit.invariant)
