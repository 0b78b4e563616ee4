use Rattle.std.proofs.Common.{◌≡◌, suc, ◌+◌, ◌*◌, ◌^◌, ◌≤◌, ◌∙◌, ap, true, arith, rules, get_or}
use Rattle.std.proofs.Math.Nat.{pow-le-pow_right, pow-suc}
use Rattle.std.specs.Char.{is_ascii_digit}
use Rattle.std.specs.List.{list_all}
use Rattle.opl_object.proofs.Digits.{digit_at, digit_value-digit}
use Rattle.opl_object.proofs.Fronts.{value_after_more}
use Rattle.opl_object.proofs.number.few_digits.Goals as goal

pub overflow_mul-value : goal.overflow_mul-value
overflow_mul-value c =
    let i = c.loop-digit.digit-index in
    let below : 10 ^ (i + 12) ≤ 10 ^ 18 = pow-le-pow_right {n = 10} (omega arith) {i = i + 12} {j = 18} (omega arith) in
    omega (arith, below, c.loop-digit.invariant.1)

pub overflow_add-value : goal.overflow_add-value
overflow_add-value c =
    let i = c.loop-digit.digit-index in
    let all : list_all is_ascii_digit c.args.digits.now ≡ true = search rules in
    let range = digit_at c.args.digits.now i all c.loop-digit-test.true in
    let below : 10 ^ (i + 12) ≤ 10 ^ 18 = pow-le-pow_right {n = 10} (omega arith) {i = i + 12} {j = 18} (omega arith) in
    omega (arith, below, c.loop-digit.invariant.1, c.from.ensures, range.1)

pub loop-digit-preserved : goal.loop-digit-preserved
loop-digit-preserved c =
    let i = c.loop-digit.digit-index in
    let all : list_all is_ascii_digit c.args.digits.now ≡ true = search rules in
    let range = digit_at c.args.digits.now i all c.loop-digit-test.true in
    let worth = digit_value-digit (get_or c.args.digits.now i 0) range.0 range.1 in
    let more = value_after_more c.args.front c.args.digits.now i c.loop-digit-test.true in
    let next : i + 1 + 12 ≡ suc (i + 12) = omega arith in
    let power : 10 ^ (i + 1 + 12) ≡ 10 ^ (i + 12) * 10 = ap (λ j. 10 ^ j) next ∙ pow-suc 10 (i + 12) in (
      omega (arith, more, worth, c.from.ensures, c.loop-digit.invariant.0),
      omega (arith, power, c.loop-digit.invariant.1, c.from.ensures, range.1),
    )
