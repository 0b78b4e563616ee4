use Rattle.std.proofs.Common.{◌≡◌, ◌+◌, true, arith, rules}
use Rattle.std.specs.List.{list_all}
use Rattle.std.specs.Char.{is_ascii_hexdigit}
use Rattle.std.proofs.lemmas.Int.Digits.{digits_value_more}
use Rattle.std.proofs.lemmas.List.Sums.{AllPass-from_list_all}
use Rattle.opl_object.proofs.Digits.{hex_front_below}
use Rattle.opl_object.proofs.text.value_of.Goals as goal

pub digit_value-requires : goal.digit_value-requires
digit_value-requires c =
    let all : list_all is_ascii_hexdigit c.args.digits.now ≡ true = search rules in
    search (rules, AllPass-from_list_all is_ascii_hexdigit c.args.digits.now all c.loop-digit.digit-index 0 c.loop-digit-test.true)

pub overflow_mul-value : goal.overflow_mul-value
overflow_mul-value c =
    let all : list_all is_ascii_hexdigit c.args.digits.now ≡ true = search rules in
    let below = hex_front_below c.args.digits.now 6 (c.loop-digit.digit-index + 1) all c.requires.few in
    let more = digits_value_more 16 c.args.digits.now c.loop-digit.digit-index c.loop-digit-test.true in
    omega (arith, below, more, c.loop-digit.invariant)

pub overflow_add-value : goal.overflow_add-value
overflow_add-value c =
    let all : list_all is_ascii_hexdigit c.args.digits.now ≡ true = search rules in
    let below = hex_front_below c.args.digits.now 6 (c.loop-digit.digit-index + 1) all c.requires.few in
    let more = digits_value_more 16 c.args.digits.now c.loop-digit.digit-index c.loop-digit-test.true in
    omega (arith, below, more, c.loop-digit.invariant, c.digit_value.ensures.value)

pub loop-digit-preserved : goal.loop-digit-preserved
loop-digit-preserved c =
    let more = digits_value_more 16 c.args.digits.now c.loop-digit.digit-index c.loop-digit-test.true in
    omega (arith, more, c.loop-digit.invariant, c.digit_value.ensures.value)
