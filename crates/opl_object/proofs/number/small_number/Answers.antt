use Rattle.std.proofs.Common.{◌≡◌, ℕ, true, false, not, get_or, sym, ap, ◌∙◌, arith, rules}
use Rattle.std.specs.Char.{is_ascii_digit, digit_value}
use Rattle.std.proofs.lemmas.List.Sums.{position_or_len_is}
use Rattle.opl_object.proofs.Digits.{digit_range, digit_value-digit}
use Rattle.opl_object.proofs.Fronts.{value_after_more, also_at}
use Rattle.opl_object.proofs.number.small_number.Goals as goal

pub returns-then-not-is_ascii_digit-clause-len : goal.returns-then-not-is_ascii_digit-clause-len
returns-then-not-is_ascii_digit-clause-len c =
    sym (position_or_len_is {X = ℕ} (λ byte. not (is_ascii_digit byte)) c.args.text.now c.loop-place.place 0
    (omega arith) c.loop-place.invariant.2 (λ _. search rules))

pub returns-then-not-is_ascii_digit-clause-value : goal.returns-then-not-is_ascii_digit-clause-value
returns-then-not-is_ascii_digit-clause-value c = c.loop-place.invariant.1

pub returns-then-not-is_ascii_digit-clause-small : goal.returns-then-not-is_ascii_digit-clause-small
returns-then-not-is_ascii_digit-clause-small c = c.loop-place.invariant.0

pub loop-place-preserved : goal.loop-place-preserved
loop-place-preserved c =
    let byte : ℕ = get_or c.args.text.now c.loop-place.place 0 in
    let digit : is_ascii_digit byte ≡ true = sym c.is_ascii_digit.ensures.value ∙ c.if-not-is_ascii_digit.false in
    let range = digit_range byte digit in
    let worth : digit_value byte ≡ c.from.result = digit_value-digit byte range.0 range.1 ∙ sym c.from.ensures in
    let more = value_after_more c.args.front c.args.text.now c.loop-place.place c.loop-place-test.true in (
      omega arith,
      omega (arith, more, worth, c.loop-place.invariant.1),
      also_at (λ k. not (is_ascii_digit (get_or c.args.text.now k 0)) ≡ false) c.loop-place.place c.loop-place.invariant.2 (ap not digit),
    )

pub returns-clause-len : goal.returns-clause-len
returns-clause-len c = sym (position_or_len_is {X = ℕ} (λ byte. not (is_ascii_digit byte)) c.args.text.now _ 0 (omega arith)
    (λ k lt. c.loop-place.invariant.2 k (omega arith)) (λ lt. absurd (omega arith)))
