use Rattle.std.proofs.Common.{◌≡◌, ℕ, ◌+◌, ◌*◌, true, get_or, drop, min, sym, arith, rules, ap, ◌∙◌}
use Rattle.std.specs.List.{list_all}
use Rattle.std.specs.Char.{is_ascii_digit, digit_value}
use Rattle.std.specs.Str.Parse.{digits_value_after}
use Rattle.std.proofs.lemmas.List.{drop_more}
use Rattle.opl_object.specs.declared.coordinate.TheConstants.{CAP}
use Rattle.opl_object.proofs.Digits.{digit_at, digit_value-digit, capped_after}
use Rattle.opl_object.proofs.coordinate.value_after.Goals as goal

pub loop-digit-preserved : goal.loop-digit-preserved
loop-digit-preserved c =
    let all : list_all is_ascii_digit c.args.digits.now ≡ true = search rules in
    let byte : ℕ = get_or c.args.digits.now c.loop-digit.digit-index 0 in
    let rest = drop (c.loop-digit.digit-index + 1) c.args.digits.now in
    let r = digit_at c.args.digits.now c.loop-digit.digit-index all c.loop-digit-test.true in
    let worth : digit_value byte ≡ c.from.result = digit_value-digit byte r.0 r.1 ∙ sym c.from.ensures in
    let step : min (digits_value_after 10 (min (c.loop-digit.value * 10 + c.from.result) CAP) rest) CAP
    ≡ min (digits_value_after 10 c.loop-digit.value (drop c.loop-digit.digit-index c.args.digits.now)) CAP
    = capped_after CAP (c.loop-digit.value * 10 + c.from.result) rest
    ∙ ap (λ d. min (digits_value_after 10 (c.loop-digit.value * 10 + d) rest) CAP) (sym worth)
    ∙ ap (λ ds. min (digits_value_after 10 c.loop-digit.value ds) CAP)
    (sym (drop_more c.args.digits.now c.loop-digit.digit-index 0 c.loop-digit-test.true)) in (
      omega (arith, c.min-value.ensures),
      ap (λ n. min (digits_value_after 10 n rest) CAP) c.min-value.ensures ∙ step
          ∙ c.loop-digit.invariant.1,
    )
