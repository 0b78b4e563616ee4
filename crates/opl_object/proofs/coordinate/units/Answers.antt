use Rattle.std.proofs.Common.{◌≡◌, ◌+◌, ◌-◌, ◌++◌, ◌∙◌, ap, sym, min, take, replicate, cond, true, false, leb, arith, rules, refl}
use Rattle.std.specs.Prelude.{slice_index}
use Rattle.std.specs.Char.{is_ascii_digit}
use Rattle.std.specs.Str.Parse.{digits_value, digits_value_after}
use Rattle.opl_object.specs.declared.coordinate.TheConstants.{CAP, ZEROS}
use Rattle.opl_object.specs.Coordinate.{seven, units}
use Rattle.opl_object.proofs.Passes.{all-take}
use Rattle.opl_object.proofs.Units.{seven_parts, capped_parts}
use Rattle.opl_object.proofs.coordinate.units.Goals as goal

pub value_after-value-requires-3-clause-digits : goal.value_after-value-requires-3-clause-digits
value_after-value-requires-3-clause-digits c = search (rules, all-take is_ascii_digit (7 - c.min-shown.result) ZEROS refl)

pub returns-then-rounds_up : goal.returns-then-rounds_up
returns-then-rounds_up c =
    let three : c.value_after-value-3.result ≡ min (digits_value 10 (c.args.whole.now ++ seven c.args.decimals.now)) CAP
    = c.value_after-value-3.ensures.value
    ∙ ap (λ n. min (digits_value_after 10 n (take (7 - c.min-shown.result) (replicate 7 48))) CAP)
    (c.value_after-value-2.ensures.value ∙ ap
    (λ n. min (digits_value_after 10 n (take c.min-shown.result c.args.decimals.now)) CAP) c.value_after-value.ensures.value)
    ∙ capped_parts CAP c.args.whole.now (take c.min-shown.result c.args.decimals.now) (take (7 - c.min-shown.result) (replicate 7 48))
    ∙ ap (λ ds. min (digits_value 10 (c.args.whole.now ++ ds)) CAP)
    (sym (seven_parts c.args.decimals.now c.min-shown.result (omega (arith, c.min-shown.ensures)))) in
    let round : leb 53 (slice_index c.args.decimals.now 7) ≡ true = sym c.rounds_up.ensures.value ∙ c.if-rounds_up.true in
    let all = digits_value 10 (c.args.whole.now ++ seven c.args.decimals.now) in
    let sum : units c.args.whole.now c.args.decimals.now ≡ all + 1 = ap (λ b. all + cond b 1 0) round in
    record { capped = omega (arith, three, sum) }

pub returns-else-rounds_up : goal.returns-else-rounds_up
returns-else-rounds_up c =
    let three : c.value_after-value-3.result ≡ min (digits_value 10 (c.args.whole.now ++ seven c.args.decimals.now)) CAP
    = c.value_after-value-3.ensures.value
    ∙ ap (λ n. min (digits_value_after 10 n (take (7 - c.min-shown.result) (replicate 7 48))) CAP)
    (c.value_after-value-2.ensures.value ∙ ap
    (λ n. min (digits_value_after 10 n (take c.min-shown.result c.args.decimals.now)) CAP) c.value_after-value.ensures.value)
    ∙ capped_parts CAP c.args.whole.now (take c.min-shown.result c.args.decimals.now) (take (7 - c.min-shown.result) (replicate 7 48))
    ∙ ap (λ ds. min (digits_value 10 (c.args.whole.now ++ ds)) CAP)
    (sym (seven_parts c.args.decimals.now c.min-shown.result (omega (arith, c.min-shown.ensures)))) in
    let round : leb 53 (slice_index c.args.decimals.now 7) ≡ false = sym c.rounds_up.ensures.value ∙ c.if-rounds_up.false in
    let all = digits_value 10 (c.args.whole.now ++ seven c.args.decimals.now) in
    let sum : units c.args.whole.now c.args.decimals.now ≡ all + 0 = ap (λ b. all + cond b 1 0) round in
    record { capped = omega (arith, three, sum) }
