use Rattle.std.proofs.Common.{◌∙◌, ◌+◌, ◌-◌, ◌≡◌, ◌<◌, ◌≤◌, ◌∷◌, true, false, length, drop, ap, sym, arith, w32}
use Rattle.std.specs.Prelude.{unsigned_abs}
use Rattle.std.specs.Int.{is_negative}
use Rattle.std.proofs.lemmas.Int.{to_z-of_z}
use Rattle.std.proofs.lemmas.List.{drop-set}
use Rattle.std.proofs.lemmas.Fmt.{length-decimal-le}
use Rattle.osm_base.proofs.Digits.{degrees-positive, degrees-negative, size-text}
use Rattle.osm_base.proofs.values.degrees.write_degrees.Goals as goal

pub write_digits-whole-requires : goal.write_digits-whole-requires
write_digits-whole-requires c =
    (omega (arith, length-decimal-le 3 c.from.result (omega arith) (omega arith) (omega arith)), c.write_fraction-point.ensures.within)

pub overflow_sub-text : goal.overflow_sub-text
overflow_sub-text c = omega (arith, length-decimal-le 3 c.from.result (omega arith) (omega arith) (omega arith))

pub overflow_sub-result : goal.overflow_sub-result
overflow_sub-result c = omega (arith, length-decimal-le 3 c.from.result (omega arith) (omega arith) (omega arith))

pub returns-then-is_negative-clause-written : goal.returns-then-is_negative-clause-written
returns-then-is_negative-clause-written c =
    let sign : is_negative c.args.units ≡ true =
    ap is_negative (sym (to_z-of_z w32 c.args.units c.ranges.units)) ∙ sym c.is_negative.ensures ∙ c.if-is_negative.true in
    let size : c.unsigned_abs-size.result ≡ unsigned_abs c.args.units =
    c.unsigned_abs-size.ensures.value ∙ ap unsigned_abs (to_z-of_z w32 c.args.units c.ranges.units) in
    let before : 1 ≤ c.write_digits-whole.result =
    omega (arith, length-decimal-le 3 c.from.result (omega arith) (omega arith) (omega arith)) in
    let there : c.write_digits-whole.result - 1 < length c.write_digits-whole.new.buf = omega arith in
    let next : c.write_digits-whole.result - 1 + 1 ≡ c.write_digits-whole.result = omega arith in
    drop-set c.write_digits-whole.new.buf (c.write_digits-whole.result - 1) 45 there
    ∙ ap (λ at. 45 ∷ drop at c.write_digits-whole.new.buf) next
    ∙ ap (λ behind. 45 ∷ behind) (
    c.write_digits-whole.ensures.written
    ∙ size-text c.args.units c.unsigned_abs-size.result c.from.result _ size c.from.ensures c.write_fraction-point.ensures.written
    )
    ∙ sym (degrees-negative c.args.units sign)

pub returns-clause-written : goal.returns-clause-written
returns-clause-written c =
    let sign : is_negative c.args.units ≡ false =
    ap is_negative (sym (to_z-of_z w32 c.args.units c.ranges.units)) ∙ sym c.is_negative.ensures ∙ c.if-is_negative.false in
    let size : c.unsigned_abs-size.result ≡ unsigned_abs c.args.units =
    c.unsigned_abs-size.ensures.value ∙ ap unsigned_abs (to_z-of_z w32 c.args.units c.ranges.units) in
    c.write_digits-whole.ensures.written
    ∙ size-text c.args.units c.unsigned_abs-size.result c.from.result _ size c.from.ensures c.write_fraction-point.ensures.written
    ∙ sym (degrees-positive c.args.units sign)
