use Rattle.std.proofs.Common.{◌++◌, sym, ◌∙◌, ap, arith, refl}
use Rattle.std.specs.Prelude.{decimal}
use Rattle.std.proofs.lemmas.List.{append-nil}
use Rattle.std.proofs.lemmas.Fmt.{length-decimal-le, decimal_nonempty}
use Rattle.osm_base.proofs.Digits.{drop-whole, drop-point, fraction-digits, decimal-units}
use Rattle.osm_base.specs.values.Degrees.{fraction, padded, trimmed}
use Rattle.osm_base.proofs.values.degrees.write_fraction.Goals as goal

pub returns-then-rest-eq0-clause-written : goal.returns-then-rest-eq0-clause-written
unfolding fraction
returns-then-rest-eq0-clause-written c = rw (c.if-rest-eq0.true, drop-whole c.args.text.now) refl

pub write_digits-point-requires : goal.write_digits-point-requires
write_digits-point-requires c =
    (omega (arith, length-decimal-le 8 c.from.result (omega arith) (omega arith) (omega arith)), omega arith)

pub bounds-text-point : goal.bounds-text-point
bounds-text-point c =
    omega (arith, decimal_nonempty c.from.result (omega arith))

pub returns-clause-written : goal.returns-clause-written
returns-clause-written c =
    drop-point c.write_digits-point.result 49 46 c.write_digits-point.new.buf (trimmed (padded 7 (decimal c.args.rest))) (
    c.write_digits-point.ensures.written
    ∙ ap (λ after. decimal c.from.result ++ after) (drop-whole c.args.text.now)
    ∙ append-nil (decimal c.from.result)
    ∙ ap decimal c.from.ensures
    ∙ c.without_last_zeros-digits.ensures.digits
    ∙ decimal-units c.args.rest c.requires.rest
    )
    ∙ sym (fraction-digits c.args.rest c.if-rest-eq0.false)

pub returns-clause-before : goal.returns-clause-before
returns-clause-before c =
    omega (arith, length-decimal-le 8 c.from.result (omega arith) (omega arith) (omega arith))
