use Rattle.std.proofs.Common.{◌≡◌, ◌∙◌, ap, sym, cond, true, Ok, arith, rules}
use Rattle.std.specs.Prelude.{pos, neg_ℤ}
use Rattle.std.specs.Option.{option_map}
use Rattle.std.specs.Int.{w32}
use mir.Val.{SFits}
use Rattle.std.proofs.lemmas.Int.{to_z-of_z}
use Rattle.opl_object.specs.Fields.{is, cut_at}
use Rattle.opl_object.specs.Coordinate.{is_decimal, units, decimals_of}
use Rattle.opl_object.specs.Number.{unsigned}
use Rattle.opl_object.proofs.Units.{coordinate_some}
use Rattle.opl_object.proofs.coordinate.coordinate.Goals as goal

pub returns-clause-value : goal.returns-clause-value
returns-clause-value c =
    let decimals = option_map (λ rest. rest.now) c.cut_bytes.result.1 in
    let cut : (c.cut_bytes.result.0.now, decimals) ≡ cut_at (is 46) (unsigned c.args.text.now) =
    c.cut_bytes.ensures.value ∙ ap (cut_at (is 46)) c.signed-minus.ensures.rest in
    let form : is_decimal (c.cut_bytes.result.0.now, decimals) ≡ true = sym c.is_decimal.ensures.value ∙ c.if-not-is_decimal.false in
    let value : units c.cut_bytes.result.0.now (decimals_of decimals) ≡ c.units-units.result =
    let same : units c.cut_bytes.result.0.now c.digits_of.result.now ≡ c.units-units.result =
    omega (arith, c.units-units.ensures.capped, c.from.ensures, c.requires) in
    ap (units c.cut_bytes.result.0.now) (sym c.digits_of.ensures.value) ∙ same in
    let some = coordinate_some c.args.greatest c.args.text.now c.cut_bytes.result.0.now decimals c.units-units.result cut form value
    (omega (arith, c.from.ensures)) in
    let fits : SFits w32 c.with_sign.result = search rules in
    ap Ok (to_z-of_z w32 c.with_sign.result fits ∙ c.with_sign.ensures.value
    ∙ ap (λ minus. cond minus (neg_ℤ (pos c.units-units.result)) (pos c.units-units.result)) c.signed-minus.ensures.sign) ∙ sym some
