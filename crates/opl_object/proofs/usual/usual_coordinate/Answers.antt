use Rattle.std.proofs.Common.{◌≡◌, ◌<◌, ◌≤◌, ◌+◌, true, cond, length, get_or, take, ap, sym, subst, ◌∙◌, arith, rules}
use Rattle.std.specs.Int.{w32}
use mir.Val.{SFits}
use Rattle.std.proofs.lemmas.Int.{to_z-of_z}
use Rattle.opl_object.specs.Fields.{is_blank}
use Rattle.opl_object.specs.Number.{is_negative, unsigned}
use Rattle.opl_object.specs.Spelling.{SpellsCoordinate}
use Rattle.opl_object.proofs.Fronts.{usual_spells, coordinate_ends, signed_here, signed_within}
use Rattle.opl_object.proofs.usual.usual_coordinate.Goals as goal

pub returns-clause-end : goal.returns-clause-end
returns-clause-end c =
    let spelled = usual_spells c.args.greatest c.args.text.now c.signed-minus.result.1.now c.in_ok-units.len c.in_ok-units.units
    c.signed_len.result c.signed-minus.result.0 c.signed-minus.ensures.sign c.signed-minus.ensures.rest c.signed_len.ensures.len
    c.in_ok-units.ensures.spelled (omega (arith, c.from.ensures)) in
    let end : cond (is_negative c.args.text.now) (c.in_ok-units.len + 1) c.in_ok-units.len ≡ c.signed_len.result =
    ap (λ b. cond b (c.in_ok-units.len + 1) c.in_ok-units.len) (sym c.signed-minus.ensures.sign) ∙ sym c.signed_len.ensures.len in
    let short : c.in_ok-units.len ≤ length (unsigned c.args.text.now) = rw (← c.signed-minus.ensures.rest) c.in_ok-units.ensures.within in
    let within : c.signed_len.result ≤ length c.args.text.now =
    subst (λ n. n ≤ length c.args.text.now) end (signed_within c.args.text.now c.in_ok-units.len short) in
    let behind : c.in_ok-units.len < length (unsigned c.args.text.now)
    → is_blank (get_or (unsigned c.args.text.now) c.in_ok-units.len 0) ≡ true =
    subst (λ t. c.in_ok-units.len < length t → is_blank (get_or t c.in_ok-units.len 0) ≡ true) c.signed-minus.ensures.rest
    (c.ends_at.ensures.blank c.if-not-ends_at.false) in
    let here : c.signed_len.result < length c.args.text.now → is_blank (get_or c.args.text.now c.signed_len.result 0) ≡ true =
    subst (λ n. n < length c.args.text.now → is_blank (get_or c.args.text.now n 0) ≡ true) end
    (signed_here c.args.text.now c.in_ok-units.len behind) in
    coordinate_ends c.args.greatest c.args.text.now c.signed_len.result _ spelled within here

pub returns-clause-spelled : goal.returns-clause-spelled
returns-clause-spelled c =
    let spelled = usual_spells c.args.greatest c.args.text.now c.signed-minus.result.1.now c.in_ok-units.len c.in_ok-units.units
    c.signed_len.result c.signed-minus.result.0 c.signed-minus.ensures.sign c.signed-minus.ensures.rest c.signed_len.ensures.len
    c.in_ok-units.ensures.spelled (omega (arith, c.from.ensures)) in
    let fits : SFits w32 c.with_sign.result = search rules in
    subst (SpellsCoordinate c.args.greatest (take c.signed_len.result c.args.text.now))
    (sym (to_z-of_z w32 c.with_sign.result fits ∙ c.with_sign.ensures.value)) spelled
