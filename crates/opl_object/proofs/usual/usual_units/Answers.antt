use Rattle.std.proofs.Common.{◌≡◌, ◌-◌, ◌∷◌, length, drop, sym, ◌∙◌, arith}
use Rattle.std.proofs.lemmas.List.{length-drop, take_all}
use Rattle.opl_object.proofs.Fronts.{units_whole, units_pointed}
use Rattle.opl_object.proofs.usual.usual_units.Goals as goal

pub returns-in_default-clause-spelled : goal.returns-in_default-clause-spelled
returns-in_default-clause-spelled c =
    rw c.scale.ensures.scale (units_whole c.args.text.now c.in_ok-whole.len c.in_ok-whole.whole c.in_ok-whole.ensures.len (omega arith)
    (omega arith) c.in_ok-whole.ensures.value)

pub returns-clause-spelled : goal.returns-clause-spelled
returns-clause-spelled c =
    let point : drop c.in_ok-whole.len c.args.text.now ≡ 46 ∷ c.in-Some.decimals.now =
    sym (take_all (length c.args.text.now - c.in_ok-whole.len) (drop c.in_ok-whole.len c.args.text.now)
    (omega (arith, length-drop c.in_ok-whole.len c.args.text.now))) ∙ c.in-Some.ensures.point in
    rw c.scale-2.ensures.scale (units_pointed c.args.text.now c.in-Some.decimals.now c.in_ok-whole.len c.in_ok-whole.whole
    c.in_ok-value.count c.in_ok-value.value
    c.in_ok-whole.ensures.len (omega arith) (omega arith) c.in_ok-whole.ensures.value point c.in_ok-value.ensures.len (omega arith)
    (omega arith) c.in_ok-value.ensures.value)
