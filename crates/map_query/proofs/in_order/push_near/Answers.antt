use Rattle.std.proofs.Common.{◌++◌, ◌∙◌, ap, sym}
use Rattle.std.proofs.lemmas.List.{append-nil}
use Rattle.map_query.specs.Answer.{near}
use Rattle.map_query.proofs.FarRows.{none_met}
use Rattle.map_query.proofs.in_order.push_near.Goals as goal

pub returns-then-not-is_near : goal.returns-then-not-is_near
returns-then-not-is_near c =
    let far = none_met c.args.style.now c.args.table c.args.asked c.args.block.now
    (ap (near c.args.asked) (sym c.requires.around) ∙ sym c.is_near.ensures.near ∙ c.if-not-is_near.true) in
    record { ok = sym (ap (λ own. c.args.rows.now ++ own) far ∙ append-nil c.args.rows.now) }
