use Rattle.std.proofs.Common.{◌≡◌, ◌-◌, ◌&&◌, ap, ap₂, ◌∙◌, arith, length, take, drop}
use Rattle.std.proofs.lemmas.List.{take_all, length-drop}
use Rattle.std.specs.List.{list_all, zip}
use Rattle.opl_object.specs.declared.number.TheConstants.{FRONT_FORM, FRONT_ROOM, BACK_FORM, BACK_ROOM}
use Rattle.opl_object.specs.Runs.{is_within}
use Rattle.opl_object.proofs.TimeForms.{formed_by_parts}
use Rattle.opl_object.proofs.number.all_formed.Goals as goal

pub returns : goal.returns
returns c =
    let text = c.args.text.now in
    let front : c.all_within.result ≡ list_all is_within (zip (take 16 text) (zip FRONT_FORM FRONT_ROOM)) = c.all_within.ensures.within in
    let rest : take (length text - 4) (drop 4 text) ≡ drop 4 text =
    take_all (length text - 4) (drop 4 text) (omega (arith, length-drop 4 text)) in
    let back : c.all_within-2.result ≡ list_all is_within (zip (drop 4 text) (zip BACK_FORM BACK_ROOM)) =
    c.all_within-2.ensures.within ∙ ap (λ bytes. list_all is_within (zip bytes (zip BACK_FORM BACK_ROOM))) rest in
    record {
      value = ap₂ (λ p q. p && q) front back ∙ formed_by_parts text c.requires;
    }
