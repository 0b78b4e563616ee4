use Rattle.std.proofs.Common.{Some, Ok, sym, ap, ◌∙◌, rules}
use Rattle.std.specs.Prelude.{take}
use Rattle.std.specs.Int.{w32}
use mir.Val.{SFits}
use Rattle.std.proofs.lemmas.Int.{to_z-of_z}
use Rattle.opl_object.proofs.FieldSteps.{with_lat_read}
use Rattle.opl_object.proofs.parts.Parts.add_usual_lat.Goals as goal

pub returns-clause-end : goal.returns-clause-end
returns-clause-end c =
    let fits : SFits w32 c.in_ok-lat.lat = search rules in
    record {
      place = c.in_ok-lat.ensures.end;
      value = with_lat_read (take c.in_ok-lat.end c.args.text.now) c.in_ok-lat.lat c.args.self.now c.in_ok-lat.ensures.spelled
          ∙ ap (λ lat. Ok (record c.args.self.now { lat = Some lat })) (sym (to_z-of_z w32 c.in_ok-lat.lat fits));
    }
