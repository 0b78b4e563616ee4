use Rattle.std.proofs.Common.{Some, Ok, sym, ap, ◌∙◌, rules}
use Rattle.std.specs.Prelude.{take}
use Rattle.std.specs.Int.{w32}
use mir.Val.{SFits}
use Rattle.std.proofs.lemmas.Int.{to_z-of_z}
use Rattle.opl_object.proofs.FieldSteps.{with_lon_read}
use Rattle.opl_object.proofs.parts.Parts.add_usual_lon.Goals as goal

pub returns-clause-end : goal.returns-clause-end
returns-clause-end c =
    let fits : SFits w32 c.in_ok-lon.lon = search rules in
    record {
      place = c.in_ok-lon.ensures.end;
      value = with_lon_read (take c.in_ok-lon.end c.args.text.now) c.in_ok-lon.lon c.args.self.now c.in_ok-lon.ensures.spelled
          ∙ ap (λ lon. Ok (record c.args.self.now { lon = Some lon })) (sym (to_z-of_z w32 c.in_ok-lon.lon fits));
    }
