use Rattle.std.proofs.Common.{◌≡◌, true, take, arith, rules}
use Rattle.std.specs.List.{list_all, zip}
use Rattle.opl_object.specs.declared.number.TheConstants.{TIME_FORM}
use Rattle.opl_object.specs.Number.{is_formed}
use Rattle.opl_object.proofs.Fronts.{ends_field, time_filled}
use Rattle.opl_object.proofs.usual.time_end.Goals as goal

pub returns : goal.returns
returns c =
    let all : list_all is_formed (zip TIME_FORM (take 20 c.args.text.now)) ≡ true = search rules in
    record {
      end = record {
        place = ends_field c.args.text.now 20 (omega arith) (time_filled c.args.text.now (omega arith) all)
            (c.ends_at.ensures.blank c.if-not-ends_at.false);
        value = search rules;
      };
    }
