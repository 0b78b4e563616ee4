use Rattle.std.proofs.Common.{leb, cond, ap, sym, refl}
use Rattle.std.proofs.lemmas.Bool.{eqb-true}
use Rattle.std.proofs.lemmas.Simd.{length-chunk}
use Rattle.std.specs.Char.{is_ascii}
use lib.Lanes.{chunk}
use Rattle.opl_object.specs.Runs.{first_set}
use Rattle.opl_object.proofs.LaneLaws.{all_lanes, lane_by_lane, own_lanes, passing}
use Rattle.opl_object.proofs.lanes.begins_ascii.Goals as goal

pub returns : goal.returns
returns c =
    let bytes = chunk 0 16 c.args.text.now in
    let full = length-chunk 0 16 c.args.text.now c.requires.long in
    record {
      ascii = λ none. passing is_ascii c.args.text.now 16 _ c.requires.long c.type_inv.text (sym (ap first_set (eqb-true _ _ none)))
          _ (lane_by_lane (λ a b. cond (leb a b) 255 0) _ _ bytes (all_lanes bytes 16 _ full) (own_lanes bytes)) refl;
    }
