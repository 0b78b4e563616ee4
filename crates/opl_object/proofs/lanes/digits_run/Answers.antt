use Rattle.std.proofs.Common.{ℕ, leb, cond, refl}
use Rattle.std.proofs.lemmas.Simd.{zip2_splat, length-chunk}
use Rattle.std.specs.Char.{is_ascii_digit}
use lib.Lanes.{chunk}
use Rattle.opl_object.proofs.LaneLaws.{all_lanes, lane_by_lane, running}
use Rattle.opl_object.proofs.lanes.digits_run.Goals as goal

pub returns : goal.returns
returns c =
    let bytes = chunk 0 16 c.args.text.now in
    let full = length-chunk 0 16 c.args.text.now c.requires.long in
    record {
      run = running is_ascii_digit c.args.text.now _ _ c.requires.long c.type_inv.text c.first_set.ensures.place _
          (lane_by_lane (λ a b. cond (leb a b) 255 0) _ _ bytes (all_lanes bytes 16 10 full) (zip2_splat {Y = ℕ} _ bytes 16 48 full)) refl;
    }
