use Rattle.std.proofs.Common.{arith, Fits, w8, ◌≡◌, take, eqb, subst, sym, map, ◌%◌, ◌^◌}
use Rattle.std.proofs.lemmas.List.{take_all}
use Rattle.std.proofs.lemmas.Simd.{Each1-from_get_or}
use Rattle.std.specs.List.{list_all, zip}
use lib.Lanes.{mask_l, top, zip2}
use Rattle.opl_object.specs.Runs.{is_within}
use Rattle.opl_object.proofs.WithinLanes.{above, all_within_from_mask, behind}
use Rattle.opl_object.proofs.lanes.all_within.Goals as goal

pub returns : goal.returns
returns c =
    let text = c.args.text.now in
    let whole : take 16 text ≡ text = take_all 16 text (omega arith) in
    let fits = Each1-from_get_or (Fits w8) text 0 (λ k lt. c.type_inv.text k) in
    record {
      within = subst (λ bytes. eqb (mask_l (map (top 7) (zip2 above c.args.room (zip2 behind bytes c.args.least))) % 2 ^ 64) 0
          ≡ list_all is_within (zip text (zip c.args.least c.args.room))) (sym whole)
          (all_within_from_mask text c.args.least c.args.room fits c.requires.long c.requires.room);
    }
