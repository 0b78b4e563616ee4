use Rattle.std.proofs.Common.{◌≤◌, length, arith, refl}
use Rattle.std.proofs.lemmas.Bool.{not-true}
use Rattle.std.proofs.lemmas.Simd.{zip2_splat, length-chunk}
use lib.Lanes.{chunk}
use Rattle.opl_object.specs.Runs.{Passes, is_bare}
use Rattle.opl_object.proofs.LaneLaws.{passing}
use Rattle.opl_object.proofs.lanes.bare_run.Goals as goal

pub returns : goal.returns
returns c =
    let long : 16 ≤ length c.args.text.now = omega arith in
    let full = length-chunk 0 16 c.args.text.now long in
    let all : Passes is_bare c.args.text.now c.first_set.result = passing is_bare c.args.text.now _ _ long c.type_inv.text c.first_set.ensures.place _
    (zip2_splat _ (chunk 0 16 c.args.text.now) 16 65 full) refl in
    record {
      within = omega (arith, all.few);
      bare = λ k lt. not-true _ (all.all k lt);
    }
