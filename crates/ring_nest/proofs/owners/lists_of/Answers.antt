use Rattle.std.proofs.Common.{◌+◌, ◌<◌, arith, get_or, length, refl}
use Rattle.ring_nest.proofs.ByDepth.{deep_below, lists_next}
use Rattle.ring_nest.proofs.owners.lists_of.Goals as goal

pub loop-at-preserved : goal.loop-at-preserved
loop-at-preserved c =
    let depths = c.args.depths.now in
    let lists = c.loop-at.lists.items in
    let within : c.loop-at.at < length depths = omega (arith, c.loop-at-test.true) in
    let low = deep_below depths c.loop-at.at (length depths + 1) c.requires within in
    record {
      within = omega (arith, within);
      so_far = rw c.in_ok-add_number.ensures (lists_next depths c.loop-at.at (get_or depths c.loop-at.at 0) lists c.loop-at.invariant.so_far refl
          (rw c.loop-at.invariant.so_far.long low));
    }
