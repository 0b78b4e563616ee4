use Rattle.std.proofs.Common.{length, arith}
use Rattle.std.proofs.lemmas.List.{length-map}
use Rattle.ring_nest.specs.Around.{around}
use Rattle.ring_nest.proofs.Owned.{range_below}
use Rattle.ring_nest.proofs.holders.tree_of_all.Goals as goal

pub tree_of-requires : goal.tree_of-requires
tree_of-requires c =
    let rings = c.args.boxed.now.rings.now in
    record {
      within = rw (c.in_ok-numbers.ensures, c.args.boxed.now.own, length-map rings around)
          (range_below 0 (length rings) (length rings) (omega arith));
    }
