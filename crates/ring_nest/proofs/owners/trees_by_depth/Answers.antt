use Rattle.ring_nest.proofs.ByDepth.{depths_below, lists_below}
use Rattle.ring_nest.proofs.owners.trees_by_depth.Goals as goal

pub lists_of-requires : goal.lists_of-requires
lists_of-requires c = depths_below c.args.boxed.now.rings.now c.args.depths.now c.requires.depths

pub trees_of-requires : goal.trees_of-requires
trees_of-requires c = record {
  within = rw c.deref.ensures.value (lists_below c.args.boxed.now.rings.now c.args.boxed.now.boxes.now c.args.depths.now c.in_ok-lists.lists.items
      c.args.boxed.now.own c.requires.depths c.in_ok-lists.ensures);
}
