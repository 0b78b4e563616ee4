use Rattle.std.proofs.Common.{◌<◌, ◌-◌, arith, get_or, length}
use Rattle.ring_nest.proofs.ByDepth.{depth_at, owner_in_tree}
use Rattle.ring_nest.proofs.owners.owner_at.Goals as goal

pub tree_with-requires : goal.tree_with-requires
tree_with-requires c =
    let low = depth_at c.args.deep.now.rings.now c.args.deep.now.depths.now c.args.at c.args.deep.now.own c.requires.within in
    let long = c.requires.trees.long in
    omega (arith, low, long)

pub returns : goal.returns
returns c =
    let rings = c.args.deep.now.rings.now in
    let depths = c.args.deep.now.depths.now in
    let deep = get_or depths c.args.at 0 in
    let low = depth_at rings depths c.args.at c.args.deep.now.own c.requires.within in
    let long = c.requires.trees.long in
    let within : deep - 1 < length c.args.trees.now = omega (arith, low, long) in
    let tree = c.tree_with.result.now in
    let held = c.requires.trees.each (deep - 1) tree within c.tree_with.ensures in
    let least = rw (c.deref.ensures.value, c.in_ok-add_holders.ensures, c.new-found.ensures.items) at c.least_of.ensures in
    record { owner = owner_in_tree rings depths c.args.at tree c.least_of.result c.args.deep.now.own c.requires.within c.if-depth-eq0.false held.all least }
