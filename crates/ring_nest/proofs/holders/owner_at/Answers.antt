use Rattle.std.proofs.lemmas.List.{length-map}
use Rattle.lanes_geo.specs.Nesting.{depth, ring_at}
use Rattle.ring_nest.proofs.Filled.{inner_owner_is}
use Rattle.ring_nest.proofs.Owned.{holders_below, kept_is}
use Rattle.ring_nest.proofs.holders.owner_at.Goals as goal

pub owner_of-requires-clause-within : goal.owner_of-requires-clause-within
owner_of-requires-clause-within c =
    let rings = c.args.tree.now.rings.now in
    let tree = c.args.tree.now.root.now in
    let few = kept_is rings tree c.args.holders.now.few.items c.args.at c.index.result.now c.in-Some.few c.requires.holders.few
    c.requires.within c.index.ensures c.in-Some.is in
    rw (c.as_slice.ensures.items, c.deref.ensures.value, c.requires.holders.depths, length-map rings (depth rings), few)
    (holders_below rings tree (ring_at rings c.args.at) c.args.tree.now.whole)

pub returns-in-Some : goal.returns-in-Some
returns-in-Some c =
    let rings = c.args.tree.now.rings.now in
    let tree = c.args.tree.now.root.now in
    let few = kept_is rings tree c.args.holders.now.few.items c.args.at c.index.result.now c.in-Some.few c.requires.holders.few
    c.requires.within c.index.ensures c.in-Some.is in
    let least = rw (c.as_slice.ensures.items, c.deref.ensures.value, few) at c.owner_of.ensures in
    record {
      owner = inner_owner_is rings tree c.args.holders.now.depths.items c.args.at c.index-depth.result.now c.owner_of.result c.args.tree.now.whole
          c.requires.holders.depths c.requires.within c.index-depth.ensures c.if-depth-eq0.false least;
    }

pub owner_of-requires-2-clause-within : goal.owner_of-requires-2-clause-within
owner_of-requires-2-clause-within c =
    let rings = c.args.tree.now.rings.now in
    let tree = c.args.tree.now.root.now in
    rw (c.deref-2.ensures.value, c.deref-3.ensures.value, c.in_ok-all.ensures.holders, c.requires.holders.depths, length-map rings (depth rings))
    (holders_below rings tree (ring_at rings c.args.at) c.args.tree.now.whole)

pub returns : goal.returns
returns c =
    let rings = c.args.tree.now.rings.now in
    let tree = c.args.tree.now.root.now in
    let least = rw (c.deref-2.ensures.value, c.deref-3.ensures.value, c.in_ok-all.ensures.holders) at c.owner_of-2.ensures in
    record {
      owner = inner_owner_is rings tree c.args.holders.now.depths.items c.args.at c.index-depth.result.now c.owner_of-2.result c.args.tree.now.whole
          c.requires.holders.depths c.requires.within c.index-depth.ensures c.if-depth-eq0.false least;
    }
