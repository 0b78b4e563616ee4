use Rattle.std.proofs.Common.{None, Some, sym, take}
use Rattle.ring_nest.proofs.Filled.{inner_is, owner_of_inner, slot_of}
use Rattle.ring_nest.proofs.Held.{next_of}
use Rattle.ring_nest.proofs.polygons.add_ring.Goals as goal

pub slot_at-requires : goal.slot_at-requires
slot_at-requires c =
    let rings = c.args.deep.now.rings.now in
    let ring = c.index-deep-at.result in
    let inner = inner_is rings c.args.deep.now.depths.now c.args.at ring c.args.deep.now.own c.requires.at c.index-deep-at.is c.if-depth-eq0.false in
    let owned = owner_of_inner rings c.args.owners.now c.args.at ring (Some c.in-Some.number) None c.requires.owners c.requires.at
    c.index-deep-at.is inner c.in-Some.is in
    let slot = slot_of rings (take c.args.at rings) ring c.args.deep.now.depths.now c.args.slots.now c.in-Some.number c.args.deep.now.own
    c.requires.slots inner owned in
    slot.0

pub add_inner-requires : goal.add_inner-requires
add_inner-requires c =
    let rings = c.args.deep.now.rings.now in
    let ring = c.index-deep-at.result in
    let inner = inner_is rings c.args.deep.now.depths.now c.args.at ring c.args.deep.now.own c.requires.at c.index-deep-at.is c.if-depth-eq0.false in
    let owned = owner_of_inner rings c.args.owners.now c.args.at ring (Some c.in-Some.number) None c.requires.owners c.requires.at
    c.index-deep-at.is inner c.in-Some.is in
    let slot = slot_of rings (take c.args.at rings) ring c.args.deep.now.depths.now c.args.slots.now c.in-Some.number c.args.deep.now.own
    c.requires.slots inner owned in
    rw (c.slot_at.ensures, c.requires.so_far) slot.1.within

pub returns-in_ok-add_inner-in-Some-clause-added : goal.returns-in_ok-add_inner-in-Some-clause-added
returns-in_ok-add_inner-in-Some-clause-added c placed =
    let rings = c.args.deep.now.rings.now in
    let ring = c.index-deep-at.result in
    let inner = inner_is rings c.args.deep.now.depths.now c.args.at ring c.args.deep.now.own c.requires.at c.index-deep-at.is c.if-depth-eq0.false in
    let owned = owner_of_inner rings c.args.owners.now c.args.at ring (Some c.in-Some.number) None c.requires.owners c.requires.at
    c.index-deep-at.is inner c.in-Some.is in
    let slot = slot_of rings (take c.args.at rings) ring c.args.deep.now.depths.now c.args.slots.now c.in-Some.number c.args.deep.now.own
    c.requires.slots inner owned in
    rw (
      c.in_ok-add_inner-in-Some.ensures,
      c.slot_at.ensures,
      c.requires.so_far,
      c.in_ok-copy-in-Some.ensures.equal,
      next_of rings c.args.at ring c.requires.at,
      ← c.index-deep-at.is,
    )
    (sym slot.1.change)
