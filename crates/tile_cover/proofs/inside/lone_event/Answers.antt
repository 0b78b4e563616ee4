use Rattle.std.proofs.Common.{refl}
use Rattle.tile_cover.proofs.Lone.{lone_gains}
use Rattle.tile_cover.proofs.inside.lone_event.Goals as goal

pub returns-clause-gains : goal.returns-clause-gains
returns-clause-gains c =
    let near = c.tile_near-row.ensures.tile in
    lone_gains c.args.bounds.now c.tile_near-row.result.1.x c.tile_near-row.result.0 c.args.geometry.now near.whole near.within
    c.in_ok-start.ensures.some
    (rw (near.columns, near.sides) at (c.if-not-are_inside.ensures.inside.0 refl))
