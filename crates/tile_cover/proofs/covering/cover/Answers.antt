use Rattle.std.proofs.Common.{◌∷◌, []}
use Rattle.tile_cover.proofs.Sweeps.{covered}
use Rattle.tile_cover.proofs.covering.cover.Goals as goal

pub returns-in-Some : goal.returns-in-Some
returns-in-Some c = record {
  tiles = λ zoom x y. rw (c.in_ok-runs_of.ensures.tiles zoom x y, c.zoom.ensures.zoom)
      (covered c.args.bounds.now c.args.geometry.now c.args.mode c.counts_filled-filled.result
      (c.in-Some.event ∷ []) c.counts_filled-filled.ensures
      c.in-Some.ensures.gains (c.in-Some.ensures.event, tt) zoom x y);
}

pub returns : goal.returns
returns c = record {
  tiles = λ zoom x y. rw (c.in_ok-runs_of-2.ensures.tiles zoom x y, c.zoom-2.ensures.zoom, c.deref.ensures.value)
      (covered c.args.bounds.now c.args.geometry.now c.args.mode c.counts_filled-filled.result c.in_ok-events.events.items
      c.counts_filled-filled.ensures
      c.in_ok-events.ensures.gains c.in_ok-events.ensures.events zoom x y);
}
