use Rattle.tile_cover.proofs.Pushes.{IsTileSet-append}
use Rattle.tile_cover.proofs.runs.TileRuns.push.Goals as goal

pub invariant_of-self-2 : goal.invariant_of-self-2
invariant_of-self-2 c = rw c.in_ok-push.ensures.items
    (IsTileSet-append c.self.inside.runs.items c.args.run c.self.invariant c.requires.run (rw (← c.self.view_is) at c.requires.apart))
