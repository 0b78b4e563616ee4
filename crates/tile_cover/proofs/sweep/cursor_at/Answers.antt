use Rattle.tile_cover.proofs.Sweeps.{rows_first}
use Rattle.tile_cover.proofs.sweep.cursor_at.Goals as goal

pub is_odd-requires-clause-row : goal.is_odd-requires-clause-row
is_odd-requires-clause-row c = rows_first c.args.event c.args.events.now c.requires.some c.requires.first c.requires.events
    c.requires.rising
