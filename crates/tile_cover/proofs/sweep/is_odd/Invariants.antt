use Rattle.std.proofs.Common.{◌≡◌, drop, cond, not}
use Rattle.tile_cover.specs.Sweep.{is_odd_row}
use Rattle.tile_cover.proofs.sweep.is_odd.Given as goal

-- those so far, and those that are left
abbrev pub invariant-loop-event : goal.invariant-loop-event
invariant-loop-event l = cond l.odd (not (is_odd_row l.row (drop l.event-index l.events))) (is_odd_row l.row (drop l.event-index l.events))
    ≡ is_odd_row l.row l.events
