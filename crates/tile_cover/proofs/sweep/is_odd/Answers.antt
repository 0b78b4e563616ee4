use Rattle.tile_cover.proofs.Sweeps.{early_odd, told_odd}
use Rattle.tile_cover.proofs.sweep.is_odd.Goals as goal

pub returns-then-event-row : goal.returns-then-event-row
returns-then-event-row c = record {
  odd = told_odd c.loop-event.odd _ _ c.loop-event.invariant
      (early_odd c.args.row c.loop-event.event-index _ c.args.events.now c.loop-event-test.true c.if-event-row.true c.requires.row
      c.requires.events c.requires.rising);
}
