use Rattle.std.proofs.Common.{◌+◌, ◌*◌}
use Rattle.tile_cover.proofs.Sweeps.{stands_from}
use Rattle.tile_cover.proofs.sweep.add_event.Goals as goal

pub add-requires-clause-later : goal.add-requires-clause-later
add-requires-clause-later c =
    c.requires.before (record { zoom = c.args.zoom; y = c.args.cursor.row; first = c.from_of-first.result; last = c.args.event.span.last })
    (rw c.from_of-first.ensures (stands_from c.args.filled c.args.cursor c.args.event ((c.args.zoom * 65536 + c.args.cursor.row) * 131072)))
