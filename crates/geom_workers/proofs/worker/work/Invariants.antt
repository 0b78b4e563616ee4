use Rattle.std.proofs.Common.{◌≡◌, ◌-◌, ◌≤◌}
use Rattle.pending_book.specs.Seat.{seat_view}
use Rattle.geom_workers.specs.Builds.{Builds}
use Rattle.geom_workers.specs.Drawn.{top}
use Rattle.geom_workers.proofs.worker.work.Given as goal

-- what the seat drew is built
abbrev pub invariant-drawing : goal.invariant-drawing
invariant-drawing g l = record {
  seat : l.seat ≡ seat_view l.book 1 l.seat.tickets l.seat.nones;
  nones : l.seat.nones ≤ 1;
  built : Builds l.style (g.L.Lookup.known l.lookup) l.pending l.seat.tickets l.part;
}

abbrev pub decreases-drawing : goal.decreases-drawing
decreases-drawing g l = l.book.tickets - top l.seat.tickets
