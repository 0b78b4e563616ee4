use Rattle.std.proofs.Common.{◌≡◌, ◌<◌, ◌≤◌, ◌++◌, ◌∷◌, [], ℕ, List}
use Rattle.std.specs.Prelude.{All}
use Rattle.pending_book.specs.Seat.{seat_view}
use Rattle.geom_workers.specs.Drawn.{top}
use Rattle.geom_workers.proofs.worker.draw_more.Given as goal

-- the batch is what the seat drew since
abbrev pub invariant-loop : goal.invariant-loop
invariant-loop g l = record {
  seat : l.seat ≡ seat_view l.book 1 l.seat.tickets 0;
  small : All (λ ticket. ticket < l.book.tickets) l.batch.items;
  drawn : (before : List ℕ) → l.initial.seat.tickets ≡ before ++ l.first ∷ [] → l.seat.tickets ≡ before ++ l.batch.items;
  behind : top l.initial.seat.tickets ≤ top l.seat.tickets;
}
