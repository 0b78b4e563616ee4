use Rattle.std.proofs.Common.{◌≡◌}
use Rattle.examples_threads.proofs.books.draw_often.Given as goal

abbrev pub invariant-loop : goal.invariant-loop
invariant-loop l = (l.seat.book ≡ l.book) × (l.seat.share ≡ l.initial.seat.share)
