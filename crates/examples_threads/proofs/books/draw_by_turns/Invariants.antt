use Rattle.std.proofs.Common.{◌≡◌}
use Rattle.examples_threads.proofs.books.draw_by_turns.Given as goal

abbrev pub invariant-loop : goal.invariant-loop
invariant-loop l =
    ((l.first.book ≡ l.book) × (l.first.share ≡ l.initial.first.share))
    × ((l.second.book ≡ l.book) × (l.second.share ≡ l.initial.second.share))
