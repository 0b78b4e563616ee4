use Rattle.std.proofs.Common.{◌≡◌}
use Rattle.examples_threads.proofs.machine.play_all.Given as goal

abbrev pub invariant-loop : goal.invariant-loop
invariant-loop l = (l.first.book ≡ l.book) × (l.second.book ≡ l.book)
