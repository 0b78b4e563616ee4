use Rattle.std.proofs.Common.{◌≡◌, length}
use Rattle.geom_workers.proofs.tickets.empty_rows.Given as goal

abbrev pub invariant-loop : goal.invariant-loop
invariant-loop l = length l.all.items ≡ l.counter
