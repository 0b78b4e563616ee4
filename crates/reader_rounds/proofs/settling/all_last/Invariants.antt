use Rattle.std.proofs.Common.{◌≡◌, map, replicate}
use Rattle.reader_rounds.specs.Settling.{answered}
use Rattle.reader_rounds.proofs.settling.all_last.Given as goal

abbrev pub invariant-loop : goal.invariant-loop
invariant-loop l = l.given ≡ replicate l.counter (map (answered l.style l.tables l.version) l.queries)
