use Rattle.std.proofs.Common.{◌≡◌, map, take}
use Rattle.reader_rounds.specs.Settling.{answered}
use Rattle.reader_rounds.proofs.settling.round_last.Given as goal

abbrev pub invariant-loop-query : goal.invariant-loop-query
invariant-loop-query l = l.given ≡ map (answered l.style l.tables l.version) (take l.query-index l.queries)
