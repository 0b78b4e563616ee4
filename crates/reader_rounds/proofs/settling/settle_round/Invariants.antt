use Rattle.std.proofs.Common.{◌≡◌, ◌+◌, ◌++◌, drop, length}
use Rattle.std.specs.Vec.Iter.{into_iter_items}
use Rattle.reader_rounds.specs.Settling.{all_last_or_given}
use Rattle.reader_rounds.proofs.settling.settle_round.Given as goal

-- what is given, and then what will be of the answers that are left, are all
abbrev pub invariant-loop-own : goal.invariant-loop-own
invariant-loop-own l =
    (l.index + length (into_iter_items l.own-iterator) ≡ length l.queries)
    × (l.given ++ all_last_or_given l.style l.tables l.version (drop l.index l.queries) (into_iter_items l.own-iterator)
    ≡ all_last_or_given l.style l.tables l.version l.queries l.fn.round)
