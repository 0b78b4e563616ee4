use Rattle.std.proofs.Common.{◌≡◌, ◌++◌, length, map}
use Rattle.std.specs.List.{AllByRecursion}
use Rattle.std.specs.Vec.Iter.{into_iter_items}
use Rattle.reader_rounds.specs.Settling.{HasLength, all_last_or_given}
use Rattle.reader_rounds.proofs.settling.settle_rounds.Given as goal

-- what is given, and then what will be of the rounds that are left, are all
abbrev pub invariant-loop-round : goal.invariant-loop-round
invariant-loop-round l =
    (l.given ++ map (all_last_or_given l.style l.tables l.version l.queries) (into_iter_items l.round-iterator)
    ≡ map (all_last_or_given l.style l.tables l.version l.queries) l.fn.rounds)
    × AllByRecursion (HasLength (length l.queries)) (into_iter_items l.round-iterator)
