use Rattle.std.proofs.Common.{◌≡◌, ◌+◌, ◌++◌, drop, map}
use Rattle.std.specs.String.{string_bytes}
use Rattle.updater.specs.Blocks.{given_text}
use Rattle.run_promise.specs.Blocks.{rounds_text}
use Rattle.updater.proofs.blocks.push_rounds.Given as goal

-- what is written, and then the rounds that are left, are all
abbrev pub invariant-loop-answers : goal.invariant-loop-answers
invariant-loop-answers l =
    (l.round ≡ l.answers-index)
    × (string_bytes l.out ++ rounds_text l.reader (l.round + 1) (map given_text (drop l.answers-index l.rounds))
    ≡ string_bytes l.initial.out ++ rounds_text l.reader 1 (map given_text l.rounds))
