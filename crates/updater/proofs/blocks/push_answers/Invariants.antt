use Rattle.std.proofs.Common.{◌≡◌, ◌++◌, drop}
use Rattle.std.specs.String.{string_bytes}
use Rattle.updater.specs.Blocks.{given_text}
use Rattle.updater.proofs.blocks.push_answers.Given as goal

-- what is written, and then the answers that are left, are all
abbrev pub invariant-loop-given : goal.invariant-loop-given
invariant-loop-given l = string_bytes l.out ++ given_text (drop l.given-index l.answers) ≡ string_bytes l.initial.out
    ++ given_text l.answers
