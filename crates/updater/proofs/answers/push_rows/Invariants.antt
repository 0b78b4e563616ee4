use Rattle.std.proofs.Common.{◌≡◌, ◌++◌, drop}
use Rattle.std.specs.String.{string_bytes}
use Rattle.run_promise.specs.Answers.{rows_text}
use Rattle.updater.proofs.answers.push_rows.Given as goal

-- what is written, and then the lines of the rows that are left, are the lines of all
abbrev pub invariant-loop-own : goal.invariant-loop-own
invariant-loop-own l = string_bytes l.out ++ rows_text (drop l.own-index l.rows) ≡ string_bytes l.initial.out ++ rows_text l.rows
