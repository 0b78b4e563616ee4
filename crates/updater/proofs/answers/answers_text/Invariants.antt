use Rattle.std.proofs.Common.{◌≡◌, ◌++◌, drop}
use Rattle.std.specs.String.{string_bytes}
use Rattle.run_promise.specs.Answers.{answers_text}
use Rattle.updater.proofs.answers.answers_text.Given as goal

-- what is written, and then the answers to the queries that are left, are the answers to all
abbrev pub invariant-loop-query : goal.invariant-loop-query
invariant-loop-query l =
    string_bytes l.out ++ answers_text l.style l.tables l.version (drop l.query-index l.queries)
    ≡ answers_text l.style l.tables l.version l.queries
