use Rattle.std.proofs.Common.{ℕ, ◌≤◌, ◌<◌}
use Rattle.std.specs.Option.{IsSome}
use Rattle.std.specs.FinMap as map
use Rattle.page_journal.proofs.page_set.PageSet.has_all.Given as goal

abbrev pub invariant-loop-page : goal.invariant-loop-page
invariant-loop-page l = (n : ℕ) → l.from ≤ n → n < l.page → IsSome (map.get l.self n)
