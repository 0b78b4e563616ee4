use Rattle.std.proofs.Common.{ℕ, ◌≤◌, ◌<◌, length}
use Rattle.page_journal.specs.PageSet.{number_at, plain}
use Rattle.page_journal.proofs.page_set.are_within.Given as goal

abbrev pub invariant-loop-number : goal.invariant-loop-number
invariant-loop-number l = record {
  can : (goal.iterator-loop-number).can_next l.number-iterator;
  finite : (goal.iterator-loop-number).is_finite l.number-iterator;
  within : (place : ℕ) → place < length l.yielded
      → (1 ≤ number_at (plain l.pages.entries) place) × (number_at (plain l.pages.entries) place < l.home);
}
