use Rattle.std.proofs.Common.{◌≡◌, ◌<◌, ◌≤◌, ◌-◌, ℕ, length, true}
use Rattle.store_check.specs.Marks.{is_marked}
use Rattle.store_check.proofs.page_marks.PageMarks.first_left.Given as goal

abbrev pub invariant-loop-page : goal.invariant-loop-page
invariant-loop-page l = (2 ≤ l.page) × ((other : ℕ) → 2 ≤ other → other < l.page → is_marked l.self-inside.marks.items other ≡ true)

abbrev pub decreases-loop-page : goal.decreases-loop-page
decreases-loop-page l = length l.self-inside.marks.items - l.page
