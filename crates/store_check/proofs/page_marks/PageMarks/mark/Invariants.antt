use Rattle.std.proofs.Common.{◌≡◌, ◌||◌, ◌<◌, ℕ, drop, length}
use Rattle.osm_base.specs.values.Ids.{has}
use Rattle.store_check.specs.Marks.{is_marked}
use Rattle.store_check.proofs.page_marks.PageMarks.mark.Given as goal

abbrev pub invariant-loop-page : goal.invariant-loop-page
invariant-loop-page l =
    (length l.self-inside.marks.items ≡ length l.initial.self-inside.marks.items)
    × ((page : ℕ) → page < length l.self-inside.marks.items
    → (is_marked l.self-inside.marks.items page || has (drop l.page-index l.page-items) page)
    ≡ (is_marked l.initial.self-inside.marks.items page || has l.page-items page))
