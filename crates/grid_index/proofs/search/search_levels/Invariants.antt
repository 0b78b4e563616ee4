use Rattle.std.proofs.Common.{ℕ, ◌<◌}
use Rattle.grid_index.specs.Grid.{boxes_in, wanted}
use Rattle.grid_index.specs.Search.{CoversLevel, IsPart, passes}
use Rattle.grid_index.proofs.search.search_levels.Given as goal

-- the levels so far are looked at
abbrev pub invariant-loop-level : goal.invariant-loop-level
invariant-loop-level l =
    IsPart (wanted (passes l.search.exact l.search.asked) (boxes_in l.search.boxes.now) l.search.table) (boxes_in l.found)
    × ((level : ℕ) → level < l.level → CoversLevel l.search.marks.now.keys l.search.table
    (wanted (passes l.search.exact l.search.asked) (boxes_in l.search.boxes.now) l.search.table)
    (boxes_in l.found) level l.cells)
