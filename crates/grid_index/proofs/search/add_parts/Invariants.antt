use Rattle.grid_index.specs.Grid.{boxes_in, wanted}
use Rattle.grid_index.specs.Search.{passes}
use Rattle.grid_index.proofs.Walks.{Walked}
use Rattle.grid_index.proofs.search.add_parts.Given as goal

-- the marks so far are looked at
abbrev pub invariant-loop-mark : goal.invariant-loop-mark
invariant-loop-mark l =
    Walked (wanted (passes l.search.exact l.search.asked) (boxes_in l.search.boxes.now) l.search.table) (boxes_in l.initial.found)
    (boxes_in l.found) l.search.table l.yielded
