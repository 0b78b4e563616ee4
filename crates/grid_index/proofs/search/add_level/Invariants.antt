use Rattle.grid_index.specs.Grid.{boxes_in, wanted}
use Rattle.grid_index.specs.Search.{passes}
use Rattle.grid_index.proofs.Walks.{Levelled}
use Rattle.grid_index.proofs.search.add_level.Given as goal

-- the columns so far are looked at
abbrev pub invariant-loop-column : goal.invariant-loop-column
invariant-loop-column l =
    Levelled l.fn.search.marks.now.keys l.fn.search.table
    (wanted (passes l.fn.search.exact l.fn.search.asked) (boxes_in l.fn.search.boxes.now) l.fn.search.table)
    (boxes_in l.initial.found) (boxes_in l.found) l.fn.level l.fn.cells l.column
