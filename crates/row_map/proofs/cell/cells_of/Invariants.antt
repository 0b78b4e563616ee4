use Rattle.std.proofs.Common.{◌≡◌, ◌++◌, drop, map}
use Rattle.row_rules.specs.Cell.{cell_of}
use Rattle.row_rules.specs.Material.{selecting_among}
use Rattle.row_map.proofs.cell.cells_of.Given as goal

-- the cells so far, and then those of the columns that are left
abbrev pub invariant-loop-column : goal.invariant-loop-column
invariant-loop-column g l =
    let selecting = selecting_among l.relations.selections.now (g.L.Lookup.known l.relations.lookup.now).object l.relations.ids.now in
    l.cells.items ++ map (cell_of l.relations.selections.now selecting l.tags) (drop l.column-index l.columns)
    ≡ map (cell_of l.relations.selections.now selecting l.tags) l.columns
