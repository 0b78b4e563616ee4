use Rattle.std.proofs.Common.{◌≡◌, ◌++◌, drop}
use Rattle.std.specs.Prelude.{flat_map, codes}
use Rattle.row_text.specs.Row.{cell_text}
use Rattle.std.specs.String.{string_bytes}
use Rattle.row_text.proofs.row.push_cells.Given as goal

-- what is written, and then the text of the cells that are left, is the text of all
abbrev pub invariant-loop-cell : goal.invariant-loop-cell
invariant-loop-cell l =
    string_bytes l.out ++ flat_map (λ cell. codes "\t" ++ cell_text cell) (drop l.cell-index l.cells)
    ≡ string_bytes l.initial.out ++ flat_map (λ cell. codes "\t" ++ cell_text cell) l.cells
