use Rattle.std.proofs.Common.{◌≡◌, ◌++◌, map}
use Rattle.std.specs.List.{concat}
use Rattle.tag_rows.proofs.rows_by_id.RowsById.text.Given as goal

-- the rows so far are put one behind another
abbrev pub invariant-loop-row : goal.invariant-loop-row
invariant-loop-row l = record {
  so_far : l.text.items ≡ concat (map (λ row. row.now) l.yielded);
  all : l.initial.row-iterator ≡ map (λ row. row.now) l.yielded ++ l.row-iterator;
}
