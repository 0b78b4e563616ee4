use Rattle.std.proofs.Common.{◌≡◌, ◌++◌, take}
use Rattle.std.specs.List.{AllByRecursion}
use Rattle.row_store.specs.Rows.{rows_bytes, IsTableRow}
use Rattle.row_store.proofs.rows.push_rows.Given as goal

-- the rows so far were put, and have spellings
abbrev pub invariant-loop-row : goal.invariant-loop-row
invariant-loop-row l = record {
  put : l.out.items ≡ l.fn.out.items ++ rows_bytes (take l.row-index l.rows);
  are : AllByRecursion (IsTableRow l.tables) (take l.row-index l.rows);
}
