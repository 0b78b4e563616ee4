use Rattle.std.proofs.Common.{◌≡◌, drop}
use Rattle.store_maps.specs.Delta.{row_in}
use Rattle.update_step.proofs.turns.find_row.Given as goal

-- none of the rows so far is of the table
abbrev pub invariant-loop-own : goal.invariant-loop-own
invariant-loop-own l = row_in (drop l.own-index l.rows) l.table ≡ row_in l.rows l.table
