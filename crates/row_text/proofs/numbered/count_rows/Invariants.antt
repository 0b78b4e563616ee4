use Rattle.std.proofs.Common.{◌≡◌, length, map}
use Rattle.row_text.specs.Numbered.{rows_among}
use Rattle.row_text.proofs.numbered.count_rows.Given as goal

-- the count so far is that of the rows of the table among the spots so far
abbrev pub invariant-loop-spot : goal.invariant-loop-spot
invariant-loop-spot l = l.count ≡ length (rows_among l.table (map (λ entry. (entry.0.now, entry.1.now)) l.yielded))
