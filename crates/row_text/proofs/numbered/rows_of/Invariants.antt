use Rattle.std.proofs.Common.{◌≡◌, map}
use Rattle.row_text.specs.Numbered.{rows_among, seen}
use Rattle.row_text.proofs.numbered.rows_of.Given as goal

-- the rows so far are those of the table among the spots so far
abbrev pub invariant-loop-spot : goal.invariant-loop-spot
invariant-loop-spot l = map seen l.found.items ≡ rows_among l.table (map (λ entry. (entry.0.now, entry.1.now)) l.yielded)
