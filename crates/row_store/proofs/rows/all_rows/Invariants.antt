use Rattle.std.proofs.Common.{length}
use Rattle.row_store.proofs.RowsLaws.{HasRead}
use Rattle.row_store.proofs.rows.all_rows.Given as goal

-- so far these rows were read
abbrev pub invariant-loop-rest : goal.invariant-loop-rest
invariant-loop-rest l = HasRead l.tables l.bytes l.rows.items l.rest

-- fewer bytes are left each time
abbrev pub decreases-loop-rest : goal.decreases-loop-rest
decreases-loop-rest l = length l.rest
