use Rattle.std.proofs.Common.{◌≡◌, length}
use Rattle.row_store.specs.Loading.{with_all}
use Rattle.row_store.proofs.loading.add_rows.Given as goal

-- the rows that are left, put among those that are there, are all of them among those that were there
abbrev pub invariant-loop-row : goal.invariant-loop-row
invariant-loop-row g l =
    with_all l.wanted l.key l.rows.items (g.F.Filled.tables l.tables)
    ≡ with_all l.wanted l.key l.fn.rows (g.F.Filled.tables l.fn.tables)

abbrev pub decreases-loop-row : goal.decreases-loop-row
decreases-loop-row g l = length l.rows.items
