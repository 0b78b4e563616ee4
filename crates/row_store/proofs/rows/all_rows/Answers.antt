use Rattle.std.proofs.Common.{ap, sym, List, ℕ, length, subst}
use Rattle.std.specs.Prelude.{◌==◌}
use Rattle.row_store.proofs.RowsLaws.{HasRead, read_more, read_refused, read_all, nothing_left}
use Rattle.row_store.proofs.rows.all_rows.Goals as goal
use Rattle.value_bytes.proofs.Fronts.{needs_more}

pub returns-in-Err-clause-refused : goal.returns-in-Err-clause-refused
returns-in-Err-clause-refused c =
    needs_more c.in-Err.fault
    (read_refused c.args.tables.now c.args.bytes.now c.loop-rest.rows.items c.loop-rest.rest.now c.loop-rest.invariant
    (λ none. absurd (cc (c.loop-rest-test.ensures, ap (λ (l : List ℕ). length l == 0) none))))
    c.in-Err.ensures.refused

pub loop-rest-preserved : goal.loop-rest-preserved
loop-rest-preserved c =
    subst (λ l. HasRead c.args.tables.now c.args.bytes.now l c.in-Ok.found.1.now) (sym c.in_ok-push.ensures.items)
    (read_more c.args.tables.now c.args.bytes.now c.loop-rest.rows.items c.loop-rest.rest.now c.in-Ok.found.0 c.in-Ok.found.1.now
    c.loop-rest.invariant
    (λ none. absurd (cc (c.loop-rest-test.ensures, ap (λ (l : List ℕ). length l == 0) none))) c.in-Ok.ensures.row)

pub returns-clause-rows : goal.returns-clause-rows
returns-clause-rows c =
    read_all c.args.tables.now c.args.bytes.now c.loop-rest.rows.items
    (subst (λ l. HasRead c.args.tables.now c.args.bytes.now c.loop-rest.rows.items l)
    (nothing_left c.loop-rest.rest.now c.loop-rest-test.ensures)
    c.loop-rest.invariant)
