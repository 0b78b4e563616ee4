use Rattle.std.proofs.Common.{refl, subst, arith}
use Rattle.value_bytes.specs.Row.{row_bytes, IsRow}
use Rattle.row_store.proofs.RowsLaws.{table_row_front, table_row_no_number, table_row_no_table, table_row_no_row, shorter}
use Rattle.row_store.proofs.rows.front_table_row.Goals as goal
use Rattle.value_bytes.specs.Forms.{IsFront, IsFrontless}
use Rattle.value_bytes.proofs.Fronts.{needs_more}

pub returns-in_default-clause-refused : goal.returns-in_default-clause-refused
returns-in_default-clause-refused c = table_row_no_number c.args.tables.now (omega arith) c.args.bytes.now (c.in_default.ensures.none refl)

pub returns-then-table-tables-clause-refused : goal.returns-then-table-tables-clause-refused
returns-then-table-tables-clause-refused c =
    table_row_no_table c.args.tables.now (omega arith) c.args.bytes.now c.in-Some.table c.in-Some.behind.now
    (omega arith) c.in-Some.ensures.number

pub returns-in-Err-clause-refused : goal.returns-in-Err-clause-refused
returns-in-Err-clause-refused c =
    needs_more c.in-Err.fault
    (λ none. table_row_no_row c.args.tables.now (omega arith) c.args.bytes.now c.in-Some.table c.in-Some.behind.now c.in-Some.ensures.number
    (subst (λ n. IsFrontless row_bytes (IsRow n) c.in-Some.behind.now) c.columns_of-columns.ensures.columns none))
    c.in-Err.ensures.refused

pub returns-clause-row : goal.returns-clause-row
returns-clause-row c =
    table_row_front c.args.tables.now (omega arith) c.args.bytes.now c.in-Some.table c.in-Some.behind.now c.in-Ok.found.0
    c.in-Ok.found.1.now
    (omega arith) c.in-Some.ensures.number
    (subst (λ n. IsFront row_bytes (IsRow n) c.in-Some.behind.now c.in-Ok.found.0 c.in-Ok.found.1.now) c.columns_of-columns.ensures.columns
    c.in-Ok.ensures.row)

pub returns-clause-shorter : goal.returns-clause-shorter
returns-clause-shorter c =
    shorter c.args.bytes.now c.in-Some.table c.in-Some.behind.now c.in-Ok.found.0 c.in-Ok.found.1.now c.columns_of-columns.result
    c.in-Some.ensures.number c.in-Ok.ensures.row
