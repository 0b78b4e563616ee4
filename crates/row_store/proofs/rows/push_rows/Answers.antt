use Rattle.std.proofs.Common.{sym, ap, ◌∙◌, List, ℕ, ◌++◌, take, append_assoc}
use Rattle.row_store.specs.Rows.{table_row_bytes, rows_bytes, IsTableRow}
use Rattle.row_store.proofs.RowsLaws.{row_spelled, fits_at}
use Rattle.row_store.proofs.rows.push_rows.Goals as goal
use Rattle.value_bytes.proofs.ListLaws.{bytes_more, each_more}

pub loop-row-preserved : goal.loop-row-preserved
loop-row-preserved c =
    let rows = c.args.rows.now in
    let tables = c.args.tables.now in
    let place = c.loop-row.row-index in
    let row = c.row-item.result in
    record {
      put = c.in_ok-push_table_row.ensures.ok ∙ ap (λ (l : List ℕ). l ++ table_row_bytes row) c.loop-row.invariant.put
          ∙ append_assoc c.args.out.now.items (rows_bytes (take place rows)) (table_row_bytes row)
          ∙ ap (λ (l : List ℕ). c.args.out.now.items ++ l)
          (sym (bytes_more table_row_bytes rows place row c.loop-row-test.true c.row-item.is));
      are = each_more (IsTableRow tables) rows place row c.loop-row-test.true c.row-item.is c.loop-row.invariant.are
          (row_spelled tables row (fits_at tables rows place row c.requires c.loop-row-test.true c.row-item.is)
          c.in_ok-push_table_row.ensures.is);
    }
