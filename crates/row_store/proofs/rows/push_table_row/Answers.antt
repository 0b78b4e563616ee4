use Rattle.std.proofs.Common.{◌≡◌, ap, ◌∙◌, List, ℕ, ◌++◌, rules}
use Rattle.value_bytes.specs.Row.{row_bytes}
use Rattle.row_store.proofs.RowsLaws.{table_row_put}
use Rattle.row_store.proofs.rows.push_table_row.Goals as goal
use Rattle.value_bytes.specs.Numbers.{number_bytes}

pub returns-clause-ok : goal.returns-clause-ok
returns-clause-ok c =
    let same : c.from.result ≡ c.args.row.now.table = search rules in
    c.in_ok-push_row.ensures.ok ∙ ap (λ (l : List ℕ). l ++ row_bytes c.args.row.now.row) c.in_ok-push_number.ensures.ok
    ∙ ap (λ (n : ℕ). (c.args.out.now.items ++ number_bytes n) ++ row_bytes c.args.row.now.row) same
    ∙ table_row_put c.args.row.now c.args.out.now.items
