use Rattle.std.proofs.Common.{ap, ◌∙◌, List, ℕ, ◌++◌}
use Rattle.value_bytes.proofs.WholeRowLaws.{cells_bytes, row_put}
use Rattle.value_bytes.proofs.row.push_row.Goals as goal
use Rattle.value_bytes.specs.Rows.{geometry_bytes}

pub returns-clause-ok : goal.returns-clause-ok
returns-clause-ok c =
    c.in_ok-push_to.ensures.ok
    ∙ ap (λ (l : List ℕ). l ++ geometry_bytes c.args.row.now.geometry) c.in_ok-push_many.ensures.ok
    ∙ ap (λ l. (c.args.out.now.items ++ cells_bytes l) ++ geometry_bytes c.args.row.now.geometry) c.as_slice.ensures.items
    ∙ row_put c.args.row.now c.args.out.now.items
