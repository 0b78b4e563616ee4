use Rattle.store_check.proofs.FindsLaws.{finds_err, finds_here}
use Rattle.store_check.proofs.row_records.wrong_of_rows.Goals as goal

pub returns-then-not-is_node_rows-clause-others : goal.returns-then-not-is_node_rows-clause-others
returns-then-not-is_node_rows-clause-others g c = finds_here
    (λ rest had is style nodes ways relations tells bytes kept.
    c.wrong_of_none.ensures.found style rest nodes ways relations tells bytes kept)

pub returns-in-Err-clause-others : goal.returns-in-Err-clause-others
returns-in-Err-clause-others g c = finds_err c.in-Err.ensures.found

pub returns-in-Ok-clause-nodes : goal.returns-in-Ok-clause-nodes
returns-in-Ok-clause-nodes g c is rest had style nodes ways relations tells bytes kept =
    c.in-Ok.ensures.found.so rest had style c.args.held.now nodes ways relations tells bytes kept
