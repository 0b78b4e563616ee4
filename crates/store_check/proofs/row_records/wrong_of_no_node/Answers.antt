use Rattle.std.proofs.Common.{refl, sym, ◌∙◌}
use Rattle.store_check.proofs.FindsLaws.{finds_err, finds_ok}
use Rattle.store_check.proofs.RowFound.{node_missing, node_there}
use Rattle.store_check.proofs.row_records.wrong_of_no_node.Goals as goal

pub returns-in-Ok-Some : goal.returns-in-Ok-Some
returns-in-Ok-Some g c = record {
  found = finds_ok c.in-Ok-Some.ensures.found (λ rest had is style own nodes ways relations tells bytes kept none.
      absurd (node_there style rest nodes ways relations own tells c.args.id c.in-Ok-Some.field-0-0
      (sym c.in-Ok-Some.field-0-is ∙ is) none));
}

pub returns-in-Ok-None : goal.returns-in-Ok-None
returns-in-Ok-None g c = record {
  found = finds_ok c.in-Ok-None.ensures.found (λ rest had is style own nodes ways relations tells bytes kept. (
    refl,
    node_missing style rest nodes ways relations own tells c.args.id bytes kept (sym c.in-Ok-None.field-0-is ∙ is),
  ));
}

pub returns : goal.returns
returns g c = record { found = finds_err c.in-Err.ensures.found }
