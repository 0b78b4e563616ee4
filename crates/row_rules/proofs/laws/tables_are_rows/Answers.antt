use Rattle.row_rules.proofs.TableMap.{get-tables}
use Rattle.row_rules.proofs.laws.tables_are_rows.Goals as goal

pub returns : goal.returns
returns c = record { spot = get-tables }
