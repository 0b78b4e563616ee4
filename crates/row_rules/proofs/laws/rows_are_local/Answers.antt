use Rattle.row_rules.proofs.Locality.{row_from-same}
use Rattle.row_rules.proofs.laws.rows_are_local.Goals as goal

pub returns : goal.returns
returns c = record { same = row_from-same }
