use Rattle.row_rules.proofs.Unwanted.{row_from-unwanted}
use Rattle.row_rules.proofs.laws.unwanted_has_no_row.Goals as goal

pub returns : goal.returns
returns c = record { none = row_from-unwanted }
