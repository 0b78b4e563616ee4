use Rattle.run_promise.proofs.EndLaws.{cleared_well}
use Rattle.run_promise.proofs.laws.clearings_end_well.Goals as goal

pub returns : goal.returns
returns c = record { cleared = λ old store least kept ending comes well. cleared_well old ending well store least kept comes }
