use Rattle.run_promise.proofs.CheckLaws.{checked_well, tells_no_page}
use Rattle.run_promise.proofs.laws.checks_end_well.Goals as goal

pub returns : goal.returns
returns c = record {
  no_page = λ old store kept ending comes page bad. tells_no_page old kept ending page bad store comes;
  found = λ old store kept ending comes well. checked_well old kept ending well store comes;
}
