use Rattle.run_promise.proofs.EndLaws.{appended_well}
use Rattle.run_promise.proofs.laws.appends_end_well.Goals as goal

pub returns : goal.returns
returns c = record {
  appended = λ old store files ahead workers kept ending comes well.
      appended_well old ending well store files ahead workers kept comes;
}
