use Rattle.run_promise.proofs.EndLaws.{fed_well}
use Rattle.run_promise.proofs.laws.feeds_end_well.Goals as goal

pub returns : goal.returns
returns c = record {
  fed = λ old store files full workers kept ending comes well. fed_well old ending well store files full workers kept comes;
}
