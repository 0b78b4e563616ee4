use Rattle.run_promise.proofs.EndLaws.{followed_well}
use Rattle.run_promise.proofs.laws.follows_end_well.Goals as goal

pub returns : goal.returns
returns c = record { followed = λ old store files kept ending comes well. followed_well old ending well store files kept comes }
