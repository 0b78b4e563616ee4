use Rattle.run_promise.proofs.TurnLaws.{in_turn_from}
use Rattle.run_promise.proofs.laws.faults_come_in_turn.Goals as goal

pub returns : goal.returns
returns c = record { turn = in_turn_from }
