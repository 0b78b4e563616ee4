use Rattle.update_flow.proofs.SourceLaws.{all_held}
use Rattle.update_flow.proofs.laws.a_follower_holds_its_source.Goals as goal

pub returns : goal.returns
returns c = record {
  holds = λ source blocks state are holds. all_held source blocks state are holds;
  appended = λ style old new number delta is. is.changes.applied;
}
