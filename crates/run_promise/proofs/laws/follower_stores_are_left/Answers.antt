use Rattle.run_promise.proofs.FollowerLaws.{leaves_follower}
use Rattle.run_promise.proofs.laws.follower_stores_are_left.Goals as goal

pub returns : goal.returns
returns c = record { left = leaves_follower }
