use Rattle.delta_feed.proofs.Once.{comes_once}
use Rattle.delta_feed.proofs.laws.one_outcome.Goals as goal

pub returns : goal.returns
returns c = record { once = λ limits base stage number lines one other first second. comes_once limits base lines stage number one other first second }
