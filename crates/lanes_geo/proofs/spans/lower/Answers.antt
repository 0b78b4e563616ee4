use Rattle.lanes_geo.proofs.Extremes.{lower_lanes}
use Rattle.lanes_geo.proofs.spans.lower.Goals as goal

pub returns : goal.returns
returns c = lower_lanes c.args.lanes c.args.others
