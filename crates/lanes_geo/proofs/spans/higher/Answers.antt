use Rattle.std.proofs.Common.{◌∙◌, sym}
use Rattle.lanes_geo.proofs.Extremes.{higher_lanes}
use Rattle.lanes_geo.proofs.spans.higher.Goals as goal

pub returns : goal.returns
returns c = higher_lanes c.args.lanes c.args.others (c.requires.0 ∙ sym c.requires.1)
