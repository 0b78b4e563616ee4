use Rattle.lanes_geo.proofs.Marks.{between_mask}
use Rattle.lanes_geo.proofs.boxes.sides_between.Goals as goal

pub returns : goal.returns
returns c = between_mask c.args.least c.args.sides c.args.most c.requires.1 c.requires.0 c.requires.2
