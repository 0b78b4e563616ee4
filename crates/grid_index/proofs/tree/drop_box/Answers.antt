use Rattle.grid_index.proofs.Trees.{taken_out}
use Rattle.grid_index.proofs.tree.drop_box.Goals as goal

pub returns-clause-gone : goal.returns-clause-gone
returns-clause-gone c = taken_out c.args.boxes.now c.remove.new.self c.args.spot c.remove.ensures.updates
