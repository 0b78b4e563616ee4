use Rattle.grid_index.proofs.Trees.{put_in}
use Rattle.grid_index.proofs.tree.set_box.Goals as goal

pub returns-clause-ok : goal.returns-clause-ok
returns-clause-ok c = put_in c.args.boxes.now c.insert.new.self c.args.spot c.args.around c.in_ok-insert.ensures.updates
