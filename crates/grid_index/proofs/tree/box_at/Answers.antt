use Rattle.std.proofs.Common.{◌∙◌}
use Rattle.grid_index.proofs.Trees.{got}
use Rattle.grid_index.proofs.tree.box_at.Goals as goal

pub returns : goal.returns
returns c = record { at = c.copied.ensures ∙ c.get.ensures.value ∙ got c.args.boxes.now c.args.spot }
