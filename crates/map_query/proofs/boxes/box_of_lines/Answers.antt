use Rattle.std.proofs.Common.{◌∙◌, ap, arith}
use Rattle.lanes_geo.specs.Box.{box_of}
use Rattle.map_query.specs.Answer.{joined_boxes}
use Rattle.map_query.proofs.Joined.{box_more}
use Rattle.map_query.proofs.boxes.box_of_lines.Goals as goal

pub loop-line-preserved : goal.loop-line-preserved
loop-line-preserved c =
    c.joined_boxes-around.ensures.sides ∙ ap (joined_boxes c.loop-line.around) (c.box_of.ensures.sides ∙ ap box_of c.as_slice.ensures.items)
    ∙ box_more (λ line. line) c.args.lines.now c.loop-line.line-index c.line-item.result c.loop-line.around
    (omega arith) c.line-item.is c.loop-line.invariant
