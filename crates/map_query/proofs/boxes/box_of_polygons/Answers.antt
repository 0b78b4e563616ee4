use Rattle.std.proofs.Common.{◌∙◌, ap, arith}
use Rattle.lanes_geo.specs.Box.{box_of}
use Rattle.map_query.specs.Answer.{joined_boxes, line_places}
use Rattle.map_query.proofs.Joined.{box_more}
use Rattle.map_query.proofs.boxes.box_of_polygons.Goals as goal

pub loop-rings-preserved : goal.loop-rings-preserved
loop-rings-preserved c =
    c.joined_boxes-around.ensures.sides ∙ ap (joined_boxes c.loop-rings.around)
    (c.box_of_lines.ensures.sides ∙ ap (λ lines. box_of (line_places lines)) c.as_slice.ensures.items)
    ∙ box_more line_places c.args.polygons.now c.loop-rings.rings-index c.rings-item.result c.loop-rings.around
    (omega arith) c.rings-item.is c.loop-rings.invariant
