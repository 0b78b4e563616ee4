use Rattle.std.proofs.Common.{◌+◌, ◌*◌, ◌++◌, ◌∷◌, [], ◌∙◌, arith}
use Rattle.due_tiles.proofs.Numbers.{row_more}
use Rattle.due_tiles.proofs.tile_numbers.add_row.Goals as goal

pub loop-x-preserved : goal.loop-x-preserved
loop-x-preserved c = λ number.
    row_more c.loop-x.numbers.items c.push.new.self.items c.args.numbers.now.items c.args.side c.args.y c.args.first c.loop-x.x number
    c.requires.row (omega arith)
    (c.in_ok-push.ensures.items ∙ (λ i. c.loop-x.numbers.items ++ (c.from.ensures i * c.args.side + c.from-in-loop-x.ensures i) ∷ []))
    (c.loop-x.invariant number)
