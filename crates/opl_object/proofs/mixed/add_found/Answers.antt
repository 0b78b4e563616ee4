use Rattle.opl_object.proofs.MixedTags.{found_more}
use Rattle.opl_object.proofs.mixed.add_found.Goals as goal

pub loop-piece-preserved : goal.loop-piece-preserved
loop-piece-preserved c =
    found_more c.args.found.now c.loop-piece.piece-index _ c.args.list.now c.loop-piece.list c.add_piece.new.list c.loop-piece-test.true
    c.loop-piece.invariant c.in-Ok.ensures.tags
