use Rattle.std.proofs.Common.{arith}
use Rattle.tile_cover.specs.Seen.{Sees, box_of}
use Rattle.tile_cover.specs.Tile.{line_segments}
use Rattle.tile_cover.proofs.SeenLines.{see_step_line, see_end_line}
use Rattle.tile_cover.proofs.seen.see_line.Goals as goal

pub loop-at-preserved : goal.loop-at-preserved
loop-at-preserved c = record {
  within = omega arith;
  sees = see_step_line (box_of c.args.tile) c.args.tile.columns c.args.places.now c.loop-at.at c.index-places-at.result
      c.index-places-at-in-loop-at.result
      c.loop-at.now c.see_segment-now.result (λ final.
      Sees (box_of c.args.tile) (line_segments c.args.tile.columns c.args.places.now) c.args.seen final)
      (omega arith) c.index-places-at.is c.index-places-at-in-loop-at.is c.see_segment-now.ensures.sees c.loop-at.invariant.sees;
}

pub returns : goal.returns
returns c = record {
  sees = see_end_line (box_of c.args.tile) c.args.tile.columns c.args.places.now c.loop-at.at c.loop-at.now
      (λ final. Sees (box_of c.args.tile) (line_segments c.args.tile.columns c.args.places.now) c.args.seen final)
      (omega arith) c.loop-at.invariant.sees;
}
