use Rattle.std.proofs.Common.{arith}
use Rattle.std.specs.List.{flat_map}
use Rattle.tile_cover.specs.Seen.{Sees, box_of}
use Rattle.tile_cover.specs.Tile.{line_segments}
use Rattle.tile_cover.proofs.SeenLines.{see_step_flat, see_end_flat}
use Rattle.tile_cover.proofs.seen.see_lines.Goals as goal

pub loop-line-preserved : goal.loop-line-preserved
loop-line-preserved c = see_step_flat (box_of c.args.tile)
    (line_segments c.args.tile.columns) c.args.lines.now c.loop-line.line-index c.line-item.result c.loop-line.now c.see_line-now.result
    (λ final. Sees (box_of c.args.tile) (flat_map (line_segments c.args.tile.columns) c.args.lines.now) c.args.seen final)
    c.loop-line-test.true c.line-item.is
    (rw c.as_slice.ensures.items at c.see_line-now.ensures.sees) c.loop-line.invariant

pub returns : goal.returns
returns c = record {
  sees = see_end_flat (box_of c.args.tile) (line_segments c.args.tile.columns) c.args.lines.now c.loop-line.line-index c.loop-line.now
      (λ final. Sees (box_of c.args.tile) (flat_map (line_segments c.args.tile.columns) c.args.lines.now) c.args.seen final)
      (omega arith) c.loop-line.invariant;
}
