use Rattle.std.proofs.Common.{arith}
use Rattle.std.specs.List.{flat_map}
use Rattle.tile_cover.specs.Seen.{Sees, box_of}
use Rattle.tile_cover.specs.Tile.{lines_segments}
use Rattle.tile_cover.proofs.SeenLines.{see_step_flat, see_end_flat}
use Rattle.tile_cover.proofs.seen.see_polygons.Goals as goal

pub loop-polygon-preserved : goal.loop-polygon-preserved
loop-polygon-preserved c = see_step_flat (box_of c.args.tile)
    (lines_segments c.args.tile.columns) c.args.polygons.now c.loop-polygon.polygon-index c.polygon-item.result c.loop-polygon.now
    c.see_lines-now.result
    (λ final. Sees (box_of c.args.tile) (flat_map (lines_segments c.args.tile.columns) c.args.polygons.now) c.args.seen final)
    c.loop-polygon-test.true c.polygon-item.is
    (rw c.as_slice.ensures.items at c.see_lines-now.ensures.sees) c.loop-polygon.invariant

pub returns : goal.returns
returns c = record {
  sees = see_end_flat (box_of c.args.tile)
      (lines_segments c.args.tile.columns) c.args.polygons.now c.loop-polygon.polygon-index c.loop-polygon.now
      (λ final. Sees (box_of c.args.tile) (flat_map (lines_segments c.args.tile.columns) c.args.polygons.now) c.args.seen final)
      (omega arith) c.loop-polygon.invariant;
}
