use Rattle.std.proofs.Common.{arith, ◌∙◌, ◌^◌}
use Rattle.std.specs.List.{flat_map}
use Rattle.tile_cover.specs.Events.{Gains}
use Rattle.tile_cover.specs.Tile.{lines_segments}
use Rattle.tile_cover.proofs.Lines.{step_flat, end_flat}
use Rattle.tile_cover.proofs.events.Events.add_polygons.Goals as goal

pub loop-polygon-preserved : goal.loop-polygon-preserved
loop-polygon-preserved c =
    let table = c.args.self.now.bounds.now in
    let before = c.loop-polygon.invariant in
    let added = c.in_ok-add_lines.ensures.ok in
    record {
      same = added.table ∙ before.same;
      gains = step_flat table (lines_segments (2 ^ table.zoom)) c.args.polygons.now c.loop-polygon.polygon-index
          c.polygon-item.result c.loop-polygon.self.list.items c.add_lines.new.self.list.items
          (λ final. Gains table (flat_map (lines_segments (2 ^ table.zoom)) c.args.polygons.now) c.args.self.now.list.items final)
          c.loop-polygon-test.true c.polygon-item.is
          (rw (before.same, c.as_slice.ensures.items) at added.gains) before.gains;
    }

pub returns : goal.returns
returns c =
    let table = c.args.self.now.bounds.now in
    record {
      ok = record {
        table = c.loop-polygon.invariant.same;
        gains = end_flat table (lines_segments (2 ^ table.zoom)) c.args.polygons.now c.loop-polygon.polygon-index
            c.loop-polygon.self.list.items
            (λ final. Gains table (flat_map (lines_segments (2 ^ table.zoom)) c.args.polygons.now) c.args.self.now.list.items final)
            (omega arith) c.loop-polygon.invariant.gains;
      };
    }
