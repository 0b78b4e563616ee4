use Rattle.std.proofs.Common.{arith, ◌∙◌, ◌^◌}
use Rattle.std.specs.List.{flat_map}
use Rattle.tile_cover.specs.Events.{Gains}
use Rattle.tile_cover.specs.Tile.{line_segments}
use Rattle.tile_cover.proofs.Lines.{step_flat, end_flat}
use Rattle.tile_cover.proofs.events.Events.add_lines.Goals as goal

pub loop-line-preserved : goal.loop-line-preserved
loop-line-preserved c =
    let table = c.args.self.now.bounds.now in
    let before = c.loop-line.invariant in
    let added = c.in_ok-add_line.ensures.ok in
    record {
      same = added.table ∙ before.same;
      gains = step_flat table (line_segments (2 ^ table.zoom)) c.args.lines.now c.loop-line.line-index
          c.line-item.result c.loop-line.self.list.items c.add_line.new.self.list.items
          (λ final. Gains table (flat_map (line_segments (2 ^ table.zoom)) c.args.lines.now) c.args.self.now.list.items final)
          c.loop-line-test.true c.line-item.is
          (rw (before.same, c.as_slice.ensures.items) at added.gains) before.gains;
    }

pub returns : goal.returns
returns c =
    let table = c.args.self.now.bounds.now in
    record {
      ok = record {
        table = c.loop-line.invariant.same;
        gains = end_flat table (line_segments (2 ^ table.zoom)) c.args.lines.now c.loop-line.line-index c.loop-line.self.list.items
            (λ final. Gains table (flat_map (line_segments (2 ^ table.zoom)) c.args.lines.now) c.args.self.now.list.items final)
            (omega arith) c.loop-line.invariant.gains;
      };
    }
