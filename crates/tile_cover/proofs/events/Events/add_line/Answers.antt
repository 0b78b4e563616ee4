use Rattle.std.proofs.Common.{arith, ◌∙◌, ◌^◌}
use Rattle.tile_cover.specs.Events.{Gains}
use Rattle.tile_cover.specs.Tile.{line_segments}
use Rattle.tile_cover.proofs.Lines.{step_line, end_line}
use Rattle.tile_cover.proofs.events.Events.add_line.Goals as goal

pub loop-at-preserved : goal.loop-at-preserved
loop-at-preserved c =
    let table = c.args.self.now.bounds.now in
    let before = c.loop-at.invariant in
    let added = c.in_ok-add_segment.ensures.ok in
    record {
      within = omega arith;
      same = added.table ∙ before.same;
      gains = step_line table (2 ^ table.zoom) c.args.places.now c.loop-at.at c.index-places-at.result
          c.index-places-at-in-loop-at.result
          c.loop-at.self.list.items c.add_segment.new.self.list.items
          (λ final. Gains table (line_segments (2 ^ table.zoom) c.args.places.now) c.args.self.now.list.items final)
          (omega arith) c.index-places-at.is c.index-places-at-in-loop-at.is (rw before.same at added.gains) before.gains;
    }

pub returns : goal.returns
returns c =
    let table = c.args.self.now.bounds.now in
    record {
      ok = record {
        table = c.loop-at.invariant.same;
        gains = end_line table (2 ^ table.zoom) c.args.places.now c.loop-at.at c.loop-at.self.list.items
            (λ final. Gains table (line_segments (2 ^ table.zoom) c.args.places.now) c.args.self.now.list.items final)
            (omega arith) c.loop-at.invariant.gains;
      };
    }
