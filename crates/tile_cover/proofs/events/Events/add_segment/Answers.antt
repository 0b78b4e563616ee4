use Rattle.std.proofs.Common.{arith, refl, ◌∙◌, ◌^◌, ◌≡◌}
use Rattle.tile_cover.specs.Span.{segment_of}
use Rattle.tile_cover.specs.Tile.{widened}
use Rattle.tile_cover.proofs.Gained.{gains_in_empty, gains_in_more, gains_in_all}
use Rattle.tile_cover.proofs.events.Events.add_segment.Goals as goal

pub loop-row-init : goal.loop-row-init
loop-row-init c = record {
  table = refl;
  gains = gains_in_empty c.args.self.now.bounds.now c.rows_from-from.result.0 (segment_of c.climb_of-climb.result)
      c.args.self.now.list.items;
}

pub loop-row-preserved : goal.loop-row-preserved
loop-row-preserved c =
    let before = c.loop-row.invariant in
    let added = c.in_ok-add_row.ensures.ok in
    record {
      table = added.table ∙ before.table;
      gains = gains_in_more c.args.self.now.bounds.now c.rows_from-from.result.0 c.loop-row.row
          (segment_of c.climb_of-climb.result) c.args.self.now.list.items c.loop-row.self.list.items c.add_row.new.self.list.items
          c.loop-row.auto.row before.gains (rw before.table at added.gains);
    }

pub returns : goal.returns
returns c =
    let table = c.args.self.now.bounds.now in
    let end : c.loop-row.row ≡ c.rows_from-from.result.1 =
    omega (arith, c.rows_from-from.ensures.ordered, c.loop-row.auto.row-end c.rows_from-from.ensures.ordered) in
    let power = c.columns.ensures.power in
    record {
      ok = record {
        table = c.loop-row.invariant.table;
        gains = gains_in_all table c.rows_from-from.result.0 c.rows_from-from.result.1
            (record { start = widened (2 ^ table.zoom) c.args.start; end = widened (2 ^ table.zoom) c.args.end })
            c.climb_of-climb.result c.args.self.now.list.items c.loop-row.self.list.items c.columns.ensures.table
            c.climb_of-climb.ensures.bounds.climbs
            (rw power at c.climb_of-climb.ensures.same) c.rows_from-from.ensures.reached (rw end at c.loop-row.invariant.gains);
      };
    }
