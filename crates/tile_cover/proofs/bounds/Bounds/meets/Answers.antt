use Rattle.std.proofs.Common.{◌^◌}
use Rattle.tile_cover.specs.Tile.{segments_of, tile_box, counts_filled}
use Rattle.tile_cover.proofs.SeenLines.{met_seen}
use Rattle.tile_cover.proofs.bounds.Bounds.meets.Goals as goal

pub returns : goal.returns
returns c =
    let sees = rw (c.sides-south.ensures.south, c.sides-south.ensures.north, c.columns-columns.ensures.power) at c.see-seen.ensures.sees in
    record {
      met = rw c.counts_filled.ensures (met_seen (counts_filled c.args.geometry.now c.args.mode)
          (tile_box c.args.self.now c.args.x c.args.y)
          (segments_of (2 ^ c.args.self.now.zoom) c.args.geometry.now) c.see-seen.result sees);
    }
