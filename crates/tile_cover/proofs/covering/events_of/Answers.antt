use Rattle.std.proofs.Common.{◌^◌, []}
use Rattle.tile_cover.specs.Tile.{segments_of}
use Rattle.tile_cover.proofs.Sweeps.{each_permuted, gains_permuted}
use Rattle.tile_cover.proofs.covering.events_of.Goals as goal

pub returns-clause-events : goal.returns-clause-events
returns-clause-events c = each_permuted (2 ^ c.args.bounds.now.zoom) _ _ c.sort.ensures.permutation
    (rw c.in_ok-add_geometry.ensures.ok.table at c.add_geometry.new.self.each)

pub returns-clause-gains : goal.returns-clause-gains
returns-clause-gains c = gains_permuted c.args.bounds.now
    (segments_of (2 ^ c.args.bounds.now.zoom) c.args.geometry.now) [] _ _ c.sort.ensures.permutation
    (rw c.new.ensures.items at c.in_ok-add_geometry.ensures.ok.gains)
