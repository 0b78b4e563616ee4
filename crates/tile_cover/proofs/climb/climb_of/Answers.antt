use Rattle.tile_cover.specs.Tile.{widened}
use Rattle.tile_cover.proofs.Spans.{turned_climb}
use Rattle.tile_cover.proofs.climb.climb_of.Goals as goal

pub returns-else-start-end-clause-same : goal.returns-else-start-end-clause-same
returns-else-start-end-clause-same c =
    turned_climb (record { start = widened c.args.columns c.args.start; end = widened c.args.columns c.args.end })
    c.upward-else-start-end.result c.upward-else-start-end.ensures.same
