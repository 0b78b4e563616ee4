use Rattle.std.proofs.Common.{append_assoc, rules}
use Rattle.due_tiles.specs.TileText.{tile_line}
use Rattle.due_tiles.proofs.tile_text.push_tile.Goals as goal

pub returns : goal.returns
unfolding tile_line
returns c = search (rules, append_assoc)
