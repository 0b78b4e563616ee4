-- The text of tiles that are listed zoom by zoom.
use Rattle.std.specs.Prelude.{ℕ, List, flat_map}
use Rattle.due_tiles.specs.declared.levels.Level.{Level}
use Rattle.due_tiles.specs.TileText.{line_of}

-- the lines of a zoom
abbrev pub level_text : Level → List ℕ
level_text own = flat_map (line_of own.zoom.level) own.numbers

-- the lines of all
abbrev pub levels_text : List Level → List ℕ
levels_text levels = flat_map level_text levels
