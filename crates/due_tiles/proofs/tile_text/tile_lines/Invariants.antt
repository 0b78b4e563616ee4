use Rattle.std.proofs.Common.{◌≡◌, ◌-◌, ◌++◌}
use Rattle.due_tiles.specs.TileText.{tile_text, zooms_text}
use Rattle.due_tiles.proofs.tile_text.tile_lines.Given as goal

-- the lines so far, and then those of the zooms that are left, are all
abbrev pub invariant-loop-level : goal.invariant-loop-level
invariant-loop-level l = l.text.items ++ zooms_text l.runs l.level (17 - l.level) ≡ tile_text l.runs l.least
