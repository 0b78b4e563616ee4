use Rattle.std.proofs.Common.{◌≡◌, ◌++◌, take}
use Rattle.std.specs.Prelude.{flat_map}
use Rattle.due_tiles.specs.TileText.{line_of}
use Rattle.due_tiles.proofs.tile_text.push_lines.Given as goal

-- the lines so far
abbrev pub invariant-loop-number : goal.invariant-loop-number
invariant-loop-number l = l.text.items ≡ l.initial.text.items ++ flat_map (line_of l.zoom.level) (take l.number-index l.numbers)
