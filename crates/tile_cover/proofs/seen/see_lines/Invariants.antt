use Rattle.std.proofs.Common.{drop}
use Rattle.tile_cover.specs.declared.seen.Seen.{Seen}
use Rattle.tile_cover.specs.Seen.{Sees, box_of}
use Rattle.tile_cover.specs.Tile.{lines_segments}
use Rattle.tile_cover.proofs.seen.see_lines.Given as goal

-- what is seen so far, and then by what is left, is all
abbrev pub invariant-loop-line : goal.invariant-loop-line
invariant-loop-line l = (final : Seen) → Sees (box_of l.tile) (lines_segments l.tile.columns (drop l.line-index l.lines)) l.now final
    → Sees (box_of l.tile) (lines_segments l.tile.columns l.lines) l.initial.now final
