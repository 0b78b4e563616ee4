use Rattle.std.proofs.Common.{◌≤◌, ◌-◌, drop, length}
use Rattle.tile_cover.specs.declared.seen.Seen.{Seen}
use Rattle.tile_cover.specs.Seen.{Sees, box_of}
use Rattle.tile_cover.specs.Tile.{line_segments}
use Rattle.tile_cover.proofs.seen.see_line.Given as goal

-- what is seen so far, and then by what is left, is all
abbrev pub invariant-loop-at : goal.invariant-loop-at
invariant-loop-at l = record {
  within : l.at ≤ length l.places;
  sees : (final : Seen) → Sees (box_of l.tile) (line_segments l.tile.columns (drop l.at l.places)) l.now final
      → Sees (box_of l.tile) (line_segments l.tile.columns l.places) l.initial.now final;
}

abbrev pub decreases-loop-at : goal.decreases-loop-at
decreases-loop-at l = length l.places - l.at
