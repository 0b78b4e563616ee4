use Rattle.std.proofs.Common.{drop}
use Rattle.std.specs.List.{flat_map}
use Rattle.tile_cover.specs.declared.seen.Seen.{Seen}
use Rattle.tile_cover.specs.Seen.{Sees, box_of}
use Rattle.tile_cover.specs.Tile.{lines_segments}
use Rattle.tile_cover.proofs.seen.see_polygons.Given as goal

-- what is seen so far, and then by what is left, is all
abbrev pub invariant-loop-polygon : goal.invariant-loop-polygon
invariant-loop-polygon l = (final : Seen)
    → Sees (box_of l.tile) (flat_map (lines_segments l.tile.columns) (drop l.polygon-index l.polygons)) l.now final
    → Sees (box_of l.tile) (flat_map (lines_segments l.tile.columns) l.polygons) l.initial.now final
