use Rattle.std.proofs.Common.{◌≡◌, ◌^◌, List, drop}
use Rattle.std.specs.List.{flat_map}
use Rattle.tile_cover.specs.declared.events.Event.{Event}
use Rattle.tile_cover.specs.Events.{Gains}
use Rattle.tile_cover.specs.Tile.{lines_segments}
use Rattle.tile_cover.proofs.events.Events.add_polygons.Given as goal

-- what is gained so far, and then by what is left, is all
abbrev pub invariant-loop-polygon : goal.invariant-loop-polygon
invariant-loop-polygon l =
    let table = l.initial.self.bounds.now in
    record {
      same : l.self.bounds.now ≡ table;
      gains : (final : List Event)
          → Gains table (flat_map (lines_segments (2 ^ table.zoom)) (drop l.polygon-index l.polygons)) l.self.list.items final
          → Gains table (flat_map (lines_segments (2 ^ table.zoom)) l.polygons) l.initial.self.list.items final;
    }
