use Rattle.std.proofs.Common.{◌≡◌, ◌^◌, ◌≤◌, ◌-◌, List, drop, length}
use Rattle.tile_cover.specs.declared.events.Event.{Event}
use Rattle.tile_cover.specs.Events.{Gains}
use Rattle.tile_cover.specs.Tile.{line_segments}
use Rattle.tile_cover.proofs.events.Events.add_line.Given as goal

-- what is gained so far, and then by what is left, is all
abbrev pub invariant-loop-at : goal.invariant-loop-at
invariant-loop-at l =
    let table = l.initial.self.bounds.now in
    record {
      within : l.at ≤ length l.places;
      same : l.self.bounds.now ≡ table;
      gains : (final : List Event) → Gains table (line_segments (2 ^ table.zoom) (drop l.at l.places)) l.self.list.items final
          → Gains table (line_segments (2 ^ table.zoom) l.places) l.initial.self.list.items final;
    }

abbrev pub decreases-loop-at : goal.decreases-loop-at
decreases-loop-at l = length l.places - l.at
