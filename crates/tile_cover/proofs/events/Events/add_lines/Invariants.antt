use Rattle.std.proofs.Common.{◌≡◌, ◌^◌, List, drop}
use Rattle.tile_cover.specs.declared.events.Event.{Event}
use Rattle.tile_cover.specs.Events.{Gains}
use Rattle.tile_cover.specs.Tile.{lines_segments}
use Rattle.tile_cover.proofs.events.Events.add_lines.Given as goal

-- what is gained so far, and then by what is left, is all
abbrev pub invariant-loop-line : goal.invariant-loop-line
invariant-loop-line l =
    let table = l.initial.self.bounds.now in
    record {
      same : l.self.bounds.now ≡ table;
      gains : (final : List Event) → Gains table (lines_segments (2 ^ table.zoom) (drop l.line-index l.lines)) l.self.list.items final
          → Gains table (lines_segments (2 ^ table.zoom) l.lines) l.initial.self.list.items final;
    }
