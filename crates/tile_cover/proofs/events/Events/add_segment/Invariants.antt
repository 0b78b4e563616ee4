use Rattle.std.proofs.Common.{◌&&◌, nat_le, nat_lt}
use Rattle.tile_cover.specs.Gathered.{GathersIn}
use Rattle.tile_cover.specs.Span.{segment_of}
use Rattle.tile_cover.proofs.events.Events.add_segment.Given as goal

-- what the segment meets in the rows so far
abbrev pub invariant-loop-row : goal.invariant-loop-row
invariant-loop-row l = GathersIn (λ row. nat_le l.from row && nat_lt row l.row) (segment_of l.climb) l.initial.self l.self
