use Rattle.std.proofs.Common.{◌≤◌, take}
use Rattle.std.specs.Prelude.{flat_map}
use Rattle.due_tiles.specs.Piece.{Puts}
use Rattle.due_tiles.specs.TileText.{line_of}
use Rattle.due_tiles.proofs.levels.put_lines.Given as goal

-- the lines so far were put
abbrev pub invariant-loop-number : goal.invariant-loop-number
invariant-loop-number g l = record {
  puts : Puts (g.S.Sink.view l.fn.out).taken (g.S.Sink.view l.out).taken l.fn.piece l.piece
      (flat_map (line_of l.fn.zoom.level) (take l.number-index l.numbers));
  later : (g.S.Sink.view l.fn.out).faults ≤ (g.S.Sink.view l.out).faults;
}
