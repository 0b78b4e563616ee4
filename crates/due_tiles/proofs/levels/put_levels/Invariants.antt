use Rattle.std.proofs.Common.{◌≤◌, take}
use Rattle.due_tiles.specs.Levels.{levels_text}
use Rattle.due_tiles.specs.Piece.{Puts}
use Rattle.due_tiles.proofs.levels.put_levels.Given as goal

-- the lines so far were put
abbrev pub invariant-loop-level : goal.invariant-loop-level
invariant-loop-level g l = record {
  puts : Puts (g.S.Sink.view l.fn.out).taken (g.S.Sink.view l.out).taken l.fn.piece l.piece (levels_text (take l.level-index l.levels));
  later : (g.S.Sink.view l.fn.out).faults ≤ (g.S.Sink.view l.out).faults;
}
