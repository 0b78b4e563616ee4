-- the piece is taken but for the rest, which becomes shorter
use Rattle.std.proofs.Common.{length}
use Rattle.opl_lines.specs.Whole.{texts}
use Rattle.opl_lines.proofs.Walk.{Walks}
use Rattle.opl_lines.proofs.whole.take_piece.Given as goal

abbrev pub invariant-loop-rest : goal.invariant-loop-rest
invariant-loop-rest l = Walks l.initial.reader l.reader (texts l.initial.lines.items) (texts l.lines.items) l.piece l.rest

abbrev pub decreases-loop-rest : goal.decreases-loop-rest
decreases-loop-rest l = length l.rest
