-- the lines so far, and then those of what is begun and of the pieces that are left, are those of all; so is the limit
use Rattle.std.proofs.Common.{◌≡◌, None, ◌++◌, drop, flat_map}
use Rattle.opl_lines.specs.Lines.{lines_of}
use Rattle.opl_lines.specs.Reading.{begun}
use Rattle.opl_lines.specs.Whole.{texts, limit_passed, limit_left}
use Rattle.opl_lines.proofs.whole.take_pieces.Given as goal

abbrev pub invariant-loop-piece : goal.invariant-loop-piece
invariant-loop-piece l =
    (texts l.lines.items ++ lines_of (begun l.reader ++ flat_map (λ piece. piece.now) (drop l.piece-index l.pieces))
    ≡ lines_of (flat_map (λ piece. piece.now) l.pieces))
    × (limit_left l.reader (flat_map (λ piece. piece.now) (drop l.piece-index l.pieces))
    ≡ limit_passed l.limits.line_bytes l.limits.lines (lines_of (flat_map (λ piece. piece.now) l.pieces)))
    × (l.reader.failed ≡ None)
