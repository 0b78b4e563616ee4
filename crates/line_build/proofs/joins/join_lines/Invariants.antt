use Rattle.std.proofs.Common.{◌≡◌, ◌++◌, length}
use Rattle.piece_ends.specs.Walk.{lines_by}
use Rattle.piece_ends.specs.Joins.{joined_lines, line_begun}
use Rattle.line_build.proofs.joins.join_lines.Given as goal

-- the lines so far, and then those of the pieces that are left, are all of them
abbrev pub invariant-lines : goal.invariant-lines
invariant-lines l = l.lines ++ lines_by line_begun l.unused ≡ joined_lines l.pieces

abbrev pub decreases-lines : goal.decreases-lines
decreases-lines l = length l.unused
