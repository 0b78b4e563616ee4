use Rattle.std.proofs.Common.{◌+◌, length}
use Rattle.due_tiles.proofs.Merging.{IsMerged}
use Rattle.due_tiles.proofs.joining.joined_parts.Given as goal

-- what was taken stands together, and the rest is left
abbrev pub invariant-loop-left_rest : goal.invariant-loop-left_rest
invariant-loop-left_rest l = IsMerged l.left.runs.now l.right.runs.now l.left_rest.runs.now l.right_rest.runs.now l.set

abbrev pub decreases-loop-left_rest : goal.decreases-loop-left_rest
decreases-loop-left_rest l = length l.left_rest.runs.now + length l.right_rest.runs.now
