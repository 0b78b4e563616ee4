use Rattle.std.proofs.Common.{length, ◌-◌}
use Rattle.piece_ends.proofs.IndexSteps.{IsReached}
use Rattle.piece_ends.proofs.index.lowest_at.Given as goal

abbrev pub invariant-loop-number : goal.invariant-loop-number
invariant-loop-number l = IsReached l.pieces l.used l.place l.number

abbrev pub decreases-loop-number : goal.decreases-loop-number
decreases-loop-number l = length l.pieces - l.number
