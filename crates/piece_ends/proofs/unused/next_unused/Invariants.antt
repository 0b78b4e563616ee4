use Rattle.std.proofs.Common.{length, ◌-◌, ◌≤◌}
use Rattle.piece_ends.specs.Index.{AreUsedBelow}
use Rattle.piece_ends.proofs.unused.next_unused.Given as goal

abbrev pub invariant-loop-number : goal.invariant-loop-number
invariant-loop-number l = record {
  within : l.number ≤ length l.used;
  passed : AreUsedBelow l.used l.from → AreUsedBelow l.used l.number;
}

abbrev pub decreases-loop-number : goal.decreases-loop-number
decreases-loop-number l = length l.used - l.number
