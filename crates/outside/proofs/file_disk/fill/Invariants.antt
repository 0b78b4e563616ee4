use Rattle.std.proofs.Common.{◌≤◌, ◌-◌, length}
use Rattle.outside.proofs.file_disk.fill.Given as goal

abbrev pub invariant-loop-filled : goal.invariant-loop-filled
invariant-loop-filled l = l.filled ≤ length l.buf

abbrev pub decreases-loop-filled : goal.decreases-loop-filled
decreases-loop-filled l = length l.buf - l.filled
