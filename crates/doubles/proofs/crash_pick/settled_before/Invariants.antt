use Rattle.doubles.specs.CrashPick.{IsSettled}
use Rattle.doubles.proofs.crash_pick.settled_before.Given as goal

abbrev pub invariant-loop-i : goal.invariant-loop-i
invariant-loop-i l = IsSettled l.calls l.i l.settled
