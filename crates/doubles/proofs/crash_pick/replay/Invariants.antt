use Rattle.std.proofs.Common.{◌≡◌, take}
use Rattle.doubles.specs.Tape.{fresh, run}
use Rattle.doubles.proofs.crash_pick.replay.Given as goal

abbrev pub invariant-loop-call : goal.invariant-loop-call
invariant-loop-call l = (run (fresh l.start) (take l.call-index l.calls)).seen ≡ l.seen.items
