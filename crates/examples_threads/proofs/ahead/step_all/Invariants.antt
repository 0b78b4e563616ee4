use Rattle.std.proofs.Common.{◌≡◌}
use Rattle.examples_threads.proofs.ahead.step_all.Given as goal

abbrev pub invariant-loop-word : goal.invariant-loop-word
invariant-loop-word g l = (l.putter.home ≡ l.pipe.home) × (l.taker.home ≡ l.pipe.home)
