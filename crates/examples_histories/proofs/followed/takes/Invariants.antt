-- The reader has refused nothing so far.
use Rattle.delta_feed.specs.Feeding.{IsGoing}
use Rattle.examples_histories.proofs.followed.takes.Given as goal

abbrev pub invariant-loop : goal.invariant-loop
invariant-loop l = IsGoing l.reader
