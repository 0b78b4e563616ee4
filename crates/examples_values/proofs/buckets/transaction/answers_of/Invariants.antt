-- No deed was refused so far.
use Rattle.std.proofs.Common.{◌≡◌, false}
use Rattle.bucket_store.specs.Transaction.{has_refused}
use Rattle.examples_values.proofs.buckets.transaction.answers_of.Given as goal

abbrev pub invariant-loop-deed : goal.invariant-loop-deed
invariant-loop-deed l = has_refused l.buckets ≡ false
