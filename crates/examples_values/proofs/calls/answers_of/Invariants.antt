-- No call was refused so far.
use Rattle.std.proofs.Common.{◌≡◌, false}
use Rattle.bucket_store.specs.Transaction.{has_refused}
use Rattle.examples_values.proofs.calls.answers_of.Given as goal

abbrev pub invariant-loop-call : goal.invariant-loop-call
invariant-loop-call l = has_refused l.buckets ≡ false
