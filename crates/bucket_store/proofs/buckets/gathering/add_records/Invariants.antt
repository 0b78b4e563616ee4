use Rattle.std.proofs.Common.{◌≡◌, length}
use Rattle.bucket_store.specs.Whole.{with_records}
use Rattle.bucket_store.proofs.buckets.gathering.add_records.Given as goal

-- the records that are left, put to those that are there, are all of them put to those that were there
abbrev pub invariant-loop-key : goal.invariant-loop-key
invariant-loop-key l = with_records l.records.items l.whole ≡ with_records l.fn.records.items l.fn.whole

abbrev pub decreases-loop-key : goal.decreases-loop-key
decreases-loop-key l = length l.records.items
