use Rattle.std.proofs.Common.{◌≡◌, ◌-◌, ◌≤◌, false}
use Rattle.std.specs.List.{range_with_len}
use Rattle.bucket_store.specs.Calls.{IsBegun}
use Rattle.bucket_store.specs.Transaction.{has_refused}
use Rattle.store_check.proofs.Steps.{GoesOn}
use Rattle.store_check.proofs.surveying.mark_range.Given as goal

-- what is answered of the chains that are left is the answer of all
abbrev pub invariant-loop-n : goal.invariant-loop-n
invariant-loop-n g l = record {
  begun : IsBegun l.buckets;
  going : has_refused l.buckets ≡ false;
  least : 3 ≤ l.n;
  low : l.n ≤ 16;
  on : GoesOn (λ pages kept n. Unit {0}) (λ pages kept n at. ⊥) (range_with_len l.n (16 - l.n)) (range_with_len 3 13)
      l.initial.buckets l.buckets l.initial.marks l.marks;
}

abbrev pub decreases-loop-n : goal.decreases-loop-n
decreases-loop-n g l = 16 - l.n
