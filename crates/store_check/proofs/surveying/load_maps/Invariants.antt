use Rattle.std.proofs.Common.{◌≡◌, ◌-◌, ◌≤◌, false, flat_map}
use Rattle.std.specs.List.{range_with_len}
use Rattle.bucket_store.specs.Buckets.{bucket_count}
use Rattle.bucket_store.specs.Calls.{IsBegun}
use Rattle.bucket_store.specs.Transaction.{chains_of, has_refused}
use Rattle.store_check.specs.BadPage.{IsLoaded, IsRefusedAt, chains_in}
use Rattle.store_check.proofs.Steps.{GoesOn}
use Rattle.store_check.proofs.surveying.load_maps.Given as goal

-- what is answered of the maps that are left is the answer of all
abbrev pub invariant-loop-number : goal.invariant-loop-number
invariant-loop-number g l = record {
  begun : IsBegun l.buckets;
  going : has_refused l.buckets ≡ false;
  count : l.count ≡ bucket_count (chains_of l.buckets);
  low : l.number ≤ 8;
  on : GoesOn IsLoaded IsRefusedAt (flat_map (chains_in l.count) (range_with_len l.number (8 - l.number)))
      (flat_map (chains_in l.count) (range_with_len 0 8)) l.initial.buckets l.buckets l.initial.marks l.marks;
}

abbrev pub decreases-loop-number : goal.decreases-loop-number
decreases-loop-number g l = 8 - l.number
