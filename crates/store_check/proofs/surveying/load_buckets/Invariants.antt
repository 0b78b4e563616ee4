use Rattle.std.proofs.Common.{◌≡◌, ◌-◌, ◌≤◌, false, map}
use Rattle.std.specs.List.{range_with_len}
use Rattle.bucket_store.specs.Buckets.{bucket_count}
use Rattle.bucket_store.specs.Calls.{IsBegun}
use Rattle.bucket_store.specs.Image.{bucket_chain}
use Rattle.bucket_store.specs.Transaction.{chains_of, has_refused}
use Rattle.value_bytes.specs.StoreMap.{map_number}
use Rattle.store_check.specs.BadPage.{IsLoaded, IsRefusedAt, chains_in}
use Rattle.store_check.proofs.Steps.{GoesOn}
use Rattle.store_check.proofs.surveying.load_buckets.Given as goal

-- what is answered of the buckets that are left is the answer of all
abbrev pub invariant-loop-bucket : goal.invariant-loop-bucket
invariant-loop-bucket g l = record {
  begun : IsBegun l.buckets;
  going : has_refused l.buckets ≡ false;
  count : l.count ≡ bucket_count (chains_of l.buckets);
  low : l.bucket ≤ l.count;
  on : GoesOn IsLoaded IsRefusedAt (map (bucket_chain (map_number l.map)) (range_with_len l.bucket (l.count - l.bucket)))
      (chains_in l.count (map_number l.map)) l.initial.buckets l.buckets l.initial.marks l.marks;
}

abbrev pub decreases-loop-bucket : goal.decreases-loop-bucket
decreases-loop-bucket g l = l.count - l.bucket
