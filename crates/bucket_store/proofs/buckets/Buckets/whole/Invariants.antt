use Rattle.std.proofs.Common.{◌≡◌, ◌-◌, ◌%◌, ◌<◌, ◌≤◌, ℕ, false, None, List}
use Rattle.std.specs.FinMap as map
use Rattle.page_journal.specs.Journal.{is_broken}
use Rattle.chain_store.specs.Chains.{OnlyRead, journal_of}
use Rattle.bucket_records.specs.Records.{BucketMap}
use Rattle.bucket_store.specs.Buckets.{bucket_count}
use Rattle.bucket_store.specs.Image.{OnlyLooks}
use Rattle.bucket_store.specs.Reads.{ReadsKeys}
use Rattle.bucket_store.specs.Transaction.{Content, IsOpenStore, chains_of, has_refused}
use Rattle.bucket_store.specs.Typed.{bucket_at}
use Rattle.bucket_store.specs.Whole.{HasBucketsBefore, SameContents}
use Rattle.value_bytes.specs.StoreMap.{map_number}
use Rattle.bucket_store.proofs.buckets.Buckets.whole.Given as goal

-- the buckets so far are in the map, and the store was only read
abbrev pub invariant-loop-bucket : goal.invariant-loop-bucket
invariant-loop-bucket g l = record {
  going : has_refused l.self ≡ false;
  still : is_broken (journal_of (chains_of l.self)) ≡ is_broken (journal_of (chains_of l.initial.self));
  same : OnlyLooks l.initial.self l.self;
  stays : OnlyRead (chains_of l.initial.self) (chains_of l.self);
  contents : SameContents l.initial.self l.self;
  reads : ReadsKeys (λ m key. m ≡ (map_number l.map)) l.initial.self l.self;
  there : (pages : List (List ℕ)) → IsOpenStore pages l.initial.self → HasBucketsBefore pages l.initial.self (map_number l.map) l.bucket;
  some : (pages : List (List ℕ)) → IsOpenStore pages l.initial.self → (key : ℕ) (values : BucketMap)
      → Content pages l.initial.self (bucket_at l.initial.self (map_number l.map) key) values
      → key % bucket_count (chains_of l.initial.self) < l.bucket
      → map.get l.whole key ≡ map.get values key;
  none : (pages : List (List ℕ)) → IsOpenStore pages l.initial.self → (key : ℕ) → l.bucket ≤ key % bucket_count (chains_of l.initial.self)
      → map.get l.whole key ≡ None;
}

abbrev pub decreases-loop-bucket : goal.decreases-loop-bucket
decreases-loop-bucket g l = l.count - l.bucket
