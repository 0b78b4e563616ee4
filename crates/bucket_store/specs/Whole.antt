-- Maps of a store that are read whole.
use Rattle.std.specs.Prelude.{ℕ, ◌<◌, List, [], ◌∷◌, Result, Ok, Err}
use Rattle.std.specs.FinMap as map
use Rattle.outside.specs.declared.disk.Disk.{Ghosts}
use Rattle.page_journal.specs.declared.fault.StoreFault.{StoreFault}
use Rattle.page_journal.specs.declared.fault.StoreFault.TheVariants.{BadStore}
use Rattle.bucket_records.specs.Records.{BucketMap}
use Rattle.bucket_store.specs.Buckets.{bucket_count}
use Rattle.bucket_store.specs.Image.{bucket_chain}
use Rattle.bucket_store.specs.Transaction.{Content, IsBad, IsOpenStore, chains_of}
use Rattle.bucket_store.specs.declared.buckets.Buckets.{Buckets}

-- a map with these records put to it
abbrev pub with_records : List (ℕ × List ℕ) → BucketMap → BucketMap
with_records [] whole = whole
with_records (one ∷ records) whole = map.insert (with_records records whole) one.0 one.1

-- the transaction has records in each bucket of a map before this one
abbrev pub HasBucketsBefore : {D : Type 0} {g : Ghosts D} → List (List ℕ) → Buckets D g → ℕ → ℕ → Type 0
HasBucketsBefore pages buckets which bucket =
    (k : ℕ) → k < bucket → (values : BucketMap) × Content pages buckets (bucket_chain which k) values

-- a call that reads all buckets of a map may give this answer: it is refused at the first that cannot be read
abbrev pub BringsMap : {D T : Type 0} {g : Ghosts D} → List (List ℕ) → Buckets D g → ℕ → Result T StoreFault → Type 0
BringsMap pages buckets which (Ok done) = Unit {0}
BringsMap pages buckets which (Err (BadStore at)) = (bucket : ℕ) × (bucket < bucket_count (chains_of buckets))
    × IsBad pages buckets (bucket_chain which bucket) at × HasBucketsBefore pages buckets which bucket
BringsMap pages buckets which (Err _) = Unit {0}

-- the transaction has the same in all buckets, and the same of them cannot be read
pub record SameContents {D : Type 0} {g : Ghosts D} (old new : Buckets D g) : Type 0 where
  pub opens : (pages : List (List ℕ)) → IsOpenStore pages old → IsOpenStore pages new
  pub later : (pages : List (List ℕ)) → IsOpenStore pages old → (n : ℕ) (values : BucketMap) → Content pages old n values
      → Content pages new n values
  pub before : (pages : List (List ℕ)) → IsOpenStore pages old → (n : ℕ) (values : BucketMap) → Content pages new n values
      → Content pages old n values
  pub bad : (pages : List (List ℕ)) (n at : ℕ) → IsBad pages new n at → IsBad pages old n at
