-- The buckets of an open store, as a transaction has them. Bucket `b` of map `m` is the chain `16 + 65536 m + b`, and a
-- key stands in the bucket that it is modulo the number of buckets.
use Rattle.std.specs.Prelude.{◌≡◌, ◌⊎◌, ℕ, ◌+◌, ◌-◌, ◌*◌, ◌%◌, ◌<◌, ◌≤◌, ◌||◌, false, List, None, Some, Result, Ok, Err, IsSome, OnOk}
use Rattle.std.specs.FinMap as map
use Rattle.outside.specs.declared.disk.Disk.{Ghosts}
use Rattle.page_journal.specs.Answers.{HasDiskCause, answers_disk_fault}
use Rattle.page_journal.specs.Journal.{home_count, is_broken}
use Rattle.page_journal.specs.declared.fault.StoreFault.{StoreFault}
use Rattle.page_journal.specs.declared.fault.StoreFault.TheVariants.{BadStore}
use Rattle.page_journal.specs.declared.layout.TheConstants.{PAGE_LEN}
use Rattle.chain_store.specs.declared.chains.Chains.{Chains}
use Rattle.chain_store.specs.Answers.{IsReadAnswer}
use Rattle.chain_store.specs.Chains.{IsOpen, LoadedIs, OnlyRead, disk_of, first_of, is_refused, journal_of, read_of, root_of, written_of}
use Rattle.chain_store.specs.Known.{Lists, MayRead}
use Rattle.chain_store.specs.Store.{IsRefused}
use Rattle.bucket_records.specs.Held.{HeldBucket}
use Rattle.bucket_records.specs.Records.{BucketMap, IsBucket, IsNoBucket}
use Rattle.bucket_store.specs.Cache.{CacheMap}
use Rattle.bucket_store.specs.declared.cache.Cached.{Cached}

-- the chain of the bucket of a key, and the bucket of a chain
abbrev pub chain_at : ℕ → ℕ → ℕ → ℕ
chain_at buckets m key = 16 + 65536 * m + key % buckets

abbrev pub bucket_in : ℕ → ℕ
bucket_in n = (n - 16) % 65536

-- how many buckets each map has
abbrev pub bucket_count : {D : Type 0} {g : Ghosts D} → Chains D g → ℕ
bucket_count chains = (root_of chains).buckets

-- what the chain has spells these records
pub record Stored {D : Type 0} {g : Ghosts D} (pages : List (List ℕ)) (chains : Chains D g) (n : ℕ) (values : BucketMap) : Type 0 where
  pub bytes : List ℕ
  pub loaded : LoadedIs pages n (first_of chains n) (map.get (written_of chains) n) bytes
  pub spells : IsBucket (bucket_count chains) (bucket_in n) bytes (map.entries values)

-- a bucket was read from what the chain has
abbrev pub HasOrigin : {D : Type 0} {g : Ghosts D} → List (List ℕ) → Chains D g → ℕ → HeldBucket → Type 0
HasOrigin pages chains n held = LoadedIs pages n (first_of chains n) (map.get (written_of chains) n) held.origin

-- the chain is refused at this page, or spells no records and begins there
abbrev pub IsBadChain : {D : Type 0} {g : Ghosts D} → List (List ℕ) → Chains D g → ℕ → ℕ → Type 0
IsBadChain pages chains n at = ((map.get (written_of chains) n ≡ None) × IsRefused pages n (first_of chains n) at)
    ⊎ ((bytes : List ℕ) × LoadedIs pages n (first_of chains n) (map.get (written_of chains) n) bytes
    × IsNoBucket (bucket_count chains) (bucket_in n) bytes × (at ≡ first_of chains n))

-- reading a bucket may give this answer
abbrev pub ReadsBucket : {D : Type 0} {g : Ghosts D} → List (List ℕ) → Chains D g → ℕ → Result HeldBucket StoreFault → Type 0
ReadsBucket pages chains n (Ok held) = Stored pages chains n held.values × HasOrigin pages chains n held
ReadsBucket pages chains n (Err (BadStore at)) = IsBadChain pages chains n at
ReadsBucket pages chains n (Err _) = Unit {0}

-- what reading the bucket of a chain leaves of the store under it, whatever it answers; and what it has read once it succeeds
pub record LeavesRead {D T : Type 0} {g : Ghosts D} (n : ℕ) (old new : Chains D g) (result : Result T StoreFault) : Type 0 where
  pub opens : (pages : List (List ℕ)) → IsOpen pages old → IsOpen pages new
  pub alone : IsReadAnswer (is_broken (journal_of old)) result
  pub stays : OnlyRead old new
  pub broken : is_broken (journal_of new) ≡ (is_broken (journal_of old) || answers_disk_fault result)
  pub reads : OnOk result (map.get (read_of old) n ≡ None
      → MayRead (PAGE_LEN * home_count (journal_of old)) n (read_of old) (read_of new) (disk_of old) (disk_of new))
  pub known : OnOk result (IsSome (map.get (read_of new) n))
  pub going : OnOk result (is_refused new ≡ false)
  pub cause : HasDiskCause (disk_of old).faults (disk_of new).faults result

-- the keys of these values are those of one bucket of so many
abbrev pub HasKeysOf : ℕ → ℕ → BucketMap → Type 0
HasKeysOf buckets bucket values = (key : ℕ) → IsSome (map.get values key) → key % buckets ≡ bucket

-- the number of a bucket's chain, where each map has so many
abbrev pub IsBucketChain : ℕ → ℕ → Type 0
IsBucketChain buckets n = (16 ≤ n) × (n < 524304) × (bucket_in n < buckets)

-- each of these is a bucket of a store with so many, and has its keys
abbrev pub AreBuckets : ℕ → CacheMap → Type 0
AreBuckets buckets cache = (n : ℕ) (own : Cached) → map.get cache n ≡ Some own
    → IsBucketChain buckets n × HasKeysOf buckets (bucket_in n) own.bucket.values

-- of each of these the chain was read
abbrev pub AreAllRead : Lists → CacheMap → Type 0
AreAllRead read cache = (n : ℕ) → IsSome (map.get cache n) → IsSome (map.get read n)

-- the transaction has just the buckets of which it has read the chains
pub record AreRead (read : Lists) (cache : CacheMap) : Type 0 where
  pub there : (n : ℕ) → 16 ≤ n → IsSome (map.get read n) → IsSome (map.get cache n)
  pub all : AreAllRead read cache

-- each of these was read from what its chain has
abbrev pub HaveOrigins : {D : Type 0} {g : Ghosts D} → List (List ℕ) → Chains D g → CacheMap → Type 0
HaveOrigins pages chains cache = (n : ℕ) (own : Cached) → map.get cache n ≡ Some own → HasOrigin pages chains n own.bucket
