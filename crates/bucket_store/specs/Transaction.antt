-- What contracts see of the buckets of an open store and of the transaction over them.
use Rattle.std.specs.Prelude.{◌≡◌, ◌≤◌, ℕ, Bool, false, List, None, Some, Result, Ok, Err, IsSome, MatchOption}
use Rattle.std.specs.FinMap as map
use Rattle.outside.specs.declared.disk.Disk.{Ghosts}
use Rattle.page_journal.specs.declared.fault.StoreFault.{StoreFault}
use Rattle.page_journal.specs.declared.fault.StoreFault.TheVariants.{BadStore}
use Rattle.chain_store.specs.declared.chains.Chains.{Chains}
use Rattle.chain_store.specs.Chains.{IsOpen}
use Rattle.bucket_records.specs.Records.{BucketMap}
use Rattle.bucket_store.specs.Cache.{CacheMap}
use Rattle.bucket_store.specs.Buckets.{HaveOrigins, IsBucketChain, Stored, IsBadChain, bucket_count, chain_at}
use Rattle.bucket_store.specs.declared.cache.Cached.{Cached}
use Rattle.bucket_store.specs.declared.buckets.Buckets.{Buckets}

-- the chains under the buckets, the buckets that the transaction has, and whether it has refused a call
abbrev pub chains_of : {D : Type 0} {g : Ghosts D} → Buckets D g → Chains D g
chains_of buckets = buckets.chains

abbrev pub cached_of : {D : Type 0} {g : Ghosts D} → Buckets D g → CacheMap
cached_of buckets = buckets.cache

abbrev pub has_refused : {D : Type 0} {g : Ghosts D} → Buckets D g → Bool
has_refused buckets = buckets.refused

-- the transaction has refused no call, and the store has buckets
pub record IsReady {D : Type 0} {g : Ghosts D} (buckets : Buckets D g) : Type 0 where
  pub going : has_refused buckets ≡ false
  pub some : 1 ≤ bucket_count (chains_of buckets)

-- the transaction has refused no call, and this is the chain of one of the store's buckets
pub record IsReadyAt {D : Type 0} {g : Ghosts D} (n : ℕ) (buckets : Buckets D g) : Type 0 where
  pub going : has_refused buckets ≡ false
  pub bucket : IsBucketChain (bucket_count (chains_of buckets)) n

-- the chain of the bucket of a key
abbrev pub bucket_at : {D : Type 0} {g : Ghosts D} → Buckets D g → ℕ → ℕ → ℕ
bucket_at buckets which key = chain_at (bucket_count (chains_of buckets)) which key

-- the transaction has the bucket of a key
abbrev pub IsThere : {D : Type 0} {g : Ghosts D} → Buckets D g → ℕ → ℕ → Type 0
IsThere buckets which key = IsSome (map.get (cached_of buckets) (bucket_at buckets which key))

-- the store is at rest with these home pages, each bucket that was not changed is so there, and each was read from what
-- its chain has
pub record IsOpenWith {D : Type 0} {g : Ghosts D} (pages : List (List ℕ)) (chains : Chains D g) (cache : CacheMap) : Type 0 where
  pub open_chains : IsOpen pages chains
  pub had : (n : ℕ) (own : Cached) → map.get cache n ≡ Some own → own.changed ≡ false → Stored pages chains n own.bucket.values
  pub origins : HaveOrigins pages chains cache

abbrev pub IsOpenStore : {D : Type 0} {g : Ghosts D} → List (List ℕ) → Buckets D g → Type 0
IsOpenStore pages buckets = IsOpenWith pages buckets.chains buckets.cache

-- the transaction has these records in the bucket
abbrev pub Content : {D : Type 0} {g : Ghosts D} → List (List ℕ) → Buckets D g → ℕ → BucketMap → Type 0
Content pages buckets n values = MatchOption (map.get buckets.cache n) (Stored pages buckets.chains n values)
    (λ own. own.bucket.values ≡ values)

-- the bucket cannot be read, for this page
abbrev pub IsBad : {D : Type 0} {g : Ghosts D} → List (List ℕ) → Buckets D g → ℕ → ℕ → Type 0
IsBad pages buckets n at = (map.get buckets.cache n ≡ None) × IsBadChain pages buckets.chains n at

-- a call that brings a bucket may give this answer
abbrev pub BringsBucket : {D T : Type 0} {g : Ghosts D} → List (List ℕ) → Buckets D g → ℕ → Result T StoreFault → Type 0
BringsBucket pages buckets n (Ok done) = Unit {0}
BringsBucket pages buckets n (Err (BadStore at)) = IsBad pages buckets n at
BringsBucket pages buckets n (Err _) = Unit {0}
