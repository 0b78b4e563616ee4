-- What a transaction has read of the buckets of a store.
use Rattle.std.specs.Prelude.{◌≡◌, ◌≤◌, ℕ, true, false, IsSome}
use Rattle.std.specs.FinMap as map
use Rattle.outside.specs.declared.disk.Disk.{Ghosts}
use Rattle.chain_store.specs.Chains.{read_of}
use Rattle.chain_store.specs.Reads.{ReadsOnly}
use Rattle.bucket_store.specs.Buckets.{bucket_count, chain_at}
use Rattle.bucket_store.specs.Transaction.{chains_of, has_refused}
use Rattle.bucket_store.specs.declared.buckets.Buckets.{Buckets}
use Rattle.store_maps.specs.Asked.{May}

-- the chain of the bucket of a key that may be asked, where each map has so many buckets
pub record IsOfKey (may : May) (buckets n : ℕ) : Type 0 where
  pub which : ℕ
  pub key : ℕ
  pub allowed : may which key ≡ true
  pub chain : n ≡ chain_at buckets which key

-- from one moment of a transaction to another each chain that was read was read once, and is a bucket's
abbrev pub ReadsBuckets : {D : Type 0} {g : Ghosts D} → Buckets D g → Buckets D g → Type 0
ReadsBuckets old new = ReadsOnly (λ n. 16 ≤ n) (chains_of old) (chains_of new)

-- of the chains of buckets those of such keys alone were read, if no call was refused
pub record HasReadOnly {D : Type 0} {g : Ghosts D} (may : May) (buckets : Buckets D g) : Type 0 where
  pub each : has_refused buckets ≡ false → (n : ℕ) → 16 ≤ n → IsSome (map.get (read_of (chains_of buckets)) n)
      → IsOfKey may (bucket_count (chains_of buckets)) n
