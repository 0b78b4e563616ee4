-- How much of the disk a change reads: what it touches, and no more.
use Rattle.std.specs.Prelude.{◌≡◌, ◌⊎◌, ℕ, ◌+◌, ◌≤◌, List, length, Some, IsSome}
use Rattle.std.specs.FinMap as map
use Rattle.outside.specs.Disk.{DiskView, ReadLog}
use Rattle.outside.specs.declared.disk.Disk.{Ghosts}
use Rattle.chain_store.specs.Links.{page_in}
use Rattle.chain_store.specs.Answers.{RestsWith}
use Rattle.chain_store.specs.Chain.{HasPages}
use Rattle.chain_store.specs.Chains.{disk_of, journal_of, kept_of, read_of}
use Rattle.chain_store.specs.Known.{Lists}
use Rattle.chain_store.specs.Reads.{pages_read}
use Rattle.chain_store.specs.Store.{kept_first}
use Rattle.chain_store.specs.declared.kept.Kept.{Kept}
use Rattle.chain_store.specs.declared.layout.TheConstants.{FREE}
use Rattle.bucket_store.specs.Transaction.{chains_of}
use Rattle.bucket_store.specs.declared.buckets.Buckets.{Buckets}
use Rattle.back_index.specs.Reads.{IsOfKey}
use Rattle.store_maps.specs.Asked.{May}
use Rattle.update_flow.specs.declared.fields.TheConstants.{DUE_TEXT}

-- in a store at rest with these home pages a chain has these pages
abbrev pub HasChain : List (List ℕ) → Kept → ℕ → List ℕ → Type 0
HasChain pages kept n ns = HasPages (page_in pages) (length pages + 1) n (kept_first kept n) ns

-- where the disk tells its reads, there were at most so many more
abbrev pub ReadsMore : ℕ → DiskView → DiskView → Type 0
ReadsMore count before after = (first : ReadLog) → before.reads ≡ Some first
    → (now : ReadLog) × (after.reads ≡ Some now) × (now.count ≤ first.count + count)

-- such chains of the store, each with its pages, and its free list were read, the disk at most once for each of their pages
pub record ReadsOnce (P : ℕ → Type 0) (pages : List (List ℕ)) (kept : Kept) (before after : DiskView) : Type 0 where
  pub read : Lists
  pub each : (n : ℕ) → IsSome (map.get read n) → P n
  pub are : (n : ℕ) (ns : List ℕ) → map.get read n ≡ Some ns → HasChain pages kept n ns
  pub free : List ℕ
  pub is_free : HasChain pages kept FREE free
  pub count : ReadsMore (pages_read read + length free) before after

-- so from one moment of a transaction on until it was committed
pub record ReadsToCommit {D : Type 0} {g : Ghosts D} (P : ℕ → Type 0) (old new : Buckets D g) : Type 0 where
  pub read : Lists
  pub each : (n : ℕ) → IsSome (map.get read n) → IsSome (map.get (read_of (chains_of old)) n) ⊎ P n
  pub are : (pages : List (List ℕ)) → RestsWith pages (journal_of (chains_of old)) → (n : ℕ) (ns : List ℕ) → map.get read n ≡ Some ns
      → HasChain pages (kept_of (chains_of old)) n ns
  pub free : List ℕ
  pub is_free : (pages : List (List ℕ)) → RestsWith pages (journal_of (chains_of old)) → HasChain pages (kept_of (chains_of old)) FREE free
  pub count : (first : ReadLog) → (disk_of (chains_of old)).reads ≡ Some first
      → (now : ReadLog) × ((disk_of (chains_of new)).reads ≡ Some now)
      × (now.count + pages_read (read_of (chains_of old)) ≤ first.count + (pages_read read + length free))

-- the chains that a change may read: that of the due tiles, and the buckets of keys that may be asked
abbrev pub MayLoad : May → ℕ → ℕ → Type 0
MayLoad may buckets n = (n ≡ DUE_TEXT) ⊎ IsOfKey may buckets n
