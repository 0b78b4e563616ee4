-- What calls read of a store, by the keys that they ask for.
use Rattle.std.specs.Prelude.{◌≡◌, ◌*◌, ℕ}
use Rattle.outside.specs.declared.disk.Disk.{Ghosts}
use Rattle.page_journal.specs.Journal.{home_count}
use Rattle.page_journal.specs.declared.layout.TheConstants.{PAGE_LEN}
use Rattle.chain_store.specs.Chains.{disk_of, journal_of, read_of}
use Rattle.chain_store.specs.Known.{MayRead}
use Rattle.chain_store.specs.Reads.{ReadsOnly}
use Rattle.bucket_store.specs.Transaction.{bucket_at, chains_of}
use Rattle.bucket_store.specs.declared.buckets.Buckets.{Buckets}

-- no chain was read, or this one for the first time, and of the disk the home pages, at most once for each page of the chain
abbrev pub MayReadChain : {D : Type 0} {g : Ghosts D} → ℕ → Buckets D g → Buckets D g → Type 0
MayReadChain n old new = MayRead (PAGE_LEN * home_count (journal_of (chains_of old))) n (read_of (chains_of old)) (read_of (chains_of new))
    (disk_of (chains_of old)) (disk_of (chains_of new))

-- the chain is that of the bucket of a key, in a map, that may be asked for
abbrev pub IsAskedChain : {D : Type 0} {g : Ghosts D} → (ℕ → ℕ → Type 0) → Buckets D g → ℕ → Type 0
IsAskedChain May buckets n = (which : ℕ) × (key : ℕ) × May which key × (n ≡ bucket_at buckets which key)

-- from one moment of a transaction to a later one only such chains were read, each of them once
abbrev pub ReadsKeys : {D : Type 0} {g : Ghosts D} → (ℕ → ℕ → Type 0) → Buckets D g → Buckets D g → Type 0
ReadsKeys May old new = ReadsOnly (IsAskedChain May old) (chains_of old) (chains_of new)

-- a key of a map
abbrev pub IsKey : ℕ → ℕ → ℕ → ℕ → Type 0
IsKey which key m k = (m ≡ which) × (k ≡ key)
