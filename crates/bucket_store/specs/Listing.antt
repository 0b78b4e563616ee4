-- Which pages the chains of a store have, as a transaction tells them.
use Rattle.std.specs.Prelude.{◌≡◌, ◌⊎◌, ℕ, ◌+◌, ◌*◌, ◌<◌, ◌≤◌, List, length, Result, Ok, Err, IfOk}
use Rattle.outside.specs.Disk.{ReadsAtMost}
use Rattle.outside.specs.declared.disk.Disk.{Ghosts}
use Rattle.page_journal.specs.Journal.{home_count}
use Rattle.page_journal.specs.declared.fault.StoreFault.{StoreFault}
use Rattle.page_journal.specs.declared.fault.StoreFault.TheVariants.{BadStore}
use Rattle.page_journal.specs.declared.layout.TheConstants.{PAGE_LEN}
use Rattle.chain_store.specs.Chain.{HasPages}
use Rattle.chain_store.specs.Chains.{ListsPages, disk_of, first_of, journal_of, read_of}
use Rattle.chain_store.specs.Links.{page_in}
use Rattle.chain_store.specs.Store.{IsRefused}
use Rattle.chain_store.specs.declared.layout.TheConstants.{FREE}
use Rattle.bucket_store.specs.Calls.{KeepsContent}
use Rattle.bucket_store.specs.Image.{Has, Image, IsSoundAnswer}
use Rattle.bucket_store.specs.Transaction.{IsBad, IsOpenStore, chains_of}
use Rattle.bucket_store.specs.declared.buckets.Buckets.{Buckets}

-- a call that lists the pages of a chain may give this answer: a bucket is refused also where it spells no records
abbrev pub ListsChain : {D : Type 0} {g : Ghosts D} → List (List ℕ) → Buckets D g → ℕ → Result (List ℕ) StoreFault → Type 0
ListsChain pages buckets n (Ok ns) = HasPages (page_in pages) (length pages + 1) n (first_of (chains_of buckets) n) ns
ListsChain pages buckets n (Err (BadStore at)) =
    ((n < 16) × IsRefused pages n (first_of (chains_of buckets) n) at) ⊎ ((16 ≤ n) × IsBad pages buckets n at)
ListsChain pages buckets n (Err _) = Unit {0}

-- what a call that tells the pages of a chain does
pub record ListsChainOf {D : Type 0} {g : Ghosts D} (n : ℕ) (old new : Buckets D g) (result : Result (List ℕ) StoreFault) : Type 0 where
  pub answers : (pages : List (List ℕ)) → IsOpenStore pages old → ListsChain pages old n result
  pub sound : (rest now : Image) → Has rest now old → IsSoundAnswer result
  pub keeps : KeepsContent old new result

-- what a call that tells the free pages does: it reads no chain, and of the disk each of these once
pub record ListsFree {D : Type 0} {g : Ghosts D} (old new : Buckets D g) (result : Result (List ℕ) StoreFault) : Type 0 where
  pub answers : (pages : List (List ℕ)) → IsOpenStore pages old → ListsPages pages FREE (first_of (chains_of old) FREE) result
  pub read : read_of (chains_of new) ≡ read_of (chains_of old)
  pub reads : IfOk result (λ ns. ReadsAtMost (length ns) (PAGE_LEN * home_count (journal_of (chains_of old))) (disk_of (chains_of old))
      (disk_of (chains_of new)))
  pub sound : (rest now : Image) → Has rest now old → IsSoundAnswer result
  pub keeps : KeepsContent old new result
