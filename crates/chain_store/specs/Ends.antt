-- How many home pages a commit leaves, what it reads, and which answers it gives.
use Rattle.std.specs.Prelude.{◌≡◌, ℕ, ◌+◌, ◌*◌, ◌==◌, ◌<◌, ◌≤◌, Bool, true, false, List, length, Result, Ok, Err}
use Rattle.outside.specs.Disk.{ReadsAtMost}
use Rattle.outside.specs.declared.disk.Disk.{Ghosts}
use Rattle.page_journal.specs.Journal.{home_count, view_of}
use Rattle.page_journal.specs.declared.journal.Journal.{Journal}
use Rattle.page_journal.specs.declared.fault.StoreFault.{StoreFault}
use Rattle.page_journal.specs.declared.fault.StoreFault.TheVariants.{BadStore, DiskFault, StoreFull, Broken, OutOfMemory}
use Rattle.page_journal.specs.declared.layout.TheConstants.{PAGE_LEN}
use Rattle.chain_store.specs.Answers.{RestsWith}
use Rattle.chain_store.specs.Chain.{HasPages, Refused}
use Rattle.chain_store.specs.Gathered.{AreGathered, base_parts}
use Rattle.chain_store.specs.Kept.{buckets_in}
use Rattle.chain_store.specs.Known.{Lists}
use Rattle.chain_store.specs.Links.{page_in}
use Rattle.chain_store.specs.Plan.{more_of}
use Rattle.chain_store.specs.Store.{kept_first}
use Rattle.chain_store.specs.declared.kept.Kept.{Kept}
use Rattle.chain_store.specs.declared.layout.TheConstants.{FREE}
use Rattle.chain_store.specs.declared.parts.Part.{Part}
use Rattle.chain_store.specs.declared.root.Root.{Root}

-- a commit of these fields and byte strings leaves so many home pages: a new one stands behind the end only where no
-- page that is given up and no free one is left
pub record Leaves (pages : List (List ℕ)) (kept : Kept) (root : Root) (written read before : Lists) (home : ℕ) : Type 0 where
  pub parts : List Part
  pub gathered : AreGathered written read before parts
  pub free : List ℕ
  pub has : HasPages (page_in pages) (length pages + 1) FREE (kept_first kept FREE) free
  pub is : home ≡ (length pages + 1) + more_of parts
      (base_parts (root.buckets == buckets_in kept.front.items) root.buckets 8 kept.directories.items) free

-- a commit may give this answer, and has so many home pages then
abbrev pub Ends : List (List ℕ) → Kept → Root → Lists → Lists → Lists → ℕ → ℕ → Result (Unit {0}) StoreFault → Type 0
Ends pages kept root written read before limit home (Ok done) = Leaves pages kept root written read before home × (home ≤ limit)
Ends pages kept root written read before limit home (Err (StoreFull many)) =
    Leaves pages kept root written read before many × (limit < many)
Ends pages kept root written read before limit home (Err (BadStore at)) =
    Refused (page_in pages) (length pages + 1) FREE (kept_first kept FREE) at
Ends pages kept root written read before limit home (Err _) = Unit {0}

-- the free list was read, and the disk at most once for each of its pages
abbrev pub ReadsFree : {D : Type 0} {g : Ghosts D} → Journal D g → Kept → Journal D g → Type 0
ReadsFree old kept new = (ns : List ℕ)
    × ((pages : List (List ℕ)) → RestsWith pages old → HasPages (page_in pages) (length pages + 1) FREE (kept_first kept FREE) ns)
    × ReadsAtMost (length ns) (PAGE_LEN * home_count old) (view_of old) (view_of new)

-- and whatever the disk tells, it gives no other answer than these
abbrev pub IsCommitAnswer : {T : Type 0} → Bool → ℕ → Result T StoreFault → Type 0
IsCommitAnswer broken limit (Ok value) = broken ≡ false
IsCommitAnswer broken limit (Err (BadStore page)) = Unit {0}
IsCommitAnswer broken limit (Err DiskFault) = broken ≡ false
IsCommitAnswer broken limit (Err (StoreFull pages)) = (broken ≡ false) × (limit < pages)
IsCommitAnswer broken limit (Err Broken) = broken ≡ true
IsCommitAnswer broken limit (Err OutOfMemory) = Unit {0}
IsCommitAnswer broken limit (Err _) = ⊥
