-- What contracts see of an open store and of the transaction over it.
use Rattle.std.specs.Prelude.{◌≡◌, ◌⊎◌, ℕ, ◌+◌, ◌≤◌, Bool, List, [], length, Option, None, Some, Result, Ok, Err, IsTrue, MatchOption}
use Rattle.std.specs.Int.{is_power_of_two}
use Rattle.std.specs.FinMap as map
use Rattle.outside.specs.Disk.{DiskView}
use Rattle.outside.specs.declared.disk.Disk.{Ghosts}
use Rattle.page_journal.specs.Journal.{view_of}
use Rattle.page_journal.specs.declared.journal.Journal.{Journal}
use Rattle.page_journal.specs.declared.fault.StoreFault.{StoreFault}
use Rattle.page_journal.specs.declared.fault.StoreFault.TheVariants.{BadStore}
use Rattle.chain_store.specs.declared.chains.Chains.{Chains}
use Rattle.chain_store.specs.declared.kept.Kept.{Kept}
use Rattle.chain_store.specs.declared.root.Root.{Root}
use Rattle.chain_store.specs.Answers.{Looked, RestsWith}
use Rattle.chain_store.specs.Chain.{HasPages}
use Rattle.chain_store.specs.Directories.{IsChain}
use Rattle.chain_store.specs.Known.{Lists}
use Rattle.chain_store.specs.Links.{page_in}
use Rattle.chain_store.specs.Marks.{AreSame}
use Rattle.chain_store.specs.Store.{HasBytes, IsRefused, Keeps, kept_first}

-- the journal, and what is seen of its disk
abbrev pub journal_of : {D : Type 0} {g : Ghosts D} → Chains D g → Journal D g
journal_of chains = chains.journal

abbrev pub disk_of : {D : Type 0} {g : Ghosts D} → Chains D g → DiskView
disk_of chains = view_of chains.journal

-- what is kept of the store, and where each chain begins in it
abbrev pub kept_of : {D : Type 0} {g : Ghosts D} → Chains D g → Kept
kept_of chains = chains.kept

abbrev pub first_of : {D : Type 0} {g : Ghosts D} → Chains D g → ℕ → ℕ
first_of chains n = kept_first chains.kept n

-- the fields that a commit will give the store; the bytes that the transaction has written, and the pages of the chains
-- that it has read, by the numbers of the chains; and whether it has refused a call
abbrev pub root_of : {D : Type 0} {g : Ghosts D} → Chains D g → Root
root_of chains = chains.root

abbrev pub written_of : {D : Type 0} {g : Ghosts D} → Chains D g → Lists
written_of chains = chains.written

abbrev pub read_of : {D : Type 0} {g : Ghosts D} → Chains D g → Lists
read_of chains = chains.read

-- the bytes that chains below the buckets have in the store, as far as they were read; and of chains that were written which
-- pages are as before: a mark for each, 1 where it keeps its bytes
abbrev pub texts_of : {D : Type 0} {g : Ghosts D} → Chains D g → Lists
texts_of chains = chains.texts

abbrev pub before_of : {D : Type 0} {g : Ghosts D} → Chains D g → Lists
before_of chains = chains.before

abbrev pub is_refused : {D : Type 0} {g : Ghosts D} → Chains D g → Bool
is_refused chains = chains.refused

-- these marks of a chain that is to have these bytes are true of the store: none, or only of pages that have them there
abbrev pub IsMarked : List (List ℕ) → ℕ → ℕ → List ℕ → List ℕ → Type 0
IsMarked pages n first same bytes = (same ≡ []) ⊎ ((old : List ℕ) × HasBytes pages n first old × AreSame same old bytes)

-- the store is at rest with these home pages, and what is kept of it, was read, and is marked, is so there
pub record IsOpenStore {D : Type 0} {g : Ghosts D} (pages : List (List ℕ)) (journal : Journal D g) (kept : Kept)
    (read texts written before : Lists) : Type 0 where
  pub rests : RestsWith pages journal
  pub keeps : Keeps pages kept
  pub known : (n : ℕ) (ns : List ℕ) → map.get read n ≡ Some ns
      → HasPages (page_in pages) (length pages + 1) n (kept_first kept n) ns
  pub had : (n : ℕ) (bytes : List ℕ) → map.get texts n ≡ Some bytes → HasBytes pages n (kept_first kept n) bytes
  pub marked : (n : ℕ) (same bytes : List ℕ) → map.get before n ≡ Some same → map.get written n ≡ Some bytes
      → IsMarked pages n (kept_first kept n) same bytes

abbrev pub IsOpen : {D : Type 0} {g : Ghosts D} → List (List ℕ) → Chains D g → Type 0
IsOpen pages chains = IsOpenStore pages chains.journal chains.kept chains.read chains.texts chains.written chains.before

-- the transaction only looked at the store: it has written nothing more
pub record OnlyRead {D : Type 0} {g : Ghosts D} (old new : Chains D g) : Type 0 where
  pub looked : Looked old.journal new.journal
  pub kept : new.kept ≡ old.kept
  pub root : new.root ≡ old.root
  pub written : new.written ≡ old.written

-- what a chain has: what was written, or else what stands in the store
abbrev pub LoadedIs : List (List ℕ) → ℕ → ℕ → Option (List ℕ) → List ℕ → Type 0
LoadedIs pages n first None bytes = HasBytes pages n first bytes
LoadedIs pages n first (Some own) bytes = bytes ≡ own

-- a call that loads a chain may give this answer
abbrev pub Loads : List (List ℕ) → ℕ → ℕ → Option (List ℕ) → Result (List ℕ) StoreFault → Type 0
Loads pages n first own (Ok bytes) = LoadedIs pages n first own bytes
Loads pages n first own (Err (BadStore at)) = (own ≡ None) × IsRefused pages n first at
Loads pages n first own (Err _) = Unit {0}

-- a call that reads the old pages of a chain, where the transaction has not read them, may give this answer
abbrev pub Brings : List (List ℕ) → ℕ → ℕ → Option (List ℕ) → Result (Unit {0}) StoreFault → Type 0
Brings pages n first known (Ok done) = Unit {0}
Brings pages n first known (Err (BadStore at)) = (known ≡ None) × IsRefused pages n first at
Brings pages n first known (Err _) = Unit {0}

-- a call that lists the pages of a chain may give this answer
abbrev pub ListsPages : List (List ℕ) → ℕ → ℕ → Result (List ℕ) StoreFault → Type 0
ListsPages pages n first (Ok ns) = HasPages (page_in pages) (length pages + 1) n first ns
ListsPages pages n first (Err (BadStore at)) = IsRefused pages n first at
ListsPages pages n first (Err _) = Unit {0}

-- the transaction has an empty string there
abbrev pub IsEmptyString : {D : Type 0} {g : Ghosts D} → Chains D g → ℕ → Type 0
IsEmptyString chains n = MatchOption (map.get chains.written n) (kept_first chains.kept n ≡ 0) (λ own. own ≡ [])

-- the fields may become these: the number of buckets stays, or all buckets are empty and it may be one
abbrev pub MaySet : {D : Type 0} {g : Ghosts D} → Chains D g → Root → Type 0
MaySet chains root = (root.buckets ≡ chains.root.buckets)
    ⊎ (IsTrue (is_power_of_two root.buckets) × (root.buckets ≤ 65536) × ((n : ℕ) → 16 ≤ n → IsChain n → IsEmptyString chains n))
