-- When each answer comes, and what a call leaves of the disk.
use Rattle.std.specs.Prelude.{◌≡◌, ◌≢◌, ◌⊎◌, ℕ, ◌+◌, ◌*◌, ◌==◌, ◌<◌, List, length, Result, Vec, Ok, Err, if◌then◌else◌}
use Rattle.outside.specs.declared.disk.Disk.{Ghosts}
pub use Rattle.page_journal.specs.Answers.{IsReadAnswer}
pub use Rattle.page_journal.specs.JournalCalls.{Looked}
use Rattle.page_journal.specs.Crash.{IsAtRest}
use Rattle.page_journal.specs.Journal.{home_count, view_of}
use Rattle.page_journal.specs.declared.journal.Journal.{Journal}
use Rattle.page_journal.specs.declared.fault.StoreFault.{StoreFault}
use Rattle.page_journal.specs.declared.fault.StoreFault.TheVariants.{BadStore}
use Rattle.chain_store.specs.declared.kept.Kept.{Kept}
use Rattle.chain_store.specs.declared.walking.Walked.{Walked}
use Rattle.chain_store.specs.Chain.{HasPages, Holds, Refused, data_in}
use Rattle.chain_store.specs.Directories.{IsCount, directory_first, root_in}
use Rattle.chain_store.specs.Links.{IsLink, page_in}
use Rattle.chain_store.specs.Kept.{pages_at, bytes_at}
use Rattle.chain_store.specs.Store.{Keeps}
use Rattle.std.specs.declared.alloc.Global.{Global}

-- the store of the journal is at rest with these home pages
abbrev pub RestsWith : {D : Type 0} {g : Ghosts D} → List (List ℕ) → Journal D g → Type 0
RestsWith pages journal = IsAtRest pages (view_of journal) × (length pages + 1 ≡ home_count journal)

-- walking over a chain may give this answer
abbrev pub Walks : (ℕ → List ℕ) → ℕ → ℕ → ℕ → Result Walked StoreFault → Type 0
Walks page home chain first (Ok walked) =
    HasPages page home chain first walked.pages.items × (data_in page walked.pages.items ≡ walked.bytes.items)
Walks page home chain first (Err (BadStore at)) = Refused page home chain first at
Walks page home chain first (Err _) = Unit {0}

-- looking at a page of a chain may give this answer
abbrev pub LooksAt : List ℕ → ℕ → ℕ → List ℕ → Result (Unit {0}) StoreFault → Type 0
LooksAt page chain at read (Ok done) = (read ≡ page) × IsLink chain page
LooksAt page chain at read (Err (BadStore refused)) = (refused ≡ at) × (¬ IsLink chain page)
LooksAt page chain at read (Err _) = Unit {0}

-- the directory of a map has a first page for each bucket
pub record IsDirectory (pages : List (List ℕ)) (m : ℕ) : Type 0 where
  pub bytes : List ℕ
  pub holds : Holds (page_in pages) (length pages + 1) (8 + m) (directory_first (page_in pages 1) m) bytes
  pub long : length bytes ≡ 8 * (root_in (page_in pages 1)).buckets

-- the first page of a directory, or the root page where it has none
abbrev pub first_or_root : ℕ → ℕ
first_or_root first = if first == 0 then 1 else first

-- the directory of a map is refused at this page, or it begins there and has other than a first page for each bucket
abbrev pub IsBadDirectory : List (List ℕ) → ℕ → ℕ → Type 0
IsBadDirectory pages m at = Refused (page_in pages) (length pages + 1) (8 + m) (directory_first (page_in pages 1) m) at
    ⊎ ((bytes : List ℕ) × Holds (page_in pages) (length pages + 1) (8 + m) (directory_first (page_in pages 1) m) bytes
    × (length bytes ≢ 8 * (root_in (page_in pages 1)).buckets) × (at ≡ first_or_root (directory_first (page_in pages 1) m)))

-- reading the directory of a map may give this answer
abbrev pub ReadsDirectory : List (List ℕ) → ℕ → Result Walked StoreFault → Type 0
ReadsDirectory pages m (Ok walked) =
    HasPages (page_in pages) (length pages + 1) (8 + m) (directory_first (page_in pages 1) m) walked.pages.items
    × (data_in (page_in pages) walked.pages.items ≡ walked.bytes.items)
ReadsDirectory pages m (Err (BadStore at)) = IsBadDirectory pages m at
ReadsDirectory pages m (Err _) = Unit {0}

-- so many directories were read
pub record HaveRead (pages : List (List ℕ)) (directories : List Walked) (count : ℕ) : Type 0 where
  pub has : (m : ℕ) → m < count
      → HasPages (page_in pages) (length pages + 1) (8 + m) (directory_first (page_in pages 1) m) (pages_at directories m)
  pub held : (m : ℕ) → m < count → data_in (page_in pages) (pages_at directories m) ≡ bytes_at directories m

-- reading all of them may give this answer
abbrev pub ReadsDirectories : List (List ℕ) → Result (Vec Walked Global) StoreFault → Type 0
ReadsDirectories pages (Ok directories) = HaveRead pages directories.items 8
ReadsDirectories pages (Err (BadStore at)) = (m : ℕ) × (m < 8) × ((k : ℕ) → k < m → IsDirectory pages k) × IsBadDirectory pages m at
ReadsDirectories pages (Err _) = Unit {0}

-- reading what is kept of a store may give this answer
abbrev pub ReadsKept : List (List ℕ) → Result Kept StoreFault → Type 0
ReadsKept pages (Ok kept) = IsCount (root_in (page_in pages 1)).buckets × Keeps pages kept
ReadsKept pages (Err (BadStore at)) = ((¬ IsCount (root_in (page_in pages 1)).buckets) × (at ≡ 1))
    ⊎ ((m : ℕ) × (m < 8) × ((k : ℕ) → k < m → IsDirectory pages k) × IsBadDirectory pages m at)
ReadsKept pages (Err _) = Unit {0}
