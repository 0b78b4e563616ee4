-- When each answer comes. A call over a disk may answer that the disk failed in place of any other; that this comes
-- only where the disk's count of faults rose is said beside.
use Rattle.std.specs.Prelude.{◌≡◌, ◌≢◌, ◌⊎◌, ℕ, ◌+◌, ◌*◌, ◌<◌, ◌≤◌, Bool, true, false, Option, Some, None, List, length, Result, Ok, Err}
use Rattle.std.specs.Prelude.{IsErrOf}
use Rattle.outside.specs.Causes.{Rose}
use Rattle.page_journal.specs.Home.{IsFormatted, IsWellFormed, IsHomePage}
use Rattle.page_journal.specs.Pages.{number, gate, first_page, page_count}
use Rattle.page_journal.specs.declared.fault.StoreFault.{StoreFault}
use Rattle.page_journal.specs.declared.fault.StoreFault.TheVariants.{NotFormatted, NotEmpty, BadStore, DiskFault, StoreFull, Broken}
use Rattle.page_journal.specs.declared.fault.StoreFault.TheVariants.{OutOfMemory}
use Rattle.page_journal.specs.declared.layout.TheConstants.{OPEN, ROOT_AT, PAGE_LEN}

abbrev pub is_disk_fault : StoreFault → Bool
is_disk_fault DiskFault = true
is_disk_fault _ = false

abbrev pub answers_disk_fault : {T : Type 0} → Result T StoreFault → Bool
answers_disk_fault (Ok value) = false
answers_disk_fault (Err fault) = is_disk_fault fault

-- the store is formatted, and where the gate is open the journal is well formed, so that it can be finished
pub record CanFinish (bytes : List ℕ) : Type 0 where
  pub formatted : IsFormatted bytes
  pub journal : gate bytes ≡ OPEN → IsWellFormed bytes

-- page 1, once the journal is copied home, says that there are so many home pages
pub record SaysHome (bytes : List ℕ) (home : ℕ) : Type 0 where
  pub root : List ℕ
  pub stands : IsHomePage bytes 1 root
  pub says : number root 0 ≡ home

-- the gate is open and the journal is not well formed
pub record JournalRefused (bytes : List ℕ) (page : ℕ) : Type 0 where
  pub zero : page ≡ 0
  pub formatted : IsFormatted bytes
  pub is_open : gate bytes ≡ OPEN
  pub malformed : ¬ IsWellFormed bytes

-- with the gate shut, or once the journal is finished, there are fewer than two home pages, or not all are there
pub record HomeRefused (bytes : List ℕ) (page : ℕ) : Type 0 where
  pub one : page ≡ 1
  pub finish : CanFinish bytes
  pub home : ℕ
  pub says : SaysHome bytes home
  pub bad : (home < 2) ⊎ (length bytes < PAGE_LEN * home)

-- opening a store of these bytes may give this answer
abbrev pub Opens : List ℕ → Result ℕ StoreFault → Type 0
Opens bytes (Ok home) = CanFinish bytes × SaysHome bytes home × (2 ≤ home) × (PAGE_LEN * home ≤ length bytes)
Opens bytes (Err NotFormatted) = ¬ IsFormatted bytes
Opens bytes (Err (BadStore page)) = JournalRefused bytes page ⊎ HomeRefused bytes page
Opens bytes (Err DiskFault) = Unit {0}
Opens bytes (Err _) = ⊥

-- and whatever the disk tells, it gives no other answer than these
abbrev pub IsOpenAnswer : {T : Type 0} → Result T StoreFault → Type 0
IsOpenAnswer (Ok value) = Unit {0}
IsOpenAnswer (Err NotFormatted) = Unit {0}
IsOpenAnswer (Err (BadStore page)) = page < 2
IsOpenAnswer (Err DiskFault) = Unit {0}
IsOpenAnswer (Err _) = ⊥

-- finishing the journal of these bytes, if it is open, may give this answer
abbrev pub Finishes : List ℕ → Result Bool StoreFault → Type 0
Finishes bytes (Ok moved) = gate bytes ≡ OPEN → IsWellFormed bytes
Finishes bytes (Err (BadStore page)) = JournalRefused bytes page
Finishes bytes (Err DiskFault) = Unit {0}
Finishes bytes (Err _) = ⊥

-- the first looks at these bytes may give these answers
abbrev pub Prepares : List ℕ → Result ℕ StoreFault → Type 0
Prepares bytes (Ok len) = IsFormatted bytes × (len ≡ length bytes)
Prepares bytes (Err NotFormatted) = ¬ IsFormatted bytes
Prepares bytes (Err DiskFault) = Unit {0}
Prepares bytes (Err _) = ⊥

abbrev pub Looks : List ℕ → Result (Option (ℕ × ℕ)) StoreFault → Type 0
Looks bytes (Ok None) = gate bytes ≢ OPEN
Looks bytes (Ok (Some found)) = (gate bytes ≡ OPEN) × IsWellFormed bytes × (found.0 ≡ first_page bytes) × (found.1 ≡ page_count bytes)
Looks bytes (Err (BadStore page)) = JournalRefused bytes page
Looks bytes (Err DiskFault) = Unit {0}
Looks bytes (Err _) = ⊥

abbrev pub Counts : List ℕ → ℕ → Result ℕ StoreFault → Type 0
Counts bytes len (Ok home) = (home ≡ number bytes ROOT_AT) × (2 ≤ home) × (PAGE_LEN * home ≤ len)
Counts bytes len (Err (BadStore page)) = (page ≡ 1) × ((number bytes ROOT_AT < 2) ⊎ (len < PAGE_LEN * number bytes ROOT_AT))
Counts bytes len (Err DiskFault) = Unit {0}
Counts bytes len (Err _) = ⊥

-- formatting a disk of these bytes may give this answer
abbrev pub Formats : List ℕ → Result (Unit {0}) StoreFault → Type 0
Formats bytes (Ok done) = length bytes ≡ 0
Formats bytes (Err NotEmpty) = length bytes ≢ 0
Formats bytes (Err DiskFault) = Unit {0}
Formats bytes (Err _) = ⊥

-- and whatever the disk tells, it gives no other answer than these
abbrev pub IsFormatAnswer : Result (Unit {0}) StoreFault → Type 0
IsFormatAnswer (Ok done) = Unit {0}
IsFormatAnswer (Err NotEmpty) = Unit {0}
IsFormatAnswer (Err DiskFault) = Unit {0}
IsFormatAnswer (Err _) = ⊥

-- the disk's count of faults did not fall, and it rose where the answer is that the disk failed
pub record HasDiskCause {T : Type 0} (before now : ℕ) (result : Result T StoreFault) : Type 0 where
  pub later : before ≤ now
  pub failed : IsErrOf result DiskFault → Rose before now

-- a commit to so many home pages may give this answer, of a journal that is broken or not and has this limit
abbrev pub Commits : Bool → ℕ → ℕ → Result (Unit {0}) StoreFault → Type 0
Commits broken limit home (Ok done) = (broken ≡ false) × (home ≤ limit)
Commits broken limit home (Err (StoreFull pages)) = (broken ≡ false) × (limit < home) × (pages ≡ home)
Commits broken limit home (Err Broken) = broken ≡ true
Commits broken limit home (Err DiskFault) = (broken ≡ false) × (home ≤ limit)
Commits broken limit home (Err _) = ⊥

-- a read of a page of a journal that is broken or not may give this answer
abbrev pub Reads : Bool → ℕ → Result (Unit {0}) StoreFault → Type 0
Reads broken page (Ok done) = broken ≡ false
Reads broken page (Err (BadStore at)) = (broken ≡ false) × (at ≡ page)
Reads broken page (Err Broken) = broken ≡ true
Reads broken page (Err DiskFault) = broken ≡ false
Reads broken page (Err _) = ⊥

-- and where the disk tells these bytes, the page is there, or they end inside it
abbrev pub ReadsFrom : List ℕ → ℕ → Result (Unit {0}) StoreFault → Type 0
ReadsFrom bytes page (Ok done) = PAGE_LEN * page + PAGE_LEN ≤ length bytes
ReadsFrom bytes page (Err (BadStore at)) = length bytes < PAGE_LEN * page + PAGE_LEN
ReadsFrom bytes page (Err _) = Unit {0}

-- a call that reads pages gives no answer but these. That an earlier call met a disk fault is answered only where one
-- did, and that the disk failed only where none had.
abbrev pub IsReadAnswer : {T : Type 0} → Bool → Result T StoreFault → Type 0
IsReadAnswer broken (Ok value) = Unit {0}
IsReadAnswer broken (Err (BadStore page)) = Unit {0}
IsReadAnswer broken (Err DiskFault) = broken ≡ false
IsReadAnswer broken (Err Broken) = broken ≡ true
IsReadAnswer broken (Err OutOfMemory) = Unit {0}
IsReadAnswer broken (Err _) = ⊥
