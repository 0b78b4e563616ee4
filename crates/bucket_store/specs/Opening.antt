-- A store is opened: what is kept of it, and which answers that may give.
use Rattle.std.specs.Prelude.{◌≡◌, ◌⊎◌, ℕ, ◌+◌, false, List, length, Result, Ok, Err, IsErrOf, OnOk}
use Rattle.outside.specs.Bytes.{IfTold, IsTold}
use Rattle.outside.specs.Disk.{Crashes, DiskView, Goes, Stays, Tells, Within}
use Rattle.outside.specs.declared.disk.Disk.{Ghosts}
use Rattle.page_journal.specs.Answers.{HasDiskCause, HomeRefused, JournalRefused, answers_disk_fault}
use Rattle.page_journal.specs.Crash.{IsAtRest}
use Rattle.page_journal.specs.Home.{HasOpenJournal, Home, IsFormatted}
use Rattle.page_journal.specs.declared.fault.StoreFault.{StoreFault}
use Rattle.page_journal.specs.declared.fault.StoreFault.TheVariants.{NotFormatted, BadStore, DiskFault, OutOfMemory}
use Rattle.chain_store.specs.Answers.{ReadsKept}
use Rattle.chain_store.specs.Chains.{kept_of}
use Rattle.chain_store.specs.Directories.{root_in}
use Rattle.chain_store.specs.Kept.{page_total}
use Rattle.chain_store.specs.Store.{Keeps}
use Rattle.chain_store.specs.declared.root.Root.{Root}
use Rattle.bucket_store.specs.Image.{HasImage, HoldsImage, Image, IsSoundAnswer}
use Rattle.bucket_store.specs.Calls.{IsBegun}
use Rattle.bucket_store.specs.Transaction.{IsOpenStore, chains_of}
use Rattle.bucket_store.specs.declared.buckets.Buckets.{Buckets}
use Rattle.bucket_store.specs.declared.resting.Resting.{Resting}

-- what was read of a store is so on this disk, which is at rest
pub record Fits (opened : Resting) (view : DiskView) : Type 0 where
  pub pages : List (List ℕ)
  pub rests : IsAtRest pages view
  pub many : length pages + 1 ≡ opened.pages
  pub keeps : Keeps pages opened.kept

-- it is so with these home pages
pub record FitsPages (pages : List (List ℕ)) (opened : Resting) (view : DiskView) : Type 0 where
  pub rests : IsAtRest pages view
  pub many : length pages + 1 ≡ opened.pages
  pub keeps : Keeps pages opened.kept

-- the fields that were read
abbrev pub opened_root : Resting → Root
opened_root opened = root_in opened.kept.front.items

-- the buckets of a store of which this was read on this disk, with a transaction begun
pub record IsOver {D : Type 0} {g : Ghosts D} (opened : Resting) (view : DiskView) (buckets : Buckets D g) : Type 0 where
  pub open_store : (fits : Fits opened view) → IsOpenStore fits.pages buckets
  pub kept : kept_of (chains_of buckets) ≡ opened.kept
  pub begun : IsBegun buckets

-- how many pages the directories have together
abbrev pub directory_pages : Resting → ℕ
directory_pages opened = page_total opened.kept.directories.items

-- a store that means something
abbrev pub IsMeant : List ℕ → Type 0
IsMeant left = (image : Image) × HasImage image left

-- a content that means all that one of these outcomes means
pub record MeansOne (crashes : Crashes) (left : List ℕ) : Type 0 where
  pub one : List ℕ
  pub among : crashes.outcomes one
  pub means : (image : Image) → HasImage image one → HasImage image left

-- opening a store of these bytes may give this answer
abbrev pub OpensStore : {T : Type 0} → List ℕ → Result T StoreFault → Type 0
OpensStore bytes (Ok opened) = (pages : List (List ℕ)) × Home pages bytes
OpensStore bytes (Err NotFormatted) = ¬ IsFormatted bytes
OpensStore bytes (Err (BadStore page)) = (JournalRefused bytes page ⊎ HomeRefused bytes page)
    ⊎ ((pages : List (List ℕ)) × Home pages bytes × ReadsKept pages (Err (BadStore page)))
OpensStore bytes (Err DiskFault) = Unit {0}
OpensStore bytes (Err OutOfMemory) = Unit {0}
OpensStore bytes (Err _) = ⊥

-- and whatever the disk tells, it gives no other answer than these
abbrev pub IsOpeningAnswer : {T : Type 0} → Result T StoreFault → Type 0
IsOpeningAnswer (Ok opened) = Unit {0}
IsOpeningAnswer (Err NotFormatted) = Unit {0}
IsOpeningAnswer (Err (BadStore page)) = Unit {0}
IsOpeningAnswer (Err DiskFault) = Unit {0}
IsOpeningAnswer (Err OutOfMemory) = Unit {0}
IsOpeningAnswer (Err _) = ⊥

-- what an opening finds: a store that means something is found so, refused by nothing but the disk and memory, and each outcome of
-- a crash during the call means what one at its entry means
pub record FindsImage {T : Type 0} (old new : DiskView) (result : Result T StoreFault) : Type 0 where
  pub found : OnOk result ((bytes : List ℕ) → Tells old bytes → (image : Image) → HasImage image bytes → HoldsImage image new)
  pub sound : (bytes : List ℕ) → Tells old bytes → (image : Image) → HasImage image bytes → IsSoundAnswer result
  pub any_moment : (bytes : List ℕ) → Tells old bytes → Within IsMeant old.crashes → Goes (MeansOne old.crashes) old.crashes new.crashes

-- what it leaves of the disk: only a well-formed journal that is open lets it write
pub record LeavesDisk {T : Type 0} (old new : DiskView) (result : Result T StoreFault) : Type 0 where
  pub looked : IfTold old.content (λ bytes. ¬ HasOpenJournal bytes → Stays old new)
  pub refused : IsErrOf result NotFormatted → Stays old new
  pub told : (bytes : List ℕ) → Tells old bytes → answers_disk_fault result ≡ false → IsTold new.content
  pub cause : HasDiskCause old.faults new.faults result
