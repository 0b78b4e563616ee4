-- What a call on an open store leaves alone, and how it may refuse.
use Rattle.std.specs.Prelude.{◌≡◌, ◌*◌, ◌⊎◌, ◌<◌, ◌||◌, ℕ, Bool, false, is_err, List, None, Result, IsErr, IsSome, OnOk, OnErr}
use Rattle.std.specs.FinMap as map
use Rattle.outside.specs.Disk.{ReadsAtMost}
use Rattle.outside.specs.declared.disk.Disk.{Ghosts}
use Rattle.page_journal.specs.Answers.{HasDiskCause, IsReadAnswer, answers_disk_fault}
use Rattle.page_journal.specs.Journal.{home_count, is_broken, loan_of, page_limit}
use Rattle.page_journal.specs.JournalCalls.{Looked}
use Rattle.page_journal.specs.declared.fault.StoreFault.{StoreFault}
use Rattle.page_journal.specs.declared.layout.TheConstants.{PAGE_LEN}
use Rattle.chain_store.specs.Chains.{Brings, IsOpen, Loads, OnlyRead, before_of, disk_of, first_of, is_refused, journal_of, kept_of}
use Rattle.chain_store.specs.Chains.{read_of, root_of, texts_of, written_of}
use Rattle.chain_store.specs.Directories.{root_in}
use Rattle.chain_store.specs.Ends.{IsCommitAnswer}
use Rattle.chain_store.specs.Known.{MayRead, MayReadAgain}
use Rattle.chain_store.specs.declared.chains.Chains.{Chains}

-- a call that only looks at the store, after which the transaction has refused a call or has not
pub record LooksAtStore {D T : Type 0} {g : Ghosts D} (has_refused : Bool) (old new : Chains D g)
    (result : Result T StoreFault) : Type 0 where
  pub opens : (pages : List (List ℕ)) → IsOpen pages old → IsOpen pages new
  pub alone : IsReadAnswer (is_broken (journal_of old)) result
  pub stays : OnlyRead old new
  pub broken : is_broken (journal_of new) ≡ (is_broken (journal_of old) || answers_disk_fault result)
  pub refused : is_refused new ≡ has_refused
  pub cause : HasDiskCause (disk_of old).faults (disk_of new).faults result

-- a call that changes a string of the transaction, and only looks at the store
pub record ChangesString {D T : Type 0} {g : Ghosts D} (old new : Chains D g) (result : Result T StoreFault) : Type 0 where
  pub alone : IsReadAnswer (is_broken (journal_of old)) result
  pub looked : Looked (journal_of old) (journal_of new)
  pub kept : kept_of new ≡ kept_of old
  pub root : root_of new ≡ root_of old
  pub broken : is_broken (journal_of new) ≡ (is_broken (journal_of old) || answers_disk_fault result)
  pub refused : is_refused new ≡ is_err result
  pub cause : HasDiskCause (disk_of old).faults (disk_of new).faults result

-- a commit. A refusal that is no fault of the disk leaves the store open as it was.
pub record CommitsStore {D T : Type 0} {g : Ghosts D} (old new : Chains D g) (result : Result T StoreFault) : Type 0 where
  pub alone : IsCommitAnswer (is_broken (journal_of old)) (page_limit (journal_of old)) result
  pub opens : IsErr result → answers_disk_fault result ≡ false → (pages : List (List ℕ)) → IsOpen pages old → IsOpen pages new
  pub looked : IsErr result → answers_disk_fault result ≡ false → Looked (journal_of old) (journal_of new)
  pub kept : IsErr result → kept_of new ≡ kept_of old
  pub same_disk : loan_of (journal_of new) ≡ loan_of (journal_of old)
  pub limit : page_limit (journal_of new) ≡ page_limit (journal_of old)
  pub broken : is_broken (journal_of new) ≡ (is_broken (journal_of old) || answers_disk_fault result)
  pub cause : HasDiskCause (disk_of old).faults (disk_of new).faults result

-- the transaction has a string more; or where the call refuses, those that it had
pub record PutsString {D E : Type 0} {g : Ghosts D} (n : ℕ) (bytes : List ℕ) (old new : Chains D g)
    (result : Result (Unit {0}) E) : Type 0 where
  pub written : OnOk result (written_of new ≡ map.insert (written_of old) n bytes)
  pub err : OnErr result (written_of new ≡ written_of old)

-- the old pages of a chain are known. They were read, where the transaction had not read them.
pub record BringsChain {D : Type 0} {g : Ghosts D} (n : ℕ) (old new : Chains D g) (result : Result (Unit {0}) StoreFault) : Type 0 where
  pub answers : (pages : List (List ℕ)) → IsOpen pages old → Brings pages n (first_of old n) (map.get (read_of old) n) result
  pub reads : OnOk result (MayRead (PAGE_LEN * home_count (journal_of old)) n (read_of old) (read_of new) (disk_of old) (disk_of new))
  pub own : IsSome (map.get (read_of old) n) → (read_of new ≡ read_of old)
      × ReadsAtMost 0 (PAGE_LEN * home_count (journal_of old)) (disk_of old) (disk_of new)
  pub known : OnOk result (IsSome (map.get (read_of new) n))

-- the bytes of a chain are given. It was read, where the transaction had neither written it nor kept what it read.
pub record LoadsChain {D : Type 0} {g : Ghosts D} (n : ℕ) (old new : Chains D g) (result : Result (List ℕ) StoreFault) : Type 0 where
  pub answers : (pages : List (List ℕ)) → IsOpen pages old → Loads pages n (first_of old n) (map.get (written_of old) n) result
  pub reads : OnOk result (n < 16 ⊎ (map.get (read_of old) n ≡ None)
      → MayRead (PAGE_LEN * home_count (journal_of old)) n (read_of old) (read_of new) (disk_of old) (disk_of new))
  pub again : OnOk result (MayReadAgain (PAGE_LEN * home_count (journal_of old)) n (read_of old) (read_of new) (disk_of old) (disk_of new))
  pub own : IsSome (map.get (written_of old) n) → (read_of new ≡ read_of old)
      × ReadsAtMost 0 (PAGE_LEN * home_count (journal_of old)) (disk_of old) (disk_of new)
  pub known : OnOk result (map.get (written_of old) n ≡ None → IsSome (map.get (read_of new) n))

-- the transaction was begun, and nothing was read or written since
pub record IsBegun {D : Type 0} {g : Ghosts D} (chains : Chains D g) : Type 0 where
  pub read : read_of chains ≡ map.empty
  pub written : written_of chains ≡ map.empty
  pub before : before_of chains ≡ map.empty
  pub texts : texts_of chains ≡ map.empty
  pub root : root_of chains ≡ root_in (kept_of chains).front.items
