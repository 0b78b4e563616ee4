-- What a commit of the buckets of an open store does, and what it leaves.
use Rattle.std.specs.Prelude.{◌≡◌, ◌⊎◌, ◌||◌, ℕ, false, is_err, List, Result, IsErr, OnOk}
use Rattle.std.specs.FinMap as map
use Rattle.outside.specs.Disk.{Goes}
use Rattle.outside.specs.declared.disk.Disk.{Ghosts}
use Rattle.page_journal.specs.Answers.{HasDiskCause, answers_disk_fault}
use Rattle.page_journal.specs.Journal.{home_count, is_broken, loan_of, page_limit}
use Rattle.page_journal.specs.declared.fault.StoreFault.{StoreFault}
use Rattle.chain_store.specs.Chains.{disk_of, journal_of, root_of, written_of}
use Rattle.chain_store.specs.Ends.{IsCommitAnswer}
use Rattle.chain_store.specs.State.{HasState, IsState}
use Rattle.chain_store.specs.declared.root.Root.{Root}
use Rattle.bucket_store.specs.Committing.{CommitsBuckets, given}
use Rattle.bucket_store.specs.Image.{Has, HasImage, Image, IsSoundCommit, OnlyLooks}
use Rattle.bucket_store.specs.Needed.{FitsImage}
use Rattle.bucket_store.specs.Transaction.{IsOpenStore, cached_of, chains_of, has_refused}
use Rattle.bucket_store.specs.declared.buckets.Buckets.{Buckets}

-- by its strings: a crash leaves those that were or those that are given, and once it succeeds the store rests with these
pub record CommitsStrings {D : Type 0} {g : Ghosts D} (old new : Buckets D g) (result : Result (Unit {0}) StoreFault) : Type 0 where
  pub any_moment : (root : Root) (strings : ℕ → List ℕ) (pages : List (List ℕ)) → IsOpenStore pages old → IsState root strings pages
      → Goes (λ left. HasState root strings left
      ⊎ HasState (root_of (chains_of old)) (given strings (cached_of old) (written_of (chains_of old))) left)
      (disk_of (chains_of old)).crashes (disk_of (chains_of new)).crashes
  pub done : OnOk result ((root : Root) (strings : ℕ → List ℕ) (pages : List (List ℕ)) → IsOpenStore pages old → IsState root strings pages
      → (later : List (List ℕ)) × IsOpenStore later new
      × IsState (root_of (chains_of old)) (given strings (cached_of old) (written_of (chains_of old))) later)
  pub answers : (pages : List (List ℕ)) → IsOpenStore pages old
      → CommitsBuckets pages (chains_of old) (cached_of old) (page_limit (journal_of (chains_of old)))
      (home_count (journal_of (chains_of new))) result

-- by what it means: a crash leaves what it meant or what the transaction has, and once it succeeds it means the latter
pub record CommitsImage {D : Type 0} {g : Ghosts D} (old new : Buckets D g) (result : Result (Unit {0}) StoreFault) : Type 0 where
  pub any_moment : (rest now : Image) → Has rest now old → Goes (λ left. HasImage rest left ⊎ HasImage now left)
      (disk_of (chains_of old)).crashes (disk_of (chains_of new)).crashes
  pub has : OnOk result ((rest now : Image) → Has rest now old → Has now now new)
  pub needs : (rest now : Image) → Has rest now old → FitsImage (home_count (journal_of (chains_of old))) now
      (page_limit (journal_of (chains_of old))) (home_count (journal_of (chains_of new))) result
  pub sound : (rest now : Image) → Has rest now old → IsSoundCommit (page_limit (journal_of (chains_of old))) result

-- what it leaves, whatever it answers: refused other than by a disk fault the store was only looked at
pub record EndsCommit {D T : Type 0} {g : Ghosts D} (old new : Buckets D g) (result : Result T StoreFault) : Type 0 where
  pub opens : IsErr result → answers_disk_fault result ≡ false → (pages : List (List ℕ)) → IsOpenStore pages old → IsOpenStore pages new
  pub same : IsErr result → answers_disk_fault result ≡ false → OnlyLooks old new
  pub alone : IsCommitAnswer (is_broken (journal_of (chains_of old))) (page_limit (journal_of (chains_of old))) result
  pub none : cached_of new ≡ map.empty
  pub refused : has_refused new ≡ is_err result
  pub broken : is_broken (journal_of (chains_of new)) ≡ (is_broken (journal_of (chains_of old)) || answers_disk_fault result)
  pub cause : HasDiskCause (disk_of (chains_of old)).faults (disk_of (chains_of new)).faults result
  pub limit : page_limit (journal_of (chains_of new)) ≡ page_limit (journal_of (chains_of old))
  pub same_disk : loan_of (journal_of (chains_of new)) ≡ loan_of (journal_of (chains_of old))
