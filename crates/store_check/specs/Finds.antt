-- What a call finds that only reads a store, and what it leaves.
use Rattle.std.specs.Prelude.{◌≡◌, ◌||◌, Result, IfOk, OnOk}
use Rattle.outside.specs.declared.disk.Disk.{Ghosts}
use Rattle.page_journal.specs.Answers.{HasDiskCause, answers_disk_fault}
use Rattle.page_journal.specs.Journal.{is_broken}
use Rattle.page_journal.specs.declared.fault.StoreFault.{StoreFault}
use Rattle.chain_store.specs.Answers.{IsReadAnswer}
use Rattle.chain_store.specs.Chains.{OnlyRead, disk_of, journal_of}
use Rattle.bucket_store.specs.Image.{Has, Image, IsSoundAnswer, OnlyLooks}
use Rattle.bucket_store.specs.Transaction.{chains_of}
use Rattle.bucket_store.specs.declared.buckets.Buckets.{Buckets}
use Rattle.store_check.specs.declared.reading.Reading.{Reading}

-- what a call leaves of the store that only reads, whatever it answers
pub record Peeks {D T : Type 0} {g : Ghosts D} (old new : Buckets D g) (result : Result T StoreFault) : Type 0 where
  pub same : OnlyLooks old new
  pub stays : OnlyRead (chains_of old) (chains_of new)
  pub alone : IsReadAnswer (is_broken (journal_of (chains_of old))) result
  pub broken : is_broken (journal_of (chains_of new)) ≡ (is_broken (journal_of (chains_of old)) || answers_disk_fault result)
  pub cause : HasDiskCause (disk_of (chains_of old)).faults (disk_of (chains_of new)).faults result

-- what it finds. In a store that means something its answer is so by what the store means, the transaction has the same then, and it is
-- refused for the disk and memory alone. Whatever it answers, the store was only looked at.
pub record FindsThere {D T : Type 0} {g : Ghosts D} (old new : Buckets D g) (result : Result T StoreFault)
    (Is : Image → T → Type 0) : Type 0 where
  pub so : IfOk result (λ answer. (rest : Image) → Has rest rest old → Is rest answer)
  pub has : OnOk result ((rest : Image) → Has rest rest old → Has rest rest new)
  pub sound : (rest : Image) → Has rest rest old → IsSoundAnswer result
  pub peeks : Peeks old new result

-- the same of a reading, which is of the transaction that it was of
pub record Finds {D T : Type 0} {g : Ghosts D} (old new : Reading D g) (result : Result T StoreFault) (Is : Image → T → Type 0) : Type 0 where
  pub loan : new.buckets.ghost_name ≡ old.buckets.ghost_name
  pub so : IfOk result (λ answer. (rest : Image) → Has rest rest old.buckets.now → Is rest answer)
  pub has : OnOk result ((rest : Image) → Has rest rest old.buckets.now → Has rest rest new.buckets.now)
  pub sound : (rest : Image) → Has rest rest old.buckets.now → IsSoundAnswer result
  pub peeks : Peeks old.buckets.now new.buckets.now result

-- what calls leave that were all answered
pub record Saw {D : Type 0} {g : Ghosts D} (old new : Reading D g) : Type 0 where
  pub loan : new.buckets.ghost_name ≡ old.buckets.ghost_name
  pub same : OnlyLooks old.buckets.now new.buckets.now
  pub stays : OnlyRead (chains_of old.buckets.now) (chains_of new.buckets.now)
  pub still : is_broken (journal_of (chains_of new.buckets.now)) ≡ is_broken (journal_of (chains_of old.buckets.now))
  pub has : (rest : Image) → Has rest rest old.buckets.now → Has rest rest new.buckets.now
