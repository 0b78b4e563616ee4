-- What a call over a journal leaves alone, and how it may refuse.
use Rattle.std.specs.Prelude.{◌≡◌, ◌||◌, Result}
use Rattle.outside.specs.Disk.{Stays}
use Rattle.outside.specs.declared.disk.Disk.{Ghosts}
use Rattle.page_journal.specs.Answers.{HasDiskCause, IsReadAnswer, answers_disk_fault}
use Rattle.page_journal.specs.Journal.{home_count, is_broken, loan_of, page_limit, view_of}
use Rattle.page_journal.specs.declared.fault.StoreFault.{StoreFault}
use Rattle.page_journal.specs.declared.journal.Journal.{Journal}

-- the journal was only looked at: its pages and all that a crash may leave are as before
pub record Looked {D : Type 0} {g : Ghosts D} (old new : Journal D g) : Type 0 where
  pub stays : Stays (view_of old) (view_of new)
  pub pages : home_count new ≡ home_count old
  pub limit : page_limit new ≡ page_limit old
  pub same_disk : loan_of new ≡ loan_of old

-- a call that only looks at the journal. It is broken from then on where the answer is that the disk failed.
pub record LooksAtJournal {D T : Type 0} {g : Ghosts D} (old new : Journal D g) (result : Result T StoreFault) : Type 0 where
  pub looked : Looked old new
  pub alone : IsReadAnswer (is_broken old) result
  pub broken : is_broken new ≡ (is_broken old || answers_disk_fault result)
  pub cause : HasDiskCause (view_of old).faults (view_of new).faults result

-- a call that may write the journal's pages: it is over the same disk, within the same limit
pub record KeepsJournal {D T : Type 0} {g : Ghosts D} (old new : Journal D g) (result : Result T StoreFault) : Type 0 where
  pub same_disk : loan_of new ≡ loan_of old
  pub limit : page_limit new ≡ page_limit old
  pub broken : is_broken new ≡ (is_broken old || answers_disk_fault result)
  pub cause : HasDiskCause (view_of old).faults (view_of new).faults result
