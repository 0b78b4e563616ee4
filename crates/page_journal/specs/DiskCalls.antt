-- What a call over a disk leaves alone, and how it may refuse.
use Rattle.std.specs.Prelude.{◌≡◌, ◌≤◌, ℕ, Bool, false, List, Result, IfOk, IfErr, IsErrOf}
use Rattle.outside.specs.Bytes.{IfTold, IsTold}
use Rattle.outside.specs.Causes.{HasCause}
use Rattle.outside.specs.Disk.{DiskView, Elapses, Follows, Goes, ReadsAtMost, Stays, Tells, Torn, Within}
use Rattle.page_journal.specs.Answers.{HasDiskCause, IsOpenAnswer, answers_disk_fault, is_disk_fault}
use Rattle.page_journal.specs.Crash.{BesideJournal, Spares}
use Rattle.page_journal.specs.Home.{HasOpenJournal}
use Rattle.page_journal.specs.declared.fault.StoreFault.{StoreFault}
use Rattle.page_journal.specs.declared.fault.StoreFault.TheVariants.{NotFormatted}

-- the disk was only read: at most so many times, and not past this end. The call fails only where the disk has counted a fault.
pub record ReadsDisk {T E : Type 0} (count last : ℕ) (old new : DiskView) (result : Result T E) : Type 0 where
  pub stays : Stays old new
  pub reads : ReadsAtMost count last old new
  pub cause : HasCause old.faults new.faults result

-- the disk was read so, and perhaps written
pub record CopiesOnDisk {T E : Type 0} (count last : ℕ) (old new : DiskView) (result : Result T E) : Type 0 where
  pub reads : ReadsAtMost count last old new
  pub cause : HasCause old.faults new.faults result

-- the disk was only written, and not at these places: at no moment does a crash leave other bytes there than before
pub record WritesDisk {T E : Type 0} (K : ℕ → Type 0) (old new : DiskView) (result : Result T E) : Type 0 where
  pub crash : (base : List ℕ) → Within (Spares K base) old.crashes → Goes (Spares K base) old.crashes new.crashes
  pub reads : new.reads ≡ old.reads
  pub cause : HasCause old.faults new.faults result

-- and so at no place in front of this one
pub record WritesDiskFrom {T E : Type 0} (at : ℕ) (old new : DiskView) (result : Result T E) : Type 0 where
  pub crash : (low : ℕ) (base : List ℕ) → low ≤ at → Within (Spares (BesideJournal low) base) old.crashes
      → Goes (Spares (BesideJournal low) base) old.crashes new.crashes
  pub reads : new.reads ≡ old.reads
  pub cause : HasCause old.faults new.faults result

-- the disk was written once at most, so many bytes from this place on
pub record WritesDiskOnce {T E : Type 0} (at count : ℕ) (old new : DiskView) (result : Result T E) : Type 0 where
  pub crash : Follows (Torn at count) old.crashes new.crashes
  pub time : Elapses old.crashes new.crashes
  pub reads : new.reads ≡ old.reads
  pub cause : HasCause old.faults new.faults result

-- a part of an opening that only looks. It gives no answer but those of an opening.
pub record LooksAtDisk {T : Type 0} (old new : DiskView) (result : Result T StoreFault) : Type 0 where
  pub alone : IsOpenAnswer result
  pub stays : Stays old new
  pub cause : HasDiskCause old.faults new.faults result

-- a part of an opening that may move a journal home. Where it moves none, and where it refuses, it only looks.
pub record MovesHome (old new : DiskView) (result : Result Bool StoreFault) : Type 0 where
  pub alone : IsOpenAnswer result
  pub idle : IfOk result (λ moved. moved ≡ false → Stays old new)
  pub refused : IfErr result (λ fault. is_disk_fault fault ≡ false → Stays old new)
  pub cause : HasDiskCause old.faults new.faults result

-- an opening. Whatever the answer, only a well-formed journal that is open lets it write.
pub record OpensDisk {T : Type 0} (old new : DiskView) (result : Result T StoreFault) : Type 0 where
  pub alone : IsOpenAnswer result
  pub looked : IfTold old.content (λ bytes. ¬ HasOpenJournal bytes → Stays old new)
  pub refused : IsErrOf result NotFormatted → Stays old new
  pub told : (bytes : List ℕ) → Tells old bytes → answers_disk_fault result ≡ false → IsTold new.content
  pub cause : HasDiskCause old.faults new.faults result
