-- A disk in memory.
use Rattle.std.specs.Prelude.{◌≡◌, ◌⊎◌, ℕ, ◌-◌, ◌↔◌, Bool, true, Some, Result, IsErr, is_err, is_ok, List, [], ◌∷◌, ◌++◌}
use Rattle.doubles.specs.Calls.{CallLog, NamesNext, after_call}
use Rattle.doubles.specs.CrashPick.{IsLeftIn}
use Rattle.outside.specs.Disk.{DiskView}
use Rattle.doubles.specs.RecordedView.{bytes_of, start_of, calls_in, crashes_in}
use Rattle.doubles.specs.Tape.{MayLeaveAfter}
use Rattle.doubles.specs.declared.crash_pick.CrashPick.{CrashPick}
use Rattle.doubles.specs.declared.tape.Call.{Call}
use Rattle.doubles.specs.declared.mem_disk.MemDisk.{MemDisk}

-- the bytes that a read gives
abbrev pub disk_bytes : MemDisk → List ℕ
disk_bytes disk = bytes_of disk.recorded

-- which calls are to fail, how many were made and how many of them failed
abbrev pub disk_calls : MemDisk → CallLog
disk_calls disk = disk.calls

-- whether a call has failed for want of memory
abbrev pub disk_short : MemDisk → Bool
disk_short disk = disk.short

-- the bytes before the first call
abbrev pub first_content : MemDisk → List ℕ
first_content disk = start_of disk.recorded

-- the calls that were kept, in order
abbrev pub kept_calls : MemDisk → List Call
kept_calls disk = calls_in disk.recorded

abbrev pub disk_view : MemDisk → DiskView
disk_view disk = record {
  content = Some (disk_bytes disk);
  crashes = crashes_in disk.recorded;
  faults = disk.calls.failed;
  reads = Some (record { count = disk.reads; reach = disk.reach });
}

-- a call is kept with its outcome: it has failed exactly where the plan names it, and no want of memory is told for it
pub record IsKept {T E : Type 0} (call : Bool → Call) (old new : MemDisk) (result : Result T E) : Type 0 where
  pub kept : kept_calls new ≡ kept_calls old ++ call (is_ok result) ∷ []
  pub named : IsErr result ↔ NamesNext (disk_calls old)
  pub short : disk_short new ≡ disk_short old

-- a call could not be kept: it has failed, and that is told from then on
pub record IsLost {T E : Type 0} (old new : MemDisk) (result : Result T E) : Type 0 where
  pub kept : kept_calls new ≡ kept_calls old
  pub failed : IsErr result
  pub short : disk_short new ≡ true

-- a call was made, and either it is kept or there was no memory for it
pub record Makes {T E : Type 0} (call : Bool → Call) (old new : MemDisk) (result : Result T E) : Type 0 where
  pub ends : IsKept call old new result ⊎ IsLost old new result
  pub counted : disk_calls new ≡ after_call (disk_calls old) (is_err result)
  pub first : first_content new ≡ first_content old

-- the content is what a crash in the call with this number leaves, where the ranges hold what the pick says
abbrev pub IsCrashIn : MemDisk → ℕ → CrashPick → List ℕ → Type 0
IsCrashIn disk number pick left = IsLeftIn pick (first_content disk) (kept_calls disk) number left

-- the content is one that a crash may leave before the call with this number or after it
abbrev pub MayBeLeftIn : MemDisk → ℕ → List ℕ → Type 0
MayBeLeftIn disk number left =
    MayLeaveAfter (first_content disk) (kept_calls disk) (number - 1) left
    ⊎ MayLeaveAfter (first_content disk) (kept_calls disk) number left
