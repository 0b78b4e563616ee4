-- Files that a run reads before their turn.
use Rattle.std.specs.Prelude.{◌≡◌, ◌<◌, ◌≤◌, ℕ, ◌+◌, [], Option, Some}
use Rattle.outside.specs.Inputs.{FilesView}
use Rattle.run_promise.specs.declared.fault.Fault.{Fault}
use Rattle.run_promise.specs.declared.fault.Fault.TheVariants.{Limit, BadStore, WriteFault, DiskFault, OutOfMemory}
use Rattle.run_promise.specs.declared.files.Files.{Files}
use Rattle.run_promise.specs.Causes.{IsStoreLimit}
use Rattle.run_promise.specs.CommandOf.{CommandOf, append_of}

-- what ends a run that is no fault of a file: the store, the output, the disk, or the want of memory
abbrev pub IsOwnFault : Option Fault → Type 0
IsOwnFault (Some (Limit which value)) = IsStoreLimit which
IsOwnFault (Some (BadStore page)) = Unit {0}
IsOwnFault (Some WriteFault) = Unit {0}
IsOwnFault (Some DiskFault) = Unit {0}
IsOwnFault (Some OutOfMemory) = Unit {0}
IsOwnFault _ = ⊥

-- a change file of an append that reads so many ahead and could not go on, through no fault of a file: it may have been read, though its
-- turn never came
pub record MayBeRead (files : Files) (ahead : ℕ) (fault : Option Fault) (file : ℕ) : Type 0 where
  pub some : 0 < ahead
  pub own : IsOwnFault fault
  pub from : files.first + 1 ≤ file
  pub to : file < files.first + files.count

-- the same of any command
abbrev pub MayBeAhead : CommandOf → Option Fault → (file : ℕ) → Type 0
MayBeAhead (append_of store files ahead workers) fault file = MayBeRead files ahead fault file
MayBeAhead _ fault file = ⊥

-- The files as a run has seen them that reads each in its turn, and as they are now: only such were read further, what was at its end
-- still is, and the count of faults did not fall.
pub record IsReadAhead (may : ℕ → Type 0) (seen now : FilesView) : Type 0 where
  pub others : (file : ℕ) → ¬ may file → now.left file ≡ seen.left file
  pub ended : (file : ℕ) → seen.left file ≡ Some [] → now.left file ≡ Some []
  pub later : seen.faults ≤ now.faults
