-- What reading a file of a command comes to.
use Rattle.std.specs.Prelude.{◌≡◌, ◌≤◌, ◌<◌, ◌+◌, ℕ, List, [], Some, Result, Ok, Err, IfOk, IfErr, replicate}
use Rattle.outside.specs.Reads.{IsReadAlone}
use Rattle.outside.specs.Bytes.{IfTold}
use Rattle.outside.specs.Causes.{Rose}
use Rattle.outside.specs.Inputs.{FilesView}
use Rattle.run_promise.specs.declared.fault.Fault.{Fault}
use Rattle.run_promise.specs.declared.fault.Fault.TheVariants.{ReadFault, OutOfMemory}
use Rattle.run_promise.specs.Comes.{IsOfFile}

-- so many files from this one on
abbrev pub Among : (first count : ℕ) → ℕ → Type 0
Among first count file = (first ≤ file) × (file < first + count)

-- the file was read to its end, and as this
pub record IsRead {A : Type 0} (Reads : List ℕ → Result A Fault → Type 0) (file : ℕ) (found : A) (old new : FilesView) : Type 0 where
  pub accepted : IfTold (old.left file) (λ bytes. Reads bytes (Ok found))
  pub at_end : IfTold (old.left file) (λ _. new.left file ≡ Some [])
  pub alone : IsReadAlone file old new

-- why it was not: a read failed, memory ran out, or its bytes have this fault
abbrev pub StopsFor : {A : Type 0} → (List ℕ → Result A Fault → Type 0) → (file : ℕ) → Fault → FilesView → FilesView → Type 0
StopsFor Reads file (ReadFault own) old new = (own ≡ file) × Rose old.faults new.faults
StopsFor Reads file OutOfMemory old new = Unit {0}
StopsFor Reads file fault old new = IsOfFile file fault × IfTold (old.left file) (λ bytes. Reads bytes (Err fault))

pub record IsUnread {A : Type 0} (Reads : List ℕ → Result A Fault → Type 0) (file : ℕ) (fault : Fault) (old new : FilesView) : Type 0 where
  pub why : StopsFor Reads file fault old new
  pub alone : IsReadAlone file old new

-- the one or the other, by the answer; only this file was asked for, some times
pub record ReadsFile {A : Type 0} (Reads : List ℕ → Result A Fault → Type 0) (file : ℕ) (asks : List ℕ → Type 0) (result : Result A Fault)
    (old new : FilesView) : Type 0 where
  pub ok : IfOk result (λ found. IsRead Reads file found old new)
  pub err : IfErr result (λ fault. IsUnread Reads file fault old new)
  pub asked : (count : ℕ) × asks (replicate count file)
