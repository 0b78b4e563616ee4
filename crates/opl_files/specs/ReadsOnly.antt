-- What a call leaves alone that only reads a file, and why it may stop.
use Rattle.std.specs.Prelude.{ℕ, List, Result, IfErr}
use Rattle.outside.specs.Causes.{Rose}
use Rattle.outside.specs.Inputs.{FilesView}
use Rattle.opl_files.specs.declared.fault.FileFault.{FileFault}
use Rattle.outside.specs.Reads.{ReadsNoOther}
use Rattle.opl_files.specs.Stops.{Stops}

-- some reads were asked for, each of this file, and no other file was touched; it stops where a line has a fault of which this is so, where
-- one of these reads failed, or where memory ran out
pub record ReadsOnly {A : Type 0} (outcome : Result A FileFault) (file : ℕ) (found : FileFault → Type 0) (asks : List ℕ → Type 0)
    (old new : FilesView) : Type 0 where
  pub read : ReadsNoOther file asks old new
  pub stopped : IfErr outcome (Stops found (Rose old.faults new.faults))
