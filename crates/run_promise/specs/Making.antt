-- A run that makes its store.
use Rattle.std.specs.Prelude.{◌≢◌, ℕ, List, [], length}
use Rattle.outside.specs.Bytes.{IfTold}
use Rattle.outside.specs.Causes.{Rose}
use Rattle.outside.specs.Disk.{DiskView}
use Rattle.page_journal.specs.declared.fault.StoreFault.TheVariants as stores
use Rattle.update_flow.specs.declared.fault.FlowFault.{FlowFault}
use Rattle.update_flow.specs.declared.fault.FlowFault.TheVariants as flow
use Rattle.run_promise.specs.declared.fault.Fault.{Fault}
use Rattle.run_promise.specs.declared.fault.Fault.TheVariants.{NotEmpty, DiskFault}
use Rattle.run_promise.specs.Progress.{Progress, unused}

-- nothing was done but to read these files
abbrev pub reading_alone : List ℕ → Progress
reading_alone read = record { store = unused; cut = 0; read = read; written = [] }

-- why a disk is not taken for empty
abbrev pub IsNotEmpty : (old new : DiskView) → Fault → Type 0
IsNotEmpty old new NotEmpty = IfTold old.content (λ bytes. length bytes ≢ 0)
IsNotEmpty old new DiskFault = Rose old.faults new.faults
IsNotEmpty old new _ = ⊥

-- a disk on which a store was just made, and that holds none, is damaged
abbrev pub of_made : FlowFault → FlowFault
of_made (flow.Store stores.NotFormatted) = flow.Store (stores.BadStore 0)
of_made fault = fault
