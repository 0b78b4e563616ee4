-- A store on a disk, by its state alone.
use Rattle.std.specs.Prelude.{◌≡◌, ◌≢◌, ◌⊎◌, ◌≤◌, ℕ, List, Option, None, Some}
use Rattle.outside.specs.Bytes.{IsTold}
use Rattle.outside.specs.Causes.{Rose}
use Rattle.outside.specs.Disk.{DiskView, Goes, Only, Tells}
use Rattle.page_journal.specs.Home.{IsFormatted}
use Rattle.page_journal.specs.Pages.{gate}
use Rattle.page_journal.specs.declared.layout.TheConstants.{OPEN}
use Rattle.page_journal.specs.declared.fault.StoreFault.TheVariants as store
use Rattle.update_flow.specs.declared.fault.FlowFault.{FlowFault}
use Rattle.update_flow.specs.declared.fault.FlowFault.TheVariants as flow
use Rattle.update_flow.specs.State.{State}
use Rattle.update_flow.specs.Stands.{StandsFor}
use Rattle.update_flow.specs.Refusals.{OrBreaks}

-- the bytes are those of one of two states
abbrev pub IsOfEither : State → State → List ℕ → Type 0
IsOfEither one other bytes = StandsFor bytes one ⊎ StandsFor bytes other

-- the store is at rest: its disk gives these bytes, a crash leaves nothing else, no commit was cut short, and they stand for this
-- state
pub record IsAt (state : State) (disk : DiskView) : Type 0 where
  pub bytes : List ℕ
  pub told : Tells disk bytes
  pub only : Only bytes disk.crashes
  pub shut : gate bytes ≢ OPEN
  pub stands : StandsFor bytes state

-- a crash leaves one of two states
pub record IsAtEither (one other : State) (disk : DiskView) : Type 0 where
  pub told : IsTold disk.content
  pub only : (left : List ℕ) → disk.crashes.outcomes left → IsOfEither one other left

-- at each moment since then a crash leaves what it might have left before, or a store of this state
abbrev pub RestsAt : State → DiskView → DiskView → Type 0
RestsAt state old new = Goes (λ left. StandsFor left state) old.crashes new.crashes

-- a store of one of two states is opened, and has one of them then
pub record Opens (one other : State) (fault : Option FlowFault) (old new : DiskView) : Type 0 where
  pub answer : OrBreaks fault (fault ≡ None)
  pub found : fault ≡ None → IsAt one new ⊎ IsAt other new
  pub moments : Goes (IsOfEither one other) old.crashes new.crashes

-- a disk that reads as a store of a state is opened as one
pub record OpensAs (state : State) (fault : Option FlowFault) (new : DiskView) : Type 0 where
  pub answer : OrBreaks fault (fault ≡ None)
  pub found : fault ≡ None → IsAt state new

-- the bytes stand for no state
abbrev pub StandsForNone : List ℕ → Type 0
StandsForNone bytes = (state : State) → ¬ StandsFor bytes state

-- they have the form of a store, and stand for no state
pub record IsDamaged (bytes : List ℕ) : Type 0 where
  pub formed : IsFormatted bytes
  pub none : StandsForNone bytes

-- the count of the disk's faults did not fall, and rose where the disk is said to have failed
pub record HasFlowCause (fault : Option FlowFault) (old new : DiskView) : Type 0 where
  pub later : old.faults ≤ new.faults
  pub failed : fault ≡ Some (flow.Store store.DiskFault) → Rose old.faults new.faults
