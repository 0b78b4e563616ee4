-- Steps and looks at a store, as its buckets and its disk are before them and after.
use Rattle.std.specs.Prelude.{◌≡◌, ◌≢◌, ◌⊎◌, ◌≤◌, ℕ, true, Option, None, Some, is_some}
use Rattle.outside.specs.Causes.{Rose}
use Rattle.outside.specs.Disk.{DiskView, Goes, Stays}
use Rattle.outside.specs.declared.disk.Disk.{Ghosts}
use Rattle.osm_base.specs.declared.bounds.limits.LimitNumbers.{LimitNumbers}
use Rattle.page_journal.specs.Journal.{home_count, loan_of, page_limit}
use Rattle.page_journal.specs.declared.fault.StoreFault.TheVariants as store
use Rattle.chain_store.specs.Chains.{disk_of, journal_of}
use Rattle.bucket_store.specs.Image.{Has, HasImage, Image, OnlyLooks, RestsAt}
use Rattle.bucket_store.specs.Transaction.{chains_of}
use Rattle.bucket_store.specs.declared.buckets.Buckets.{Buckets}
use Rattle.bucket_store.specs.declared.resting.Resting.{Resting}
use Rattle.update_flow.specs.AtRest.{HasFlowCause, IsOfEither}
use Rattle.update_flow.specs.Calls.{IsChange, MayCommit}
use Rattle.update_flow.specs.AtRest.{RestsAt as StaysAt}
use Rattle.update_flow.specs.Needed.{FitsLimit, Grows, NeedsOn}
use Rattle.bucket_store.specs.Needed.{NeedsPages}
use Rattle.update_flow.specs.Opening.{HoldsState}
use Rattle.update_flow.specs.Refusals.{IsNoDiskFault, MayAnswer, MayLook, OrBreaks, OrFull}
use Rattle.update_flow.specs.Stands.{Means}
use Rattle.update_flow.specs.State.{State, Step, after}
use Rattle.update_flow.specs.Updater.{KeptFits}
use Rattle.update_flow.specs.Within.{faults_in, is_whole_store}
use Rattle.update_flow.specs.declared.fault.FlowFault.{FlowFault}
use Rattle.update_flow.specs.declared.fault.FlowFault.TheVariants as flow

-- what is seen of the disk under buckets, and how many pages the store may have
abbrev pub view_in : {D : Type 0} {g : Ghosts D} → Buckets D g → DiskView
view_in buckets = disk_of (chains_of buckets)

abbrev pub limit_in : {D : Type 0} {g : Ghosts D} → Buckets D g → ℕ
limit_in buckets = page_limit (journal_of (chains_of buckets))

-- and how many it has
abbrev pub home_in : {D : Type 0} {g : Ghosts D} → Buckets D g → ℕ
home_in buckets = home_count (journal_of (chains_of buckets))

-- whatever a store holds, a call is answered so
abbrev pub MayEnd : Option Step → Option FlowFault → Type 0
MayEnd call None = Unit {0}
MayEnd call (Some (flow.Store (store.BadStore page))) = Unit {0}
MayEnd call (Some (flow.Store store.DiskFault)) = Unit {0}
MayEnd call (Some (flow.Store (store.StoreFull pages))) = MayCommit call
MayEnd call (Some (flow.TooMany value)) = IsChange call
MayEnd call (Some flow.OutOfMemory) = Unit {0}
MayEnd call _ = ⊥

-- the buckets are those of a store at rest that means this state
pub record RestsIn {D : Type 0} {g : Ghosts D} (state : State) (buckets : Buckets D g) : Type 0 where
  pub image : Image
  pub at_rest : RestsAt image buckets
  pub means : Means state image

-- what a transaction has made of a store at rest is made to stand, whole or not at all
pub record CommitsTo {D : Type 0} {g : Ghosts D} (limits : LimitNumbers) (rest now : Image) (fault : Option FlowFault)
    (old new : Buckets D g) : Type 0 where
  pub answer : OrBreaks fault (OrFull limits fault (fault ≡ None))
  pub needs : FitsLimit limits (NeedsPages (home_in old) now) fault
  pub done : fault ≡ None → RestsAt now new
  pub grown : fault ≡ None → NeedsPages (home_in old) now (home_in new) × (home_in new ≤ limits.pages)
  pub refused : fault ≢ None → IsNoDiskFault fault → OnlyLooks old new
  pub moments : Goes (λ left. HasImage rest left ⊎ HasImage now left) (view_in old).crashes (view_in new).crashes

-- the store under buckets is taken a step further, whole or not at all. One that is refused otherwise than by its disk was never begun.
pub record TurnsIn {D : Type 0} {g : Ghosts D} (limits : LimitNumbers) (state : State) (step : Step) (fault : Option FlowFault)
    (old new : Buckets D g) : Type 0 where
  pub answer : MayAnswer limits state step fault
  pub needs : FitsLimit limits (NeedsOn (view_in old) (after state step)) fault
  pub done : fault ≡ None → RestsIn (after state step) new
  pub grown : fault ≡ None → Grows limits (after state step) (view_in old) (view_in new)
  pub refused : fault ≢ None → IsNoDiskFault fault → RestsIn state new × StaysAt state (view_in old) (view_in new)
  pub moments : Goes (IsOfEither state (after state step)) (view_in old).crashes (view_in new).crashes

-- it is looked at
pub record LooksIn {D : Type 0} {g : Ghosts D} (state : State) (fault : Option FlowFault) (old new : Buckets D g) : Type 0 where
  pub answer : MayLook state fault
  pub only : Stays (view_in old) (view_in new)
  pub stays : IsNoDiskFault fault → RestsIn state new
  pub moments : StaysAt state (view_in old) (view_in new)

-- whatever it holds, a call leaves this of buckets whose disk had not failed
pub record EndsIn {D : Type 0} {g : Ghosts D} (call : Option Step) (fault : Option FlowFault) (old new : Buckets D g) : Type 0 where
  pub alone : MayEnd call fault
  pub whole : IsNoDiskFault fault → is_whole_store new
  pub later : faults_in old ≤ faults_in new
  pub failed : fault ≡ Some (flow.Store store.DiskFault) → Rose (faults_in old) (faults_in new)
  pub same_disk : loan_of (journal_of (chains_of new)) ≡ loan_of (journal_of (chains_of old))

-- what a transaction has made, with this done to it, is made to stand, whichever step it ends
pub record CommitsWith {D : Type 0} {g : Ghosts D} (made : Image → Image) (fault : Option FlowFault) (old new : Buckets D g) : Type 0 where
  pub commits : (limits : LimitNumbers) (rest now : Image) → limit_in old ≡ limits.pages → Has rest now old
      → CommitsTo limits rest (made now) fault old new
  pub ends : (step : Step) → EndsIn (Some step) fault old new

-- a store at rest of this state is on the disk, and what is kept of it is so
pub record IsKept (state : State) (disk : DiskView) (kept : Option Resting) : Type 0 where
  pub holds : HoldsState state disk
  pub fits : KeptFits kept disk

-- the store on a disk is taken a step further
pub record TurnsOn (limits : LimitNumbers) (state : State) (step : Step) (fault : Option FlowFault) (old new : DiskView)
    (kept : Option Resting) : Type 0 where
  pub answer : MayAnswer limits state step fault
  pub needs : FitsLimit limits (NeedsOn old (after state step)) fault
  pub done : fault ≡ None → IsKept (after state step) new kept
  pub grown : fault ≡ None → Grows limits (after state step) old new
  pub refused : fault ≢ None → IsNoDiskFault fault → IsKept state new kept × StaysAt state old new
  pub moments : Goes (IsOfEither state (after state step)) old.crashes new.crashes

-- it is looked at
pub record LooksOn (state : State) (fault : Option FlowFault) (old new : DiskView) (kept : Option Resting) : Type 0 where
  pub answer : MayLook state fault
  pub only : Stays old new
  pub stays : IsNoDiskFault fault → IsKept state new kept
  pub moments : StaysAt state old new

-- whatever it holds, a call leaves this of a disk that had not failed
pub record EndsOn (call : Option Step) (fault : Option FlowFault) (old new : DiskView) (kept : Option Resting) : Type 0 where
  pub alone : MayEnd call fault
  pub whole : IsNoDiskFault fault → is_some kept ≡ true
  pub cause : HasFlowCause fault old new
