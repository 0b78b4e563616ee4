-- Calls within a transaction on a store.
use Rattle.std.specs.Prelude.{◌≡◌, ◌≤◌, ℕ, false, List, Option, None, Some, Result, OnOk}
use Rattle.std.specs.Result.{result_err}
use Rattle.outside.specs.Causes.{Rose}
use Rattle.outside.specs.declared.disk.Disk.{Ghosts}
use Rattle.osm_base.specs.map.Spots.{TableMap}
use Rattle.page_journal.specs.Journal.{is_broken}
use Rattle.page_journal.specs.declared.fault.StoreFault.TheVariants as store
use Rattle.chain_store.specs.Chains.{disk_of, journal_of}
use Rattle.bucket_store.specs.Buckets.{bucket_count}
use Rattle.bucket_store.specs.Image.{Has, Image, OnlyLooks, with_text}
use Rattle.bucket_store.specs.Transaction.{chains_of, has_refused}
use Rattle.bucket_store.specs.declared.buckets.Buckets.{Buckets}
use Rattle.update_flow.specs.declared.fault.FlowFault.{FlowFault}
use Rattle.update_flow.specs.declared.fault.FlowFault.TheVariants as flow
use Rattle.update_flow.specs.Changes.{only_table}
use Rattle.update_flow.specs.Refusals.{IsNoDiskFault}
use Rattle.update_flow.specs.Stands.{Means}
use Rattle.update_flow.specs.State.{State}

-- the buckets of an open store whose disk has never failed a call
abbrev pub is_whole_store : {D : Type 0} {g : Ghosts D} → Buckets D g → Type 0
is_whole_store buckets = is_broken (journal_of (chains_of buckets)) ≡ false

-- and so one that has refused nothing
pub record IsGoing {D : Type 0} {g : Ghosts D} (buckets : Buckets D g) : Type 0 where
  pub going : has_refused buckets ≡ false
  pub whole : is_whole_store buckets

-- and a store that has buckets
pub record IsFilled {D : Type 0} {g : Ghosts D} (buckets : Buckets D g) : Type 0 where
  pub ready : IsGoing buckets
  pub some : 1 ≤ bucket_count (chains_of buckets)

abbrev pub faults_in : {D : Type 0} {g : Ghosts D} → Buckets D g → ℕ
faults_in buckets = (disk_of (chains_of buckets)).faults

-- whatever a store holds, a call within a transaction is answered so
abbrev pub MayRun : Option FlowFault → Type 0
MayRun None = Unit {0}
MayRun (Some (flow.Store (store.BadStore page))) = Unit {0}
MayRun (Some (flow.Store store.DiskFault)) = Unit {0}
MayRun (Some flow.OutOfMemory) = Unit {0}
MayRun _ = ⊥

-- a store that means a state refuses nothing but where its disk fails or memory runs out
abbrev pub IsSound : Option FlowFault → Type 0
IsSound None = Unit {0}
IsSound (Some (flow.Store store.DiskFault)) = Unit {0}
IsSound (Some flow.OutOfMemory) = Unit {0}
IsSound _ = ⊥

-- what each call within a transaction leaves, on a store whose disk had not failed before: the store at rest was only looked at, and but
-- for a
-- disk fault its disk has not failed since
pub record RunsWithin {D : Type 0} {g : Ghosts D} (old new : Buckets D g) (fault : Option FlowFault) : Type 0 where
  pub looks : OnlyLooks old new
  pub alone : MayRun fault
  pub whole : IsNoDiskFault fault → is_whole_store new
  pub failed : fault ≡ Some (flow.Store store.DiskFault) → Rose (faults_in old) (faults_in new)

-- and where it is answered it has refused nothing
pub record GoesOn {T D : Type 0} {g : Ghosts D} (old new : Buckets D g) (result : Result T FlowFault) : Type 0 where
  pub going : OnOk result (has_refused new ≡ false)
  pub runs : RunsWithin old new (result_err result)

-- a text is these bytes from now on
pub record StoresText {T D : Type 0} {g : Ghosts D} (n : ℕ) (bytes : List ℕ) (old new : Buckets D g)
    (result : Result T FlowFault) : Type 0 where
  pub stored : OnOk result ((rest now : Image) → Has rest now old → Has rest (with_text n bytes now) new)
  pub going : OnOk result (has_refused new ≡ false)
  pub sound : (rest now : Image) → Has rest now old → IsSound (result_err result)
  pub runs : RunsWithin old new (result_err result)

-- over this store at rest the transaction has made one that means this state
pub record IsReady {D : Type 0} {g : Ghosts D} (state : State) (rest : Image) (buckets : Buckets D g) : Type 0 where
  pub now : Image
  pub has : Has rest now buckets
  pub means : Means state now

-- the rows of the table that is wanted, or of all
abbrev pub wanted_of : Option ℕ → TableMap → TableMap
wanted_of None all = all
wanted_of (Some table) all = only_table table all
