-- What is seen of an open store, whatever holds it: the disk under it, the limits that it keeps, and what it tells of itself.
use Rattle.std.specs.Prelude.{◌≡◌, ◌≢◌, ℕ, Bool, true, Option, None, is_some}
use Rattle.osm_base.specs.declared.bounds.limits.LimitNumbers.{LimitNumbers}
use Rattle.outside.specs.Disk.{DiskView, Goes, Stays}
use Rattle.style_read.specs.Style.{StyleOf}
use Rattle.update_flow.specs.AtRest.{IsAt, IsOfEither, RestsAt}
use Rattle.update_flow.specs.Needed.{FitsLimit, Grows, NeedsOn, Writes}
use Rattle.update_flow.specs.Refusals.{IsNoDiskFault, MayAnswer, MayLook}
use Rattle.update_flow.specs.State.{State, Step, after, changes_in, follows, style_in, was_imported, was_old}
use Rattle.update_flow.specs.declared.fault.FlowFault.{FlowFault}

-- the disk, the limits, whether no call of the disk has failed, the number of changes since the import, the style where it was
-- imported, whether it has the old format, whether it is a follower's, and whether what it keeps in memory is so of the store on its
-- disk
pub record Handle : Type 1 where
  pub view : DiskView
  pub limits : LimitNumbers
  pub whole : Bool
  pub changes : ℕ
  pub style : Option StyleOf
  pub outdated : Bool
  pub follower : Bool
  pub keeps : Type 0

abbrev pub view_of : Handle → DiskView
view_of store = store.view

abbrev pub limits_of : Handle → LimitNumbers
limits_of store = store.limits

abbrev pub is_whole : Handle → Bool
is_whole store = store.whole

abbrev pub changes_of : Handle → ℕ
changes_of store = store.changes

abbrev pub is_imported : Handle → Bool
is_imported store = is_some store.style

abbrev pub is_old : Handle → Bool
is_old store = store.outdated

abbrev pub is_follower : Handle → Bool
is_follower store = store.follower

abbrev pub style_of : Handle → Option StyleOf
style_of store = store.style

-- it tells the same
pub record TellsAs (old new : Handle) : Type 0 where
  pub changes_same : changes_of new ≡ changes_of old
  pub imported_same : is_imported new ≡ is_imported old
  pub old_same : is_old new ≡ is_old old
  pub style_same : style_of new ≡ style_of old
  pub follower_same : is_follower new ≡ is_follower old

-- it tells what is so of a state
pub record Shows (state : State) (store : Handle) : Type 0 where
  pub changes_are : changes_of store ≡ changes_in state
  pub imported_is : is_imported store ≡ was_imported state
  pub old_is : is_old store ≡ was_old state
  pub style_is : style_of store ≡ style_in state
  pub follower_is : is_follower store ≡ follows state

-- the store is at rest on its disk at this state, and no call of the disk has failed
pub record IsOpen (state : State) (store : Handle) : Type 0 where
  pub at_rest : IsAt state (view_of store)
  pub sound : is_whole store ≡ true
  pub shows : Shows state store
  pub fits : store.keeps

-- an open store is taken a step further, whole or not at all, and grows by no more than it needs. One that is refused otherwise than by
-- its disk was never begun.
pub record Takes (state : State) (step : Step) (fault : Option FlowFault) (old new : Handle) : Type 0 where
  pub answer : MayAnswer (limits_of old) state step fault
  pub needs : Writes state step → FitsLimit (limits_of old) (NeedsOn (view_of old) (after state step)) fault
  pub done : fault ≡ None → IsOpen (after state step) new
  pub grown : Writes state step → fault ≡ None → Grows (limits_of old) (after state step) (view_of old) (view_of new)
  pub refused : fault ≢ None → IsNoDiskFault fault → IsOpen state new × RestsAt state (view_of old) (view_of new)
  pub moments : Goes (IsOfEither state (after state step)) (view_of old).crashes (view_of new).crashes

-- an open store is looked at, and nothing is written
pub record Looks (state : State) (fault : Option FlowFault) (old new : Handle) : Type 0 where
  pub answer : MayLook state fault
  pub only : Stays (view_of old) (view_of new)
  pub stays : IsNoDiskFault fault → IsOpen state new
  pub moments : RestsAt state (view_of old) (view_of new)
