-- A store that follows another one, as it is open, and what a block is to it.
-- docs/FILES.md, "The root page": state 2 of a store that follows another one.
use Rattle.std.specs.Prelude.{◌≡◌, ◌⊎◌, ◌+◌, ◌<◌, ℕ, Bool, true, false, nat_lt, if◌then◌else◌, List, Option, None, Some, is_some}
use Rattle.std.specs.Prelude.{Result, Ok, Err, IfErr, IfOk, IsErr, IsErrOf, OnOk}
use Rattle.std.specs.Result.{result_err}
use Rattle.std.specs.Borrow.{GName}
use Rattle.osm_base.specs.declared.bounds.limits.LimitNumbers.{LimitNumbers}
use Rattle.outside.specs.Bytes.{IfTold}
use Rattle.outside.specs.Disk.{DiskView, Stays}
use Rattle.outside.specs.declared.disk.Disk.{Ghosts}
use Rattle.bucket_store.specs.Opening.{Fits}
use Rattle.chain_store.specs.declared.root.Root.{Root}
use Rattle.delta_feed.specs.declared.block.Block.{Block}
use Rattle.delta_feed.specs.declared.block.Block.TheVariants as blocks
use Rattle.page_journal.specs.declared.fault.StoreFault.TheVariants.{Broken}
use Rattle.style_read.specs.Style.{StyleOf}
use Rattle.update_flow.specs.AtRest.{HasFlowCause, IsAt}
use Rattle.update_flow.specs.Calls.{IsLook, IsStill}
use Rattle.update_flow.specs.Handle.{Handle, IsOpen, Shows, Takes, TellsAs, changes_of, is_follower, is_imported, is_old, is_whole, limits_of, style_of}
use Rattle.update_flow.specs.Handle.{view_of}
use Rattle.update_flow.specs.Needed.{version_of}
use Rattle.update_flow.specs.Opening.{AreFieldsIn, AreOfFollower, IfRoot, OpensWith}
use Rattle.update_flow.specs.Roots.{is_imported as is_begun, is_old as is_dated}
use Rattle.update_flow.specs.Refusals.{IsCallFault, MayTell}
use Rattle.update_flow.specs.SoundTurns.{OpensSoundWith}
use Rattle.update_flow.specs.State.{Follow, State, Step, after, changes_in, follows, formatted, style_in, was_imported, was_old}
use Rattle.update_flow.specs.Updater.{KeptFits}
use Rattle.update_flow.specs.declared.base.Base.{Base}
use Rattle.update_flow.specs.declared.fault.FlowFault.{FlowFault}
use Rattle.update_flow.specs.declared.fault.FlowFault.TheVariants.{NotImported, OldFormat, Store}
use Rattle.update_flow.specs.declared.fault.FollowFault.{FollowFault}
use Rattle.update_flow.specs.declared.fault.FollowFault.TheVariants as follow
use Rattle.update_flow.specs.declared.follower.Follower.{Follower}

-- what an opening has found is a store of this state, on a disk like this: one that was only made, or one of a follower
pub record FoundBase (state : State) (disk : DiskView) (base : Base) : Type 0 where
  pub version_is : base.version ≡ changes_in state
  pub style_is : base.style ≡ style_in state
  pub own : is_some base.style ≡ follows state
  pub today : was_old state ≡ false
  pub fits : Fits base.store disk

-- where it has found nothing to go on with, the store is an imported one or an old one: no follower's, and none that was only made
pub record IsTaken (state : State) : Type 0 where
  pub begun : was_imported state ≡ true
  pub own : follows state ≡ false

abbrev pub FoundBaseIn : State → DiskView → Option Base → Type 0
FoundBaseIn state disk None = IsTaken state
FoundBaseIn state disk (Some base) = FoundBase state disk base

-- the fields of a store that was only made, or of a follower's of this version
abbrev pub AreOfBase : Option StyleOf → ℕ → Root → Type 0
AreOfBase None version root = AreFieldsIn formatted root
AreOfBase (Some style) version root = AreOfFollower version root

-- the fields of what was found
abbrev pub AreFieldsForBase : Option Base → Root → Type 0
AreFieldsForBase None root = (is_begun root ≡ true) ⊎ (is_dated root ≡ true)
AreFieldsForBase (Some base) root = AreOfBase base.style base.version root

-- bytes with such a root page are those of what was found, or of an imported store or an old one of some state
abbrev pub BaseTold : Option (List ℕ) → Option Base → Type 0
BaseTold content None = (state : State) × IsTaken state × IfTold content (IfRoot (AreFieldsIn state))
BaseTold content (Some base) = IfTold content (IfRoot (AreOfBase base.style base.version))

-- whatever a disk holds, its opening to follow another store is answered so and leaves it so
abbrev pub OpensBase : (old new : DiskView) → Result (Option Base) FlowFault → Type 0
OpensBase old new result = OpensWith BaseTold old new result

-- what is found of a sound store is one that was only made, at rest; an imported one is none to go on with
abbrev pub FindsBlankIn : DiskView → Option Base → Type 0
FindsBlankIn disk None = Unit {0}
FindsBlankIn disk (Some base) = IsAt formatted disk × FoundBase formatted disk base

abbrev pub OpensSoundBase : DiskView → Result (Option Base) FlowFault → Type 0
OpensSoundBase disk result = OpensSoundWith FindsBlankIn disk result

-- the disk under the store, what is seen of it, and the name of its loan
abbrev pub disk_of : {D : Type 0} {g : Ghosts D} → Follower D g → D
disk_of follower = follower.disk.now

abbrev pub disk_in : {D : Type 0} {g : Ghosts D} → Follower D g → DiskView
disk_in {D} {g} follower = g.view (disk_of follower)

abbrev pub loan_of : {D : Type 0} {g : Ghosts D} → Follower D g → GName
loan_of follower = follower.disk.ghost_name

-- what is seen of it from outside
abbrev pub handle_of : {D : Type 0} {g : Ghosts D} → Follower D g → Handle
handle_of follower = record {
  view = disk_in follower;
  limits = follower.limits;
  whole = is_some follower.store;
  changes = follower.version;
  style = follower.style;
  outdated = false;
  follower = is_some follower.style;
  keeps = KeptFits follower.store (disk_in follower);
}

-- what it tells first is what its opening has found
pub record TellsBase (limits : LimitNumbers) (base : Base) (store : Handle) : Type 0 where
  pub limits_are : limits_of store ≡ limits
  pub version : changes_of store ≡ base.version
  pub style : style_of store ≡ base.style
  pub own : is_follower store ≡ is_some base.style
  pub begun : is_imported store ≡ is_follower store
  pub today : is_old store ≡ false
  pub whole : is_whole store ≡ true

-- a difference comes to a store that holds no tables yet
abbrev pub IsUnbegun : Handle → Block → Type 0
IsUnbegun store (blocks.Full version style_bytes style rows) = ⊥
IsUnbegun store (blocks.Delta delta) = is_follower store ≡ false

-- one comes to a store that has a version before the one that it goes on from
abbrev pub IsGap : Handle → Block → (have got : ℕ) → Type 0
IsGap store (blocks.Full version style_bytes style rows) have got = ⊥
IsGap store (blocks.Delta delta) have got =
    (is_follower store ≡ true) × (have ≡ changes_of store) × (got ≡ delta.version) × (have + 1 < got)

-- a block is neither of these
pub record IsNext (store : Handle) (block : Block) : Type 0 where
  pub begun : ¬ IsUnbegun store block
  pub near : (have got : ℕ) → ¬ IsGap store block have got

-- the tables of a store have not seen a version, or it has none
abbrev pub is_later : Handle → ℕ → Bool
is_later store version = if is_follower store then nat_lt (changes_of store) version else true

-- and that of a block
abbrev pub is_new : Handle → Block → Bool
is_new store block = is_later store (version_of block)

-- the style of the tables after a block
abbrev pub style_after : Handle → Block → Option StyleOf
style_after store (blocks.Full version style_bytes style rows) = Some style
style_after store (blocks.Delta delta) = style_of store

-- a store tells that it has taken a block
pub record TellsBlock (block : Block) (old new : Handle) : Type 0 where
  pub own : is_follower new ≡ true
  pub version : changes_of new ≡ version_of block
  pub style : style_of new ≡ style_after old block

-- a block is refused so by the numbers alone
abbrev pub IsByNumbers : FollowFault → Type 0
IsByNumbers (follow.Flow fault) = ⊥
IsByNumbers follow.NotImported = Unit {0}
IsByNumbers (follow.Gap have got) = Unit {0}

-- what was answered to a block by the store below: nothing, where the numbers alone were asked
abbrev pub flow_of : Result Bool FollowFault → Result Bool FlowFault
flow_of (Ok taken) = Ok taken
flow_of (Err (follow.Flow fault)) = Err fault
flow_of (Err follow.NotImported) = Ok false
flow_of (Err (follow.Gap have got)) = Ok false

-- it keeps the same limits, over the same disk
pub record StaysOver {D : Type 0} {g : Ghosts D} (old new : Follower D g) : Type 0 where
  pub same_disk : loan_of new ≡ loan_of old
  pub same_limits : limits_of (handle_of new) ≡ limits_of (handle_of old)

-- whatever its disk holds, a call leaves an open store so: it is refused for causes of its own; a refusal leaves what it tells, a look writes
-- nothing, and the disk has failed no call but where it is said to
pub record StaysFollower {T D : Type 0} {g : Ghosts D} (call : Option Step) (old new : Follower D g) (result : Result T FlowFault) : Type 0 where
  pub over : StaysOver old new
  pub tells : IsErr result → TellsAs (handle_of old) (handle_of new)
  pub still : IsStill call → TellsAs (handle_of old) (handle_of new)
  pub alone : IfErr result IsCallFault
  pub told : IfErr result (MayTell call)
  pub today : ¬ IsErrOf result OldFormat
  pub only : IsLook call → Stays (view_of (handle_of old)) (view_of (handle_of new))
  pub whole : OnOk result (is_whole (handle_of new) ≡ is_whole (handle_of old))
  pub broken : IsErrOf result (Store Broken) → is_whole (handle_of old) ≡ false
  pub cause : HasFlowCause (result_err result) (view_of (handle_of old)) (view_of (handle_of new))

-- what a block does to an open store, where it is neither refused by the numbers alone nor old
pub record TakesBlock {D : Type 0} {g : Ghosts D} (block : Block) (old new : Follower D g) (result : Result Bool FlowFault) : Type 0 where
  pub takes : (state : State) → IsOpen state (handle_of old) → Takes state (Follow block) (result_err result) (handle_of old) (handle_of new)
  pub taken : IfOk result (λ taken. taken ≡ is_new (handle_of old) block)
  pub tells : IfOk result (λ taken. taken ≡ true → TellsBlock block (handle_of old) (handle_of new))
  pub shows : OnOk result ((state : State) → Shows state (handle_of old) → Shows (after state (Follow block)) (handle_of new))
  pub untaken : IfOk result (λ taken. taken ≡ false → new ≡ old)
  pub begun : ¬ IsErrOf result NotImported
  pub stays : StaysFollower (Some (Follow block)) old new result
