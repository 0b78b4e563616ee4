-- A sound store is opened, looked at and taken a step further, also where nobody knows the tags of some of its nodes.
-- docs/FILES.md: what a sound store has in its maps; osm2pgsql manual, "Updating an Existing Database": what depends on a changed object is
-- processed again, and all else stays.
use Rattle.std.specs.Prelude.{◌≡◌, ◌≢◌, ◌+◌, List, Option, None, Some, Result, Ok, IfOk, true}
use Rattle.std.specs.Result.{result_err}
use Rattle.outside.specs.Disk.{DiskView, Goes}
use Rattle.outside.specs.declared.disk.Disk.{Ghosts}
use Rattle.osm_base.specs.declared.bounds.limits.LimitNumbers.{LimitNumbers}
use Rattle.osm_base.specs.declared.values.object.Entry.{Entry}
use Rattle.osm_base.specs.map.Objects.{ObjectSet, folded_all}
use Rattle.style_read.specs.Reading.{reading}
use Rattle.style_read.specs.Style.{StyleOf}
use Rattle.bucket_store.specs.Image.{HoldsImage, Image, RestsAt}
use Rattle.bucket_store.specs.declared.buckets.Buckets.{Buckets}
use Rattle.bucket_store.specs.declared.resting.Resting.{Resting}
use Rattle.update_flow.specs.Due.{Tiles}
use Rattle.update_flow.specs.Handle.{Handle, Shows, is_whole, limits_of, view_of}
use Rattle.update_flow.specs.Opening.{Found}
use Rattle.update_flow.specs.Refusals.{IsNoDiskFault, MayAnswer, MayLook, OrBreaks}
use Rattle.update_flow.specs.Sound.{IsSound, MeansSound}
use Rattle.update_flow.specs.State.{Append, Import, Holding, State, Step, after, formatted, fresh, imported}
use Rattle.update_flow.specs.Turning.{view_in}
use Rattle.update_flow.specs.Updater.{KeptFits}
use Rattle.update_flow.specs.declared.fault.FlowFault.{FlowFault}
use Rattle.update_flow.specs.declared.fields.TheConstants.{STYLE_TEXT}
use Rattle.update_flow.specs.declared.opened.Opened.{Opened}

-- the buckets are those of a sound store at rest of this state
pub record RestsSound {D : Type 0} {g : Ghosts D} (state : State) (buckets : Buckets D g) : Type 0 where
  pub image : Image
  pub at_rest : RestsAt image buckets
  pub is : MeansSound state image

-- what it holds after a change, with some tiles due
abbrev pub changed_with : Tiles → List Entry → Holding → Holding
changed_with due change held = record held { objects = folded_all held.objects change; changes = held.changes + 1; due = due }

-- what is imported, with some objects
abbrev pub fresh_with : ObjectSet → Holding → Holding
fresh_with objects held = record held { objects = objects }

-- what a sound store may hold after a step: what the state after it has. Which tiles are due after a change is not said, nor which
-- objects an import holds: where no selection of the style reaches nodes, they may be kept without their tags.
abbrev pub MayFollow : State → Step → State → Type 0
MayFollow (imported held) (Append bounds change) next = (due : Tiles) × (next ≡ imported (changed_with due change held))
MayFollow formatted (Import style style_bytes buckets entries) next =
    (objects : ObjectSet) × (next ≡ imported (fresh_with objects (fresh style style_bytes buckets entries)))
MayFollow state step next = next ≡ after state step

-- a step is refused for the state, the disk, memory and limits alone. Done it leaves a sound store of a state after it, and refused
-- otherwise than by the disk the store as it was. A crash leaves a sound store at each moment.
pub record TurnsSound {D : Type 0} {g : Ghosts D} (limits : LimitNumbers) (state : State) (step : Step) (fault : Option FlowFault)
    (old new : Buckets D g) : Type 0 where
  pub answer : MayAnswer limits state step fault
  pub done : fault ≡ None → (next : State) × MayFollow state step next × RestsSound next new
  pub refused : fault ≢ None → IsNoDiskFault fault → RestsSound state new
  pub moments : Goes IsSound (view_in old).crashes (view_in new).crashes

-- the disk holds such a store at rest: it tells its bytes, a crash leaves nothing else, and no commit was cut short
pub record HoldsSound (state : State) (disk : DiskView) : Type 0 where
  pub image : Image
  pub holds : HoldsImage image disk
  pub is : MeansSound state image

-- and what is kept of it is so
pub record IsKeptSound (state : State) (disk : DiskView) (kept : Option Resting) : Type 0 where
  pub holds : HoldsSound state disk
  pub fits : KeptFits kept disk

-- the same of the store on a disk
pub record TurnsSoundOn (limits : LimitNumbers) (state : State) (step : Step) (fault : Option FlowFault) (old new : DiskView)
    (kept : Option Resting) : Type 0 where
  pub answer : MayAnswer limits state step fault
  pub done : fault ≡ None → (next : State) × MayFollow state step next × IsKeptSound next new kept
  pub refused : fault ≢ None → IsNoDiskFault fault → IsKeptSound state new kept
  pub moments : Goes IsSound old.crashes new.crashes

-- it is looked at: that is refused for the state, the disk and memory alone, and leaves it as it is
pub record LooksSoundOn (state : State) (fault : Option FlowFault) (new : DiskView) (kept : Option Resting) : Type 0 where
  pub answer : MayLook state fault
  pub stays : IsNoDiskFault fault → IsKeptSound state new kept

-- a sound store is open, and tells what is so of its state
pub record IsOpenSound (state : State) (store : Handle) : Type 0 where
  pub holds : HoldsSound state (view_of store)
  pub whole : is_whole store ≡ true
  pub shows : Shows state store
  pub fits : store.keeps

-- whatever its state
abbrev pub IsSoundlyOpen : Handle → Type 0
IsSoundlyOpen store = (state : State) × IsOpenSound state store

-- the same of an open store
pub record TakesSound (state : State) (step : Step) (fault : Option FlowFault) (old new : Handle) : Type 0 where
  pub answer : MayAnswer (limits_of old) state step fault
  pub done : fault ≡ None → (next : State) × MayFollow state step next × IsOpenSound next new
  pub refused : fault ≢ None → IsNoDiskFault fault → IsOpenSound state new
  pub moments : Goes IsSound (view_of old).crashes (view_of new).crashes

pub record LooksSound (state : State) (fault : Option FlowFault) (new : Handle) : Type 0 where
  pub answer : MayLook state fault
  pub stays : IsNoDiskFault fault → IsOpenSound state new

-- what an opening has found is a sound store, on a disk like this
pub record FindsSound (disk : DiskView) (opened : Opened) : Type 0 where
  pub state : State
  pub holds : HoldsSound state disk
  pub found : Found state disk opened

abbrev pub FindsSoundIn : DiskView → Option Opened → Type 0
FindsSoundIn disk None = ⊥
FindsSoundIn disk (Some opened) = FindsSound disk opened

-- the opening of a sound store is refused for the disk and memory alone, and what it has found is so
pub record OpensSoundWith {T : Type 0} (FindsIn : DiskView → T → Type 0) (disk : DiskView) (result : Result T FlowFault) : Type 0 where
  pub answer : OrBreaks (result_err result) (result_err result ≡ None)
  pub found : IfOk result (FindsIn disk)

-- it is found to be sound, and no follower's
abbrev pub OpensSound : DiskView → Result (Option Opened) FlowFault → Type 0
OpensSound disk result = OpensSoundWith FindsSoundIn disk result

-- the style that is told is the one of the store's text, if one is told
abbrev pub TellsStyle : Option StyleOf → Image → Type 0
TellsStyle None image = Unit {0}
TellsStyle (Some style) image = reading (image.texts STYLE_TEXT) ≡ Ok style
