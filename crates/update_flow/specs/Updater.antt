-- What contracts see of an open store.
use Rattle.std.specs.Prelude.{◌≡◌, true, false, Option, Some, Result, IfErr, IsErr, IsErrOf, OnOk, is_some}
use Rattle.std.specs.Result.{result_err}
use Rattle.std.specs.Borrow.{GName}
use Rattle.osm_base.specs.declared.bounds.limits.LimitNumbers.{LimitNumbers}
use Rattle.outside.specs.Disk.{DiskView, Stays}
use Rattle.outside.specs.declared.disk.Disk.{Ghosts}
use Rattle.bucket_store.specs.Opening.{Fits}
use Rattle.page_journal.specs.declared.fault.StoreFault.TheVariants.{Broken}
use Rattle.bucket_store.specs.declared.resting.Resting.{Resting}
use Rattle.update_flow.specs.AtRest.{HasFlowCause}
use Rattle.update_flow.specs.Calls.{IsFirst, IsForImported, IsForToday, IsLook, IsStill}
use Rattle.update_flow.specs.Handle.{Handle, TellsAs, changes_of, is_imported, is_old, is_whole, limits_of, style_of, view_of}
use Rattle.update_flow.specs.Refusals.{IsCallFault, MayTell}
use Rattle.update_flow.specs.State.{Step}
use Rattle.update_flow.specs.declared.fault.FlowFault.{FlowFault}
use Rattle.update_flow.specs.declared.fault.FlowFault.TheVariants.{AlreadyImported, NotImported, OldFormat, Store}
use Rattle.update_flow.specs.declared.opened.Opened.{Opened as Found}
use Rattle.update_flow.specs.declared.updater.Updater.{Updater}

-- the disk under the store, what is seen of it, and the name of its loan
abbrev pub disk_of : {D : Type 0} {g : Ghosts D} → Updater D g → D
disk_of updater = updater.disk.now

abbrev pub disk_in : {D : Type 0} {g : Ghosts D} → Updater D g → DiskView
disk_in {D} {g} updater = g.view (disk_of updater)

abbrev pub loan_of : {D : Type 0} {g : Ghosts D} → Updater D g → GName
loan_of updater = updater.disk.ghost_name

-- what is kept of a store, if anything is, fits this disk
abbrev pub KeptFits : Option Resting → DiskView → Type 0
KeptFits kept disk = (opened : Resting) × (kept ≡ Some opened) × Fits opened disk

-- what is seen of it from outside
abbrev pub handle_of : {D : Type 0} {g : Ghosts D} → Updater D g → Handle
handle_of updater = record {
  view = disk_in updater;
  limits = updater.limits;
  whole = is_some updater.store;
  changes = updater.changes;
  style = updater.style;
  outdated = updater.outdated;
  follower = false;
  keeps = KeptFits updater.store (disk_in updater);
}

-- it keeps the same limits, over the same disk
pub record StaysOver {D : Type 0} {g : Ghosts D} (old new : Updater D g) : Type 0 where
  pub same_disk : loan_of new ≡ loan_of old
  pub same_limits : limits_of (handle_of new) ≡ limits_of (handle_of old)

-- whatever its disk holds, a call leaves an open store so: it is refused for causes of its own, and for what the store tells of itself just
-- where it tells so; a refusal leaves what it tells, a look writes nothing, and the disk has failed no call but where it is said to
pub record StaysOpen {T D : Type 0} {g : Ghosts D} (call : Option Step) (old new : Updater D g) (result : Result T FlowFault) : Type 0 where
  pub over : StaysOver old new
  pub tells : IsErr result → TellsAs (handle_of old) (handle_of new)
  pub still : IsStill call → TellsAs (handle_of old) (handle_of new)
  pub alone : IfErr result IsCallFault
  pub old_format : IsForToday call → is_old (handle_of old) ≡ true → IsErrOf result OldFormat
  pub not_old : IsErrOf result OldFormat → is_old (handle_of old) ≡ true
  pub not_imported : IsForImported call → is_imported (handle_of old) ≡ false → IsErrOf result NotImported
  pub unbegun : IsErrOf result NotImported → is_imported (handle_of old) ≡ false
  pub again : IsFirst call → is_old (handle_of old) ≡ false → is_imported (handle_of old) ≡ true → IsErrOf result AlreadyImported
  pub begun : IsErrOf result AlreadyImported → is_imported (handle_of old) ≡ true
  pub told : IfErr result (MayTell call)
  pub only : IsLook call → Stays (view_of (handle_of old)) (view_of (handle_of new))
  pub whole : OnOk result (is_whole (handle_of new) ≡ is_whole (handle_of old))
  pub broken : IsErrOf result (Store Broken) → is_whole (handle_of old) ≡ false
  pub cause : HasFlowCause (result_err result) (view_of (handle_of old)) (view_of (handle_of new))

-- what an open store tells first is what its opening has found
pub record TellsFound (limits : LimitNumbers) (found : Found) (store : Handle) : Type 0 where
  pub limits_are : limits_of store ≡ limits
  pub changes : changes_of store ≡ found.changes
  pub style : style_of store ≡ found.style
  pub outdated : is_old store ≡ found.outdated
  pub whole : is_whole store ≡ true
  pub begun : is_imported store ≡ false → changes_of store ≡ 0
  pub unbegun : is_imported store ≡ false → is_old store ≡ false
