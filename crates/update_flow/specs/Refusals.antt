-- Which steps may be taken from which state, and why others are refused.
use Rattle.std.specs.Prelude.{◌≡◌, ◌≢◌, ◌<◌, ◌≤◌, List, Option, None, Some}
use Rattle.osm_base.specs.declared.bounds.limits.LimitNumbers.{LimitNumbers}
use Rattle.osm_base.specs.declared.values.object.Entry.{Entry}
use Rattle.osm_base.specs.map.Pending.{PendingOf}
use Rattle.dep_closure.specs.PendingSet.{IsPendingOf, AreTooMany, size}
use Rattle.page_journal.specs.declared.fault.StoreFault.TheVariants as store
use Rattle.update_flow.specs.Calls.{IsChange, IsFirst, IsForImported, MayCommit}
use Rattle.update_flow.specs.declared.fault.FlowFault.{FlowFault}
use Rattle.update_flow.specs.declared.fault.FlowFault.TheVariants as flow
use Rattle.update_flow.specs.declared.fault.TheConstants.{LAST_CHANGE}
use Rattle.delta_feed.specs.declared.block.Block.TheVariants as blocks
use Rattle.update_flow.specs.State.{Holding, State, formatted, imported, outdated, following, Step, Import, Append, Clear, Migrate, Follow}

-- these many objects are pending in a change
abbrev pub ArePending : Holding → List Entry → PendingOf → Type 0
ArePending held change set = IsPendingOf held.style held.objects change set

-- a change of an imported store is refused so, or not at all: there was the last change that can be counted, or more objects are
-- pending than may be
abbrev pub RefusesChange : LimitNumbers → Holding → List Entry → Option FlowFault → Type 0
RefusesChange limits held change None = (held.changes ≢ LAST_CHANGE)
    × ((set : PendingOf) → ArePending held change set → size set ≤ limits.pending)
RefusesChange limits held change (Some flow.LastChange) = held.changes ≡ LAST_CHANGE
RefusesChange limits held change (Some (flow.TooMany value)) =
    (held.changes ≢ LAST_CHANGE) × AreTooMany limits.pending (ArePending held change) value
RefusesChange limits held change _ = ⊥

-- a step is refused so, or not at all, by the state alone. A follower takes blocks and nothing else, and but for one that was only made no
-- other store takes any: who is refused so is told before a step is begun, and none is
abbrev pub Refuses : LimitNumbers → State → Step → Option FlowFault → Type 0
Refuses limits formatted (Import style bytes buckets entries) fault = fault ≡ None
Refuses limits formatted (Follow (blocks.Full version style_bytes style rows)) fault = fault ≡ None
Refuses limits formatted _ fault = fault ≡ Some flow.NotImported
Refuses limits (imported held) (Import style bytes buckets entries) fault = fault ≡ Some flow.AlreadyImported
Refuses limits (imported held) (Append bounds change) fault = RefusesChange limits held change fault
Refuses limits (imported held) Clear fault = fault ≡ None
Refuses limits (imported held) Migrate fault = fault ≡ None
Refuses limits (imported held) (Follow block) fault = ⊥
Refuses limits (outdated held) Migrate fault = fault ≡ None
Refuses limits (outdated held) (Follow block) fault = ⊥
Refuses limits (outdated held) _ fault = fault ≡ Some flow.OldFormat
Refuses limits (following held) (Follow block) fault = fault ≡ None
Refuses limits (following held) _ fault = ⊥

-- a look at what was imported is refused so, or not at all
abbrev pub RefusesLook : State → Option FlowFault → Type 0
RefusesLook formatted fault = fault ≡ Some flow.NotImported
RefusesLook (imported held) fault = fault ≡ None
RefusesLook (outdated held) fault = fault ≡ Some flow.OldFormat
RefusesLook (following held) fault = fault ≡ None

-- whatever the state, the disk may fail and memory may run out
abbrev pub OrBreaks : Option FlowFault → Type 0 → Type 0
OrBreaks (Some (flow.Store store.DiskFault)) P = Unit {0}
OrBreaks (Some flow.OutOfMemory) P = Unit {0}
OrBreaks _ P = P

-- the store would have so many pages, more than it may have
abbrev pub OrFull : LimitNumbers → Option FlowFault → Type 0 → Type 0
OrFull limits (Some (flow.Store (store.StoreFull pages))) P = limits.pages < pages
OrFull limits _ P = P

-- a step may be answered so
abbrev pub MayAnswer : LimitNumbers → State → Step → Option FlowFault → Type 0
MayAnswer limits state step fault = OrBreaks fault (OrFull limits fault (Refuses limits state step fault))

-- a look may
abbrev pub MayLook : State → Option FlowFault → Type 0
MayLook state fault = OrBreaks fault (RefusesLook state fault)

-- the disk did not fail
abbrev pub IsNoDiskFault : Option FlowFault → Type 0
IsNoDiskFault (Some (flow.Store store.DiskFault)) = ⊥
IsNoDiskFault _ = Unit {0}

-- an opening is refused so
abbrev pub IsOpenFault : FlowFault → Type 0
IsOpenFault (flow.Store store.NotFormatted) = Unit {0}
IsOpenFault (flow.Store (store.BadStore page)) = Unit {0}
IsOpenFault (flow.Store store.DiskFault) = Unit {0}
IsOpenFault flow.OutOfMemory = Unit {0}
IsOpenFault _ = ⊥

-- and what was read of a store so
abbrev pub MayFind : FlowFault → Type 0
MayFind (flow.Store (store.BadStore page)) = Unit {0}
MayFind (flow.Store store.DiskFault) = Unit {0}
MayFind flow.OutOfMemory = Unit {0}
MayFind _ = ⊥

-- which calls may be refused so: too many pages are told by one that commits, the last change and too many objects by a change, that
-- nothing was imported by any but an import, and that something was by an import
abbrev pub MayTell : Option Step → FlowFault → Type 0
MayTell call (flow.Store (store.StoreFull pages)) = MayCommit call
MayTell call flow.NotImported = IsForImported call
MayTell call flow.AlreadyImported = IsFirst call
MayTell call flow.LastChange = IsChange call
MayTell call (flow.TooMany value) = IsChange call
MayTell call _ = Unit {0}

-- a call on an open store, whatever its disk holds, is refused so
abbrev pub IsCallFault : FlowFault → Type 0
IsCallFault (flow.Store store.NotFormatted) = ⊥
IsCallFault (flow.Store store.NotEmpty) = ⊥
IsCallFault (flow.Store store.OutOfMemory) = ⊥
IsCallFault _ = Unit {0}
