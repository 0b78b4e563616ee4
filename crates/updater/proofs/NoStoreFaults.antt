-- Which faults do not say that the disk holds no store.
use Rattle.std.proofs.Common.{◌≡◌, ℕ, Some, List, Result, refl, subst}
use Rattle.std.proofs.lemmas.Option.{same_Some}
use Rattle.outside.specs.Inputs.{FilesView}
use Rattle.page_journal.specs.declared.fault.StoreFault.TheVariants as stores
use Rattle.update_flow.specs.Refusals.{IsCallFault}
use Rattle.update_flow.specs.declared.fault.FlowFault.{FlowFault}
use Rattle.update_flow.specs.declared.fault.FlowFault.TheVariants as flow
use Rattle.run_promise.specs.declared.fault.Fault.{Fault}
use Rattle.run_promise.specs.declared.fault.Fault.TheVariants as faults
use Rattle.run_promise.specs.Faults.{flow_fault}
use Rattle.updater.specs.FileReads.{IsUnread, StopsFor}

-- that of a file that was not read
pub unread_never : {A : Type 0} (Reads : List ℕ → Result A Fault → Type 0) (file : ℕ) (fault : Fault) (old new : FilesView)
    → IsUnread Reads file fault old new → Some fault ≡ Some faults.NotFormatted → ⊥
unread_never Reads file fault old new unread is =
    let why : StopsFor Reads file faults.NotFormatted old new =
    subst (λ (own : Fault). StopsFor Reads file own old new) (same_Some fault faults.NotFormatted is) unread.why in
    why.0

-- that of a call on an open store
pub call_never : (fault : FlowFault) → IsCallFault fault → Some (flow_fault fault) ≡ Some faults.NotFormatted → ⊥
call_never (flow.Store stores.NotFormatted) call is = call
call_never (flow.Store stores.NotEmpty) call is = call
call_never (flow.Store stores.OutOfMemory) call is = call
call_never (flow.Store (stores.BadStore page)) call is = absurd (cc)
call_never (flow.Store (stores.StoreFull pages)) call is = absurd (cc)
call_never (flow.Store stores.DiskFault) call is = absurd (cc)
call_never (flow.Store stores.Broken) call is = absurd (cc)
call_never flow.NotImported call is = absurd (cc)
call_never flow.AlreadyImported call is = absurd (cc)
call_never flow.OldFormat call is = absurd (cc)
call_never flow.LastChange call is = absurd (cc)
call_never (flow.TooMany value) call is = absurd (cc)
call_never flow.OutOfMemory call is = absurd (cc)

-- the opening of a disk says it where the store below did
pub opening_says : (fault : FlowFault) → Some (flow_fault fault) ≡ Some faults.NotFormatted → fault ≡ flow.Store stores.NotFormatted
opening_says (flow.Store stores.NotFormatted) is = refl
opening_says (flow.Store stores.NotEmpty) is = absurd (cc)
opening_says (flow.Store stores.OutOfMemory) is = absurd (cc)
opening_says (flow.Store (stores.BadStore page)) is = absurd (cc)
opening_says (flow.Store (stores.StoreFull pages)) is = absurd (cc)
opening_says (flow.Store stores.DiskFault) is = absurd (cc)
opening_says (flow.Store stores.Broken) is = absurd (cc)
opening_says flow.NotImported is = absurd (cc)
opening_says flow.AlreadyImported is = absurd (cc)
opening_says flow.OldFormat is = absurd (cc)
opening_says flow.LastChange is = absurd (cc)
opening_says (flow.TooMany value) is = absurd (cc)
opening_says flow.OutOfMemory is = absurd (cc)
