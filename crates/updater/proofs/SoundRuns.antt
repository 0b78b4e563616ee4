-- No damaged page is told of a sound store.
use Rattle.std.proofs.Common.{◌≡◌, ℕ, true, List, Option, Some, None, Result, Ok, Err, IfErr, refl, subst}
use Rattle.std.specs.Result.{result_err}
use Rattle.std.proofs.lemmas.Option.{same_Some}
use Rattle.outside.specs.Inputs.{FilesView}
use Rattle.osm_base.specs.declared.bounds.limits.LimitNumbers.{LimitNumbers}
use Rattle.page_journal.specs.declared.fault.StoreFault.TheVariants as stores
use Rattle.update_flow.specs.Handle.{Handle, is_old, limits_of}
use Rattle.update_flow.specs.Refusals.{MayAnswer, MayLook, OrBreaks}
use Rattle.update_flow.specs.Sound.{IsSound}
use Rattle.update_flow.specs.SoundTurns.{IsOpenSound, IsSoundlyOpen, LooksSound, TakesSound}
use Rattle.delta_feed.specs.declared.block.Block.TheVariants as blocks
use Rattle.update_flow.specs.State.{State, Step, formatted, imported, outdated, following, Import, Append, Clear, Migrate, Follow}
use Rattle.update_flow.specs.declared.fault.FlowFault.{FlowFault}
use Rattle.update_flow.specs.declared.fault.FlowFault.TheVariants as flow
use Rattle.run_promise.specs.declared.fault.Fault.{Fault}
use Rattle.run_promise.specs.declared.fault.Fault.TheVariants as faults
use Rattle.run_promise.specs.Checking.{IsTrusted}
use Rattle.run_promise.specs.Faults.{flow_fault}
use Rattle.updater.specs.FileReads.{IsUnread, StopsFor}
use Rattle.updater.specs.Works.{EndsSound}
use Rattle.updater.proofs.CheckRuns.{bad_says}

-- Which calls of the store tell no damaged page.

pub look_bad : (state : State) (page : ℕ) → MayLook state (Some (flow.Store (stores.BadStore page))) → ⊥
look_bad formatted page may = absurd (cc (may))
look_bad (imported held) page may = absurd (cc (may))
look_bad (outdated held) page may = absurd (cc (may))
look_bad (following held) page may = absurd (cc (may))

pub step_bad : (limits : LimitNumbers) (state : State) (step : Step) (page : ℕ)
    → MayAnswer limits state step (Some (flow.Store (stores.BadStore page))) → ⊥
step_bad limits formatted (Import style bytes buckets entries) page may = absurd (cc (may))
step_bad limits formatted (Append bounds change) page may = absurd (cc (may))
step_bad limits formatted Clear page may = absurd (cc (may))
step_bad limits formatted Migrate page may = absurd (cc (may))
step_bad limits (imported held) (Import style bytes buckets entries) page may = absurd (cc (may))
step_bad limits (imported held) (Append bounds change) page may = may
step_bad limits (imported held) Clear page may = absurd (cc (may))
step_bad limits (imported held) Migrate page may = absurd (cc (may))
step_bad limits (outdated held) (Import style bytes buckets entries) page may = absurd (cc (may))
step_bad limits (outdated held) (Append bounds change) page may = absurd (cc (may))
step_bad limits (outdated held) Clear page may = absurd (cc (may))
step_bad limits (outdated held) Migrate page may = absurd (cc (may))
step_bad limits formatted (Follow (blocks.Full version style_bytes style rows)) page may = absurd (cc (may))
step_bad limits formatted (Follow (blocks.Delta delta)) page may = absurd (cc (may))
step_bad limits (imported held) (Follow block) page may = may
step_bad limits (outdated held) (Follow block) page may = may
step_bad limits (following held) (Import style bytes buckets entries) page may = may
step_bad limits (following held) (Append bounds change) page may = may
step_bad limits (following held) Clear page may = may
step_bad limits (following held) Migrate page may = may
step_bad limits (following held) (Follow block) page may = absurd (cc (may))

pub opening_bad : (fault : FlowFault) (page : ℕ) → fault ≡ flow.Store (stores.BadStore page) → OrBreaks (Some fault) (Some fault ≡ None) → ⊥
opening_bad fault page is answer = absurd
    (let none : Some (flow.Store (stores.BadStore page)) ≡ None = subst (λ (own : FlowFault). OrBreaks (Some own) (Some own ≡ None)) is answer in
    cc)

-- Where a call of an open sound store ends the run.

module _ (fault : FlowFault) (before : Handle) (open_before : IsSoundlyOpen before) (after : Handle) where
  ends_flow : ((page : ℕ) → fault ≡ flow.Store (stores.BadStore page) → ⊥) → EndsSound (Some (flow_fault fault)) after
  ends_flow not = record { never = λ page is. not page (bad_says fault page is); stays = λ none. absurd (cc) }

  pub look_stops : (now : Handle) → ((state : State) → IsOpenSound state before → LooksSound state (Some fault) now)
      → EndsSound (Some (flow_fault fault)) after
  look_stops now looks = ends_flow (λ page is.
      look_bad open_before.0 page (subst (λ (own : FlowFault). MayLook open_before.0 (Some own)) is (looks open_before.0 open_before.1).answer))

  pub step_stops : (step : Step) (now : Handle) → ((state : State) → IsOpenSound state before → TakesSound state step (Some fault) before now)
      → EndsSound (Some (flow_fault fault)) after
  step_stops step now takes = ends_flow (λ page is.
      step_bad (limits_of before) open_before.0 step page (subst (λ (own : FlowFault). MayAnswer (limits_of before) open_before.0 step (Some own)) is
      (takes open_before.0 open_before.1).answer))

-- Where the run goes on.

pub look_goes : (before now : Handle) → ((state : State) → IsOpenSound state before → LooksSound state None now) → IsSoundlyOpen before
    → IsSoundlyOpen now
look_goes before now looks opened = (opened.0, (looks opened.0 opened.1).stays tt)

pub step_goes : (step : Step) (before now : Handle) → ((state : State) → IsOpenSound state before → TakesSound state step None before now)
    → IsSoundlyOpen before → IsSoundlyOpen now
step_goes step before now takes opened = let done = (takes opened.0 opened.1).done refl in (done.0, done.2)

-- Other ends.

pub ends_well : (store : Handle) → IsSoundlyOpen store → EndsSound None store
ends_well store opened = record { never = λ page is. absurd (cc (is)); stays = λ none. opened }

pub unread_ends : {A : Type 0} (Reads : List ℕ → Result A Fault → Type 0) (file : ℕ) (fault : Fault) (old new : FilesView) (store : Handle)
    → IsUnread Reads file fault old new → EndsSound (Some fault) store
unread_ends Reads file fault old new store unread = record {
  never = λ page is.
      let why : StopsFor Reads file (faults.BadStore page) old new =
      subst (λ (own : Fault). StopsFor Reads file own old new) (same_Some fault (faults.BadStore page) is) unread.why in
      why.0;
  stays = λ none. absurd (cc (none));
}

pub told_ends : (result : Result (Unit {0}) Fault) (store : Handle) → IfErr result (λ fault. fault ≡ faults.WriteFault) → IsSoundlyOpen store
    → EndsSound (result_err result) store
told_ends (Ok value) store alone opened = ends_well store opened
told_ends (Err fault) store alone opened = record {
  never = λ page is. let other : fault ≡ faults.BadStore page = same_Some fault (faults.BadStore page) is in absurd (cc (other, alone));
  stays = λ none. absurd (cc (none));
}

-- A command that opens a store.

pub unopened_trusted : (content : Option (List ℕ)) (fault : FlowFault)
    → ((page : ℕ) → fault ≡ flow.Store (stores.BadStore page) → (bytes : List ℕ) → content ≡ Some bytes → ¬ IsSound bytes)
    → IsTrusted content (Some (flow_fault fault))
unopened_trusted content fault bad = λ page is. bad page (bad_says fault page is)

pub opened_trusted : (content : Option (List ℕ)) (fault : Option Fault) (before after : Handle)
    → ((bytes : List ℕ) → content ≡ Some bytes → IsSound bytes → IsSoundlyOpen before) → (IsSoundlyOpen before → EndsSound fault after)
    → IsTrusted content fault
opened_trusted content fault before after opened done = λ page is bytes told sound. (done (opened bytes told sound)).never page is

-- a sound store is none of the old format
pub never_old : (store : Handle) → IsSoundlyOpen store → is_old store ≡ true → ⊥
never_old store opened is = by opened.0 opened.1
  where
    by : (state : State) → IsOpenSound state store → ⊥
    by formatted own = absurd (cc (is, own.shows.old_is))
    by (imported held) own = absurd (cc (is, own.shows.old_is))
    by (outdated held) own = own.holds.is
    by (following held) own = own.holds.is
