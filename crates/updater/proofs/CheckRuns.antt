-- All of a store was looked at, and what came of it is told.
use Rattle.std.proofs.Common.{◌≡◌, ℕ, true, false, Some, List, Result, Ok, Err, OnOk, OnErr, IfErr, inr, sym, ◌∙◌, subst}
use Rattle.std.specs.Result.{result_err}
use Rattle.std.specs.Io.KnownBytes.{Appends}
use Rattle.std.proofs.lemmas.Option.{same_Some}
use Rattle.outside.specs.Bytes.{AppendsPrefix}
use Rattle.outside.specs.Causes.{HasCause as HasCauseOf}
use Rattle.outside.specs.Inputs.{FilesView}
use Rattle.outside.specs.Sink.{SinkView}
use Rattle.page_journal.specs.declared.fault.StoreFault.TheVariants as stores
use Rattle.update_flow.specs.State.{State, formatted, imported, outdated, following}
use Rattle.update_flow.specs.Handle.{Handle, Shows, is_follower, is_old, view_of}
use Rattle.update_flow.specs.declared.fault.FlowFault.{FlowFault}
use Rattle.update_flow.specs.declared.fault.FlowFault.TheVariants as flow
use Rattle.run_promise.specs.declared.fault.Fault.{Fault}
use Rattle.run_promise.specs.declared.fault.Fault.TheVariants as faults
use Rattle.run_promise.specs.Course.{ends, looks, tells}
use Rattle.run_promise.specs.Courses.{checks, sound_line}
use Rattle.run_promise.specs.Faults.{flow_fault}
use Rattle.updater.specs.Heads.{GoesOn, IsHead}
use Rattle.updater.specs.commands.Check.{EndsCheck}
use Rattle.run_promise.specs.Progress.{Progress}
use Rattle.run_promise.specs.World.{Before, world}
use Rattle.updater.proofs.HeadLaws.{refuses_here}
use Rattle.updater.proofs.MigrateRuns.{tells_last}
use Rattle.updater.proofs.StoreDeeds.{shows_here}
use Rattle.updater.proofs.StoreRuns.{true_not}
use Rattle.updater.proofs.VersionRuns.{goes_back}

-- a fault that tells of a damaged page is that of the store below
pub bad_says : (fault : FlowFault) (page : ℕ) → Some (flow_fault fault) ≡ Some (faults.BadStore page)
    → fault ≡ flow.Store (stores.BadStore page)
bad_says (flow.Store (stores.BadStore own)) page is = cc
bad_says (flow.Store stores.NotFormatted) page is = absurd (cc)
bad_says (flow.Store stores.NotEmpty) page is = absurd (cc)
bad_says (flow.Store stores.OutOfMemory) page is = absurd (cc)
bad_says (flow.Store (stores.StoreFull pages)) page is = absurd (cc)
bad_says (flow.Store stores.DiskFault) page is = absurd (cc)
bad_says (flow.Store stores.Broken) page is = absurd (cc)
bad_says flow.NotImported page is = absurd (cc)
bad_says flow.AlreadyImported page is = absurd (cc)
bad_says flow.OldFormat page is = absurd (cc)
bad_says flow.LastChange page is = absurd (cc)
bad_says (flow.TooMany value) page is = absurd (cc)
bad_says flow.OutOfMemory page is = absurd (cc)

-- what still ends a check is so of the fault that it tells
pub ends_so : (result : Result (Unit {0}) Fault) (fault : Fault) → IfErr result EndsCheck → result_err result ≡ Some fault → EndsCheck fault
ends_so (Ok value) fault alone is = absurd (cc)
ends_so (Err own) fault alone is = subst EndsCheck (same_Some own fault is) alone

-- an output that took no more ends it
pub written_so : (result : Result (Unit {0}) Fault) → IfErr result (λ fault. fault ≡ faults.WriteFault) → IfErr result EndsCheck
written_so (Ok value) alone = tt
written_so (Err fault) alone = subst EndsCheck (sym alone) tt

module _ (start done : Progress) (next : ℕ) (old : Before) (files : FilesView) (updater : Handle) (output : SinkView) where
  abbrev Here : State → Type 0
  Here state = IsHead start done state next old files updater output

  shown : (state : State) → Here state → Shows state updater
  shown state head = shows_here done.store done.cut state updater head.here

  -- the store is one of the old format
  pub outdated_checked : (state : State) → Here state → is_old updater ≡ true
      → GoesOn (checks state) start done (Some faults.OldFormat) old (world files (view_of updater) output)
  outdated_checked formatted head is = true_not _ (sym is ∙ (shown formatted head).old_is)
  outdated_checked (imported held) head is = true_not _ (sym is ∙ (shown (imported held) head).old_is)
  outdated_checked (following held) head is = true_not _ (sym is ∙ (shown (following held) head).old_is)
  outdated_checked (outdated held) head is =
      refuses_here start done (outdated held) next old files updater output head faults.OldFormat tt

  -- that it is sound is told
  module _ (current : is_old updater ≡ false) (own : is_follower updater ≡ false) (text : List ℕ) (new : SinkView) (result : Result (Unit {0}) Fault) (is : text ≡ sound_line)
      (all : OnOk result (Appends output.taken new.taken text)) (front : OnErr result (AppendsPrefix output.taken new.taken text))
      (alone : IfErr result (λ fault. fault ≡ faults.WriteFault)) (cause : HasCauseOf output.faults new.faults result) where
    told : (state : State) → Here state
        → GoesOn (looks (tells sound_line ends)) start done (result_err result) old (world files (view_of updater) new)
    told state head = goes_back (looks (tells sound_line ends)) (tells sound_line ends) start done done (result_err result) old
        (world files (view_of updater) new)
        (tells_last start done state next old files updater output head sound_line text new result is all front alone cause)
        (λ ending comes. inr (inr comes))

    pub sound_told : (state : State) → Here state
        → GoesOn (checks state) start done (result_err result) old (world files (view_of updater) new)
    sound_told formatted head = told formatted head
    sound_told (imported held) head = told (imported held) head
    sound_told (outdated held) head = true_not _ (sym (shown (outdated held) head).old_is ∙ current)
    sound_told (following held) head = true_not _ (sym (shown (following held) head).follower_is ∙ own)
