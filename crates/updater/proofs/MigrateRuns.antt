-- A store is migrated, and the format that it has then is told.
use Rattle.std.proofs.Common.{◌≡◌, ℕ, true, false, Option, Some, None, List, Result, Ok, Err, OnOk, OnErr, IfErr, inr, sym, ◌∙◌, subst}
use Rattle.std.specs.Result.{result_err}
use Rattle.std.specs.Io.KnownBytes.{Appends}
use Rattle.outside.specs.Bytes.{AppendsPrefix}
use Rattle.outside.specs.Causes.{HasCause as HasCauseOf}
use Rattle.outside.specs.Inputs.{FilesView}
use Rattle.outside.specs.Sink.{SinkView}
use Rattle.update_flow.specs.AtRest.{HasFlowCause}
use Rattle.update_flow.specs.State.{Holding, State, formatted, imported, outdated, following, Migrate, after}
use Rattle.update_flow.specs.Handle.{Handle, IsOpen, Shows, Takes, is_imported, is_follower, is_old, is_whole, limits_of, view_of}
use Rattle.update_flow.specs.declared.fault.FlowFault.{FlowFault}
use Rattle.update_flow.specs.declared.fault.FlowFault.TheVariants as flow
use Rattle.run_promise.specs.declared.fault.Fault.{Fault}
use Rattle.run_promise.specs.declared.fault.Fault.TheVariants as faults
use Rattle.run_promise.specs.Course.{ends, commits, tells}
use Rattle.run_promise.specs.Courses.{format_line, migrates}
use Rattle.run_promise.specs.Faults.{flow_fault}
use Rattle.updater.specs.Heads.{GoesOn, IsHead}
use Rattle.run_promise.specs.Progress.{Progress, plus}
use Rattle.run_promise.specs.World.{Before, World, world}
use Rattle.updater.proofs.HeadLaws.{ends_here, past_text, refuses_here, stops_in_line}
use Rattle.updater.proofs.StoreDeeds.{IsRefusedSo, refused_step, shows_here, taken}
use Rattle.updater.proofs.StoreRuns.{true_not}
use Rattle.updater.proofs.VersionRuns.{goes_back}

-- a line is told, and nothing comes behind it
pub tells_last : (start done : Progress) (state : State) (next : ℕ) (old : Before) (files : FilesView) (updater : Handle) (output : SinkView)
    → IsHead start done state next old files updater output
    → (line text : List ℕ) (new : SinkView) (result : Result (Unit {0}) Fault) → text ≡ line
    → OnOk result (Appends output.taken new.taken text) → OnErr result (AppendsPrefix output.taken new.taken text)
    → IfErr result (λ fault. fault ≡ faults.WriteFault) → HasCauseOf output.faults new.faults result
    → GoesOn (tells line ends) start done (result_err result) old (world files (view_of updater) new)
tells_last start done state next old files updater output head line text new (Ok value) is all front alone cause =
    goes_back (tells line ends) ends start done (plus line done) None old (world files (view_of updater) new)
    (ends_here start (plus line done) state next old files updater new
    (past_text start done state next old files updater output head line new
    (subst (λ (own : List ℕ). Appends output.taken new.taken own) is all) cause.later))
    (λ ending comes. inr comes)
tells_last start done state next old files updater output head line text new (Err fault) is all front alone cause =
    subst (λ (own : Fault). GoesOn (tells line ends) start done (Some own) old (world files (view_of updater) new)) (sym alone)
    (stops_in_line start done state next old files updater output head line new ends
    (subst (λ (own : List ℕ). AppendsPrefix output.taken new.taken own) is front) cause.later cause.failed)

module _ (start done : Progress) (next : ℕ) (old : Before) (files : FilesView) (before : Handle) (output : SinkView) where
  abbrev Here : State → Type 0
  Here state = IsHead start done state next old files before output

  shown : (state : State) → Here state → Shows state before
  shown state head = shows_here done.store done.cut state before head.here

  -- nothing was imported
  pub none_there : (state : State) → Here state → is_imported before ≡ false
      → GoesOn (migrates state) start done (Some faults.NotImported) old (world files (view_of before) output)
  none_there formatted head is = refuses_here start done formatted next old files before output head faults.NotImported tt
  none_there (imported held) head is = true_not _ (sym (shown (imported held) head).imported_is ∙ is)
  none_there (outdated held) head is = true_not _ (sym (shown (outdated held) head).imported_is ∙ is)
  none_there (following held) head is = true_not _ (sym (shown (following held) head).imported_is ∙ is)

  -- the store has this format
  pub has_format : (state : State) → Here state → is_imported before ≡ true → is_old before ≡ false → is_follower before ≡ false
      → (text : List ℕ) (new : SinkView) (result : Result (Unit {0}) Fault) → text ≡ format_line
      → OnOk result (Appends output.taken new.taken text) → OnErr result (AppendsPrefix output.taken new.taken text)
      → IfErr result (λ fault. fault ≡ faults.WriteFault) → HasCauseOf output.faults new.faults result
      → GoesOn (migrates state) start done (result_err result) old (world files (view_of before) new)
  has_format formatted head there current own text new result is all front alone cause =
      true_not _ (sym there ∙ (shown formatted head).imported_is)
  has_format (imported held) head there current own text new result is all front alone cause =
      tells_last start done (imported held) next old files before output head format_line text new result is all front alone cause
  has_format (outdated held) head there current own text new result is all front alone cause =
      true_not _ (sym (shown (outdated held) head).old_is ∙ current)
  has_format (following held) head there current own text new result is all front alone cause =
      true_not _ (sym (shown (following held) head).follower_is ∙ own)

  -- or the old one
  if_outdated : (state : State) → Here state → is_old before ≡ true → (fault : Option Fault) (new : World)
      → ((held : Holding) → Here (outdated held) → GoesOn (commits Migrate (tells format_line ends)) start done fault old new)
      → GoesOn (migrates state) start done fault old new
  if_outdated formatted head is fault new goes = true_not _ (sym is ∙ (shown formatted head).old_is)
  if_outdated (imported held) head is fault new goes = true_not _ (sym is ∙ (shown (imported held) head).old_is)
  if_outdated (following held) head is fault new goes = true_not _ (sym is ∙ (shown (following held) head).old_is)
  if_outdated (outdated held) head is fault new goes = goes held head

  module _ (state : State) (head : Here state) (is_outdated : is_old before ≡ true) (now : Handle) where
    pub migrate_refused : (fault : FlowFault) → ((own : State) → IsOpen own before → Takes own Migrate (Some fault) before now)
        → IsRefusedSo (Some Migrate) fault before now → (fault ≡ flow.OldFormat → ⊥)
        → GoesOn (migrates state) start done (Some (flow_fault fault)) old (world files (view_of now) output)
    migrate_refused fault takes so never =
        if_outdated state head is_outdated (Some (flow_fault fault)) (world files (view_of now) output)
        (λ held head. refused_step start done (outdated held) next old files before now output head Migrate tt fault takes so never
        (tells format_line ends))

    pub migrate_done : ((own : State) → IsOpen own before → Takes own Migrate None before now)
        → ((held : Holding) → Shows (outdated held) before → Shows (imported held) now) → is_whole now ≡ is_whole before
        → limits_of now ≡ limits_of before → HasFlowCause None (view_of before) (view_of now)
        → (text : List ℕ) (new : SinkView) (result : Result (Unit {0}) Fault) → text ≡ format_line
        → OnOk result (Appends output.taken new.taken text) → OnErr result (AppendsPrefix output.taken new.taken text)
        → IfErr result (λ fault. fault ≡ faults.WriteFault) → HasCauseOf output.faults new.faults result
        → GoesOn (migrates state) start done (result_err result) old (world files (view_of now) new)
    migrate_done takes shows sound same cause text new result is all front alone wrote =
        if_outdated state head is_outdated (result_err result) (world files (view_of now) new)
        (λ held head.
        let own = taken start done (outdated held) next old files before now output head Migrate tt takes (shows held) sound same cause in
        goes_back (commits Migrate (tells format_line ends)) (tells format_line ends) start done own.further (result_err result) old
        (world files (view_of now) new)
        (tells_last start own.further (after (outdated held) Migrate) next old files now output own.head format_line text new result is all
        front alone wrote) (own.leads (tells format_line ends)))
