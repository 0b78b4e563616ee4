-- A run that opens its store first.
use Rattle.std.proofs.Common.{◌≡◌, ◌∙◌, ℕ, Bool, true, false, Option, Some, None, List, inl, inr, refl, sym, ap, subst}
use Rattle.std.specs.Prelude.{IfSome}
use Rattle.osm_base.specs.bounds.Limits.{standard}
use Rattle.outside.specs.Bytes.{IfTold, IsTold}
use Rattle.outside.specs.Disk.{DiskView}
use Rattle.outside.specs.Inputs.{FilesView}
use Rattle.outside.specs.Sink.{SinkView}
use Rattle.outside.specs.declared.disk.Disk.{Ghosts}
use Rattle.page_journal.specs.Home.{IsFormatted}
use Rattle.page_journal.specs.Pages.{gate}
use Rattle.page_journal.specs.declared.layout.TheConstants.{OPEN}
use Rattle.page_journal.specs.declared.fault.StoreFault.TheVariants as stores
use Rattle.update_flow.specs.AtRest.{HasFlowCause, IsAt, IsAtEither, IsDamaged, Opens}
use Rattle.update_flow.specs.Refusals.{IsNoDiskFault, IsOpenFault}
use Rattle.update_flow.specs.Sound.{IsSound}
use Rattle.update_flow.specs.State.{Following, State, follows, following}
use Rattle.style_read.specs.Style.{StyleOf}
use Rattle.update_flow.specs.Handle.{Handle, IsOpen, changes_of, is_follower, is_old, is_whole, limits_of, style_of, view_of}
use Rattle.update_flow.specs.Opening.{Found, FoundIn, RootTells, RootTold}
use Rattle.update_flow.specs.SoundTurns.{FindsSound, FindsSoundIn}
use Rattle.update_flow.specs.Either.{EitherTold, FindsSoundEither, FoundEither}
use Rattle.update_flow.specs.Updater.{disk_of, handle_of}
use Rattle.update_flow.specs.declared.either.Either.{Either}
use Rattle.update_flow.specs.declared.either.Either.TheVariants as eithers
use Rattle.update_flow.specs.declared.opened.Opened.{Opened}
use Rattle.update_flow.specs.declared.updater.Updater.{Updater}
use Rattle.update_flow.specs.declared.fault.FlowFault.{FlowFault}
use Rattle.update_flow.specs.declared.fault.FlowFault.TheVariants as flow
use Rattle.run_promise.specs.declared.fault.Fault.{Fault}
use Rattle.run_promise.specs.declared.fault.Fault.TheVariants as faults
use Rattle.run_promise.specs.Comes.{Comes}
use Rattle.run_promise.specs.CommandOf.{old_store}
use Rattle.run_promise.specs.Course.{Course, opens}
use Rattle.run_promise.specs.Faults.{flow_fault}
use Rattle.updater.specs.Heads.{GoesOn, IsHead}
use Rattle.run_promise.specs.Progress.{Progress, Ending, at, begun, unknown}
use Rattle.run_promise.specs.Runs.{Begins, GoesBy}
use Rattle.run_promise.specs.World.{Before, World, remembered, world}
use Rattle.updater.proofs.OpenDeeds.{AnyState, IsBegun, IsFound, TellsNone, at_either, begun_kept, begun_vague, follower_kept, follower_vague, refused_kept}
use Rattle.updater.proofs.OpenDeeds.{refused_vague}
use Rattle.updater.proofs.VersionRuns.{goes_back}

module _ (files : FilesView) (view : DiskView) (output : SinkView)
    (only_now : (left : List ℕ) → view.crashes.outcomes_since view.crashes.moment left → view.crashes.outcomes left)
    (start : Progress) (begins : Begins old_store (world files view output) start) where
  abbrev Old : Before
  Old = remembered (world files view output)

  -- the opening is refused
  pub unopened : (fault : FlowFault) (now : DiskView) (rest : State → Course)
      → ((one other : State) → IsAtEither one other view → Opens one other (Some fault) view now)
      → (IsTold view.content → IsNoDiskFault (Some fault) → IsTold now.content) → IsOpenFault fault
      → (fault ≡ flow.Store stores.NotFormatted → IfTold view.content (λ bytes. ¬ IsFormatted bytes))
      → ((page : ℕ) → fault ≡ flow.Store (stores.BadStore page) → IfTold view.content IsDamaged) → HasFlowCause (Some fault) view now
      → GoesBy (opens rest) start (Some (flow_fault fault)) (world files view output) (world files now output)
  unopened fault now rest opened told alone none bad cause = by begins
    where
      by : Begins old_store (world files view output) start
          → GoesBy (opens rest) start (Some (flow_fault fault)) (world files view output) (world files now output)
      by (inl is) = subst (λ (own : Progress).
          GoesBy (opens rest) own (Some (flow_fault fault)) (world files view output) (world files now output)) (sym is)
          (refused_vague files view output only_now fault now rest alone none bad cause)
      by (inr (kept, fits, is)) = subst (λ (own : Progress).
          GoesBy (opens rest) own (Some (flow_fault fault)) (world files view output) (world files now output)) (sym is)
          (refused_kept files view output only_now kept fits fault now rest (opened _ _ (at_either view kept fits)) (told fits.told) cause)

  -- the store is that of a follower
  pub follower_opened : (now : DiskView) (rest : State → Course)
      → ((held : Following) (done : Progress) → Comes Old (rest (following held)) done (at done (Some faults.Follower)))
      → ((one other : State) → IsAtEither one other view → Opens one other None view now)
      → (IsTold view.content → (state : State) → IsAt state now → follows state ≡ true)
      → RootTold view.content None → IfTold view.content IsFormatted → HasFlowCause None view now
      → GoesBy (opens rest) start (Some faults.Follower) (world files view output) (world files now output)
  follower_opened now rest stops opened own fields formed cause = by begins
    where
      by : Begins old_store (world files view output) start
          → GoesBy (opens rest) start (Some faults.Follower) (world files view output) (world files now output)
      by (inl is) = subst (λ (from : Progress).
          GoesBy (opens rest) from (Some faults.Follower) (world files view output) (world files now output)) (sym is)
          (follower_vague files view output only_now now cause.later rest stops fields formed)
      by (inr (kept, fits, is)) = subst (λ (from : Progress).
          GoesBy (opens rest) from (Some faults.Follower) (world files view output) (world files now output)) (sym is)
          (let went = opened _ _ (at_either view kept fits) in
          follower_kept files view output only_now now cause.later rest stops kept fits went.moments (went.found refl) (own fits.told))

  -- the run goes on over the open store, whatever comes where nothing is known of its disk
  module _ (IsSo : State → Type 0) (updater : Handle) (next : ℕ) (opened : (one other : State) → IsAtEither one other view
      → Opens one other None view (view_of updater))
      (open_so : IsTold view.content → (state : State) → IsAt state (view_of updater) → IsOpen state updater × IsSo state)
      (limits : limits_of updater ≡ standard) (cause : HasFlowCause None view (view_of updater))
      (as_told : (bytes : List ℕ) → view.content ≡ Some bytes → (gate bytes ≡ OPEN → ⊥) → (view_of updater).content ≡ view.content)
      (vague : IsBegun IsSo (begun unknown 0) next Old files updater output) where
    is_begun : IsBegun IsSo start next Old files updater output
    is_begun = by begins
      where
        by : Begins old_store (world files view output) start → IsBegun IsSo start next Old files updater output
        by (inl is) = subst (λ (own : Progress). IsBegun IsSo own next Old files updater output) (sym is) vague
        by (inr (kept, fits, is)) = subst (λ (own : Progress). IsBegun IsSo own next Old files updater output) (sym is)
            (let own = opened _ _ (at_either view kept fits) in
            begun_kept files view output only_now kept fits updater next limits cause.later own.moments as_told IsSo (own.found refl)
            (open_so fits.told))

    -- by a course that goes on by another one from such states
    pub goes_begun : (course rest : State → Course)
        → ((state : State) → IsSo state → (old : Before) (done : Progress) (ending : Ending) → Comes old (rest state) done ending
        → Comes old (course state) done ending)
        → (fault : Option Fault) (new : World)
        → ((old : Before) (start done : Progress) (state : State) → IsSo state → IsHead start done state next old files updater output
        → GoesOn (rest state) start done fault old new)
        → GoesBy (opens course) start fault (world files view output) new
    goes_begun course rest leads fault new goes =
        let own = is_begun in
        goes_back (opens course) (rest own.state) start start own.further fault Old new
        (goes Old start own.further own.state own.so own.head)
        (λ ending comes. own.leads course ending (leads own.state own.so Old own.further ending comes))

  module _ (updater : Handle) (next : ℕ) (opened : (one other : State) → IsAtEither one other view
      → Opens one other None view (view_of updater))
      (open_so : IsTold view.content → (state : State) → IsAt state (view_of updater) → IsOpen state updater)
      (limits : limits_of updater ≡ standard) (sound : is_whole updater ≡ true) (own_is : is_follower updater ≡ false)
      (none : TellsNone updater) (cause : HasFlowCause None view (view_of updater)) (found : IsFound view.content updater)
      (as_told : (bytes : List ℕ) → view.content ≡ Some bytes → (gate bytes ≡ OPEN → ⊥) → (view_of updater).content ≡ view.content) where
    pub goes_opened : (rest : State → Course) (fault : Option Fault) (new : World)
        → ((old : Before) (start done : Progress) (state : State) → IsHead start done state next old files updater output
        → GoesOn (rest state) start done fault old new)
        → GoesBy (opens rest) start fault (world files view output) new
    goes_opened rest fault new goes = goes_begun AnyState updater next opened (λ told state at. (open_so told state at, tt)) limits cause
        as_told (begun_vague files view output only_now updater next limits sound own_is none cause.later found) rest rest
        (λ state so old done ending comes. comes) fault new (λ old start done state so head. goes old start done state head)

-- the same over the disk that was opened, and that is handed back
pub goes_over : {D : Type 0} {g : Ghosts D} (files : FilesView) (view : DiskView) (output : SinkView)
    (only_now : (left : List ℕ) → view.crashes.outcomes_since view.crashes.moment left → view.crashes.outcomes left)
    (start : Progress) (begins : Begins old_store (world files view output) start) (disk : D) (updater : Updater D g) (next : ℕ)
    → disk_of updater ≡ disk
    → ((one other : State) → IsAtEither one other view → Opens one other None view (g.view disk))
    → (IsTold view.content → (state : State) → IsAt state (g.view disk) → IsOpen state (handle_of updater))
    → limits_of (handle_of updater) ≡ standard → is_whole (handle_of updater) ≡ true → TellsNone (handle_of updater)
    → HasFlowCause None view (g.view disk)
    → IsFound view.content (handle_of updater)
    → ((bytes : List ℕ) → view.content ≡ Some bytes → (gate bytes ≡ OPEN → ⊥) → (g.view disk).content ≡ view.content)
    → (rest : State → Course) (fault : Option Fault) (final : Updater D g) (last : D) → last ≡ disk_of final
    → (read : FilesView) (told : SinkView)
    → ((old : Before) (start done : Progress) (state : State) → IsHead start done state next old files (handle_of updater) output
    → GoesOn (rest state) start done fault old (world read (view_of (handle_of final)) told))
    → GoesBy (opens rest) start fault (world files view output) (world read (g.view last) told)
goes_over {D} {g} files view output only_now start begins disk updater next same opened open_so limits sound none cause found as_told rest
    fault final last closed read told goes =
    subst (λ (own : D). GoesBy (opens rest) start fault (world files view output) (world read (g.view own) told)) (sym closed)
    (goes_opened files view output only_now start begins (handle_of updater) next
    (λ one other at. subst (λ (own : D). Opens one other None view (g.view own)) (sym same) (opened one other at))
    (λ told_before state at. open_so told_before state (subst (λ (own : D). IsAt state (g.view own)) same at))
    limits sound refl none (subst (λ (own : D). HasFlowCause None view (g.view own)) (sym same) cause) found
    (λ bytes here shut. ap (λ (own : D). (g.view own).content) same ∙ as_told bytes here shut) rest fault
    (world read (view_of (handle_of final)) told) goes)

-- what is so of what was found is so of this
module _ (found : Option Opened) (opened : Opened) (is : found ≡ Some opened) where
  pub found_some : (state : State) (view : DiskView) → FoundIn state view found → Found state view opened
  found_some state view own = subst (λ (o : Option Opened). FoundIn state view o) is own

  pub told_some : (content : Option (List ℕ)) → RootTold content found
      → IfTold content (RootTells opened.style opened.outdated opened.changes)
  told_some content own = subst (λ (o : Option Opened). RootTold content o) is own

  pub checked_some : (content : Option (List ℕ))
      → IfSome found (λ own. own.outdated ≡ false → (bytes : List ℕ) → content ≡ Some bytes → IsSound bytes)
      → opened.outdated ≡ false → (bytes : List ℕ) → content ≡ Some bytes → IsSound bytes
  checked_some content own = subst (λ (o : Option Opened). IfSome o (λ own. own.outdated ≡ false → (bytes : List ℕ)
      → content ≡ Some bytes → IsSound bytes)) is own

  pub sound_some : (view : DiskView) → FindsSoundIn view found → FindsSound view opened
  sound_some view own = subst (λ (o : Option Opened). FindsSoundIn view o) is own

-- and of a store of either kind
module _ (found : Either) (opened : Opened) (is : found ≡ eithers.Updates opened) where
  pub updates_found : (state : State) (view : DiskView) → FoundEither state view found → Found state view opened
  updates_found state view own = subst (λ (o : Either). FoundEither state view o) is own

  pub updates_told : (content : Option (List ℕ)) → EitherTold content found
      → IfTold content (RootTells opened.style opened.outdated opened.changes)
  updates_told content own = subst (λ (o : Either). EitherTold content o) is own

  pub updates_sound : (view : DiskView) → FindsSoundEither view found → FindsSound view opened
  updates_sound view own = subst (λ (o : Either). FindsSoundEither view o) is own

-- and of nothing that was found, that the store is that of a follower
module _ (found : Option Opened) (is : found ≡ None) where
  pub found_none : (state : State) (view : DiskView) → FoundIn state view found → follows state ≡ true
  found_none state view own = subst (λ (o : Option Opened). FoundIn state view o) is own

  pub told_none : (content : Option (List ℕ)) → RootTold content found → RootTold content None
  told_none content own = subst (λ (o : Option Opened). RootTold content o) is own

-- what was opened tells what was found
pub found_here : {D : Type 0} {g : Ghosts D} (opened : Opened) (updater : Updater D g) (content : Option (List ℕ))
    → style_of (handle_of updater) ≡ opened.style
    → is_old (handle_of updater) ≡ opened.outdated → changes_of (handle_of updater) ≡ opened.changes → IfTold content IsFormatted
    → IfTold content (RootTells opened.style opened.outdated opened.changes) → IsFound content (handle_of updater)
found_here opened updater content style outdated changes formed fields = λ bytes told. record {
  formed = formed bytes told;
  fields = subst (λ (own : Option StyleOf). RootTells own (is_old (handle_of updater)) (changes_of (handle_of updater)) bytes) (sym style)
      (subst (λ (own : Bool). RootTells opened.style own (changes_of (handle_of updater)) bytes) (sym outdated)
      (subst (λ (own : ℕ). RootTells opened.style opened.outdated own bytes) (sym changes) (fields bytes told)));
}
