-- The deeds of a run on its open store.
use Rattle.std.proofs.Common.{◌≡◌, ◌≤◌, ◌+◌, ◌⊎◌, ℕ, true, false, Option, Some, None, Err, List, [], ◌∷◌, length, ⊎_elim, inl, inr}
use Rattle.std.proofs.Common.{refl, sym}
use Rattle.std.proofs.Common.{◌∙◌, ap, subst, arith}
use Rattle.osm_base.specs.bounds.Limits.{standard}
use Rattle.osm_base.specs.declared.bounds.limits.LimitNumbers.{LimitNumbers}
use Rattle.outside.specs.Causes.{Rose}
use Rattle.outside.specs.Disk.{Crashes, Goes, Stays}
use Rattle.outside.specs.Inputs.{FilesView}
use Rattle.outside.specs.Sink.{SinkView}
use Rattle.page_journal.specs.declared.fault.StoreFault.TheVariants as stores
use Rattle.update_flow.specs.AtRest.{HasFlowCause, IsAt, IsOfEither, RestsAt}
use Rattle.update_flow.specs.History.{History, state_after}
use Rattle.update_flow.specs.Needed.{FitsLimit, Grows, HasStood, NeedsFrom, NeedsOn, Writes}
use Rattle.update_flow.proofs.Needs.{fits_as, needs_from, stood_grown, stood_stays}
use Rattle.update_flow.specs.Calls.{IsForImported}
use Rattle.update_flow.specs.Refusals.{IsCallFault, MayTell, IsNoDiskFault, MayAnswer, MayLook, OrFull, Refuses, RefusesLook}
use Rattle.update_flow.specs.Stands.{StandsFor}
use Rattle.delta_feed.specs.declared.block.Block.TheVariants as blocks
use Rattle.update_flow.specs.State.{State, formatted, imported, outdated, following, Step, Import, Append, Clear, Migrate, Follow, after, was_old}
use Rattle.update_flow.specs.Handle.{Handle, IsOpen, Looks, Shows, Takes, is_imported, is_old, is_whole, limits_of, view_of}
use Rattle.update_flow.specs.Updater.{StaysOpen, handle_of}
use Rattle.update_flow.specs.declared.updater.Updater.{Updater}
use Rattle.update_flow.specs.declared.fault.FlowFault.{FlowFault}
use Rattle.outside.specs.declared.disk.Disk.{Ghosts}
use Rattle.update_flow.specs.declared.fault.FlowFault.TheVariants as flow
use Rattle.run_promise.specs.declared.fault.Fault.{Fault}
use Rattle.run_promise.specs.declared.fault.Fault.TheVariants as faults
use Rattle.run_promise.specs.Comes.{ByStore, Comes, IfUnknown, IsCertain, IsOfNeed, IsRefusal, IsRefusedFor, IsStepFault, MayTake}
use Rattle.run_promise.specs.Course.{Course, looks, commits}
use Rattle.run_promise.specs.Faults.{flow_fault}
use Rattle.updater.specs.Heads.{GoesOn, IsHead, IsHere, IsRested, IsShown, KeptNone}
use Rattle.run_promise.specs.Keeps.{Is, IsOneOf, Kept, perhaps, whole, with_step, with_steps}
use Rattle.run_promise.specs.Leaves.{HasCause, IsPast, Leaves, StandsOn, SurvivesFrom}
use Rattle.run_promise.specs.Progress.{Standing, unused, unknown, keeps, half_made, Progress, Ending, at, committed, in_doubt}
use Rattle.run_promise.specs.World.{Before, World, world}
use Rattle.run_promise.proofs.HistoryLaws.{is_all, is_more, is_next, length_more, one_of_all, state-more}

-- a fault that is neither the disk's nor want of memory
record IsPlain (call : Option Step) (fault : FlowFault) : Type 1 where
  step : IsStepFault call fault
  causeless : (old : Before) (new : World) → HasCause old new (Some (flow_fault fault))
  no_disk : IsNoDiskFault (Some fault)
  answers : (limits : LimitNumbers) (state : State) (step : Step) → MayAnswer limits state step (Some fault)
      → OrFull limits (Some fault) (Refuses limits state step (Some fault))
  looks_so : (state : State) → MayLook state (Some fault) → RefusesLook state (Some fault)

-- what is needed of an open store
needed_here : (limits : LimitNumbers) (store : Handle) → limits ≡ standard → (first : Option (List ℕ))
    → HasStood standard first (view_of store) → (fault : Option FlowFault) (state : State) (step : Step) → IsOpen state store
    → FitsLimit limits (NeedsOn (view_of store) (after state step)) fault
    → FitsLimit standard (NeedsFrom standard first state (after state step)) fault
needed_here limits store same first stood fault state step opened fits =
    fits_as standard (NeedsOn (view_of store) (after state step)) (NeedsFrom standard first state (after state step)) fault
    (λ many. needs_from standard first state (after state step) (view_of store) many opened.at_rest stood)
    (subst (λ (own : LimitNumbers). FitsLimit own (NeedsOn (view_of store) (after state step)) fault) same fits)

data Kinds (call : Option Step) (fault : FlowFault) : Type 1 where
  of_disk : fault ≡ flow.Store stores.DiskFault → Kinds call fault
  of_memory : fault ≡ flow.OutOfMemory → Kinds call fault
  plain : IsPlain call fault → Kinds call fault

-- a call was refused so, and what that says of the store before it
pub record IsRefusedSo (call : Option Step) (fault : FlowFault) (before now : Handle) : Type 0 where
  pub alone : IsCallFault fault
  pub told : MayTell call fault
  pub broken : fault ≡ flow.Store stores.Broken → is_whole before ≡ false
  pub not_old : fault ≡ flow.OldFormat → is_old before ≡ true
  pub unbegun : fault ≡ flow.NotImported → is_imported before ≡ false
  pub begun : fault ≡ flow.AlreadyImported → is_imported before ≡ true
  pub cause : HasFlowCause (Some fault) (view_of before) (view_of now)

pub refused_so : {T D : Type 0} {g : Ghosts D} {call : Option Step} {old new : Updater D g} {fault : FlowFault}
    → StaysOpen {T = T} call old new (Err fault) → IsRefusedSo call fault (handle_of old) (handle_of new)
refused_so stays = record {
  alone = stays.alone;
  told = stays.told;
  broken = λ is. stays.broken (ap Err is);
  not_old = λ is. stays.not_old (ap Err is);
  unbegun = λ is. stays.unbegun (ap Err is);
  begun = λ is. stays.begun (ap Err is);
  cause = stays.cause;
}

-- a store of this state is ready for a call
abbrev pub Suits : State → Option Step → Type 0
Suits formatted (Some (Import style bytes buckets entries)) = Unit {0}
Suits formatted (Some (Follow (blocks.Full version style_bytes style rows))) = Unit {0}
Suits formatted _ = ⊥
Suits (imported held) call = IsForImported call
Suits (outdated held) (Some Migrate) = Unit {0}
Suits (outdated held) _ = ⊥
Suits (following held) (Some (Follow block)) = Unit {0}
Suits (following held) None = Unit {0}
Suits (following held) _ = ⊥

-- so it is not refused because nothing was imported, or something was
never_unbegun : (state : State) (call : Option Step) (before : Handle) (fault : FlowFault) → Suits state call → Shows state before
    → MayTell call fault → (fault ≡ flow.NotImported → is_imported before ≡ false) → fault ≡ flow.NotImported → ⊥
never_unbegun formatted (Some (Import style bytes buckets entries)) before fault suits shows told unbegun is =
    subst (MayTell (Some (Import style bytes buckets entries))) is told
never_unbegun formatted None before fault suits shows told unbegun is = absurd suits
never_unbegun formatted (Some (Append bounds change)) before fault suits shows told unbegun is = absurd suits
never_unbegun formatted (Some Clear) before fault suits shows told unbegun is = absurd suits
never_unbegun formatted (Some Migrate) before fault suits shows told unbegun is = absurd suits
never_unbegun formatted (Some (Follow (blocks.Full version style_bytes style rows))) before fault suits shows told unbegun is =
    subst (MayTell (Some (Follow (blocks.Full version style_bytes style rows)))) is told
never_unbegun formatted (Some (Follow (blocks.Delta delta))) before fault suits shows told unbegun is = absurd suits
never_unbegun (following held) call before fault suits shows told unbegun is =
    absurd (let two : true ≡ false = sym shows.imported_is ∙ unbegun is in cc)
never_unbegun (imported held) call before fault suits shows told unbegun is =
    absurd (let two : true ≡ false = sym shows.imported_is ∙ unbegun is in cc)
never_unbegun (outdated held) call before fault suits shows told unbegun is =
    absurd (let two : true ≡ false = sym shows.imported_is ∙ unbegun is in cc)

never_begun : (state : State) (call : Option Step) (before : Handle) (fault : FlowFault) → Suits state call → Shows state before
    → MayTell call fault → (fault ≡ flow.AlreadyImported → is_imported before ≡ true) → fault ≡ flow.AlreadyImported → ⊥
never_begun formatted call before fault suits shows told begun is =
    absurd (let two : true ≡ false = sym (begun is) ∙ shows.imported_is in cc)
never_begun (imported held) (Some (Import style bytes buckets entries)) before fault suits shows told begun is = absurd suits
never_begun (imported held) None before fault suits shows told begun is = subst (MayTell None) is told
never_begun (imported held) (Some (Append bounds change)) before fault suits shows told begun is =
    subst (MayTell (Some (Append bounds change))) is told
never_begun (imported held) (Some Clear) before fault suits shows told begun is = subst (MayTell (Some Clear)) is told
never_begun (imported held) (Some Migrate) before fault suits shows told begun is = subst (MayTell (Some Migrate)) is told
never_begun (imported held) (Some (Follow block)) before fault suits shows told begun is = subst (MayTell (Some (Follow block))) is told
never_begun (outdated held) (Some Migrate) before fault suits shows told begun is = subst (MayTell (Some Migrate)) is told
never_begun (outdated held) None before fault suits shows told begun is = absurd suits
never_begun (outdated held) (Some (Import style bytes buckets entries)) before fault suits shows told begun is = absurd suits
never_begun (outdated held) (Some (Append bounds change)) before fault suits shows told begun is = absurd suits
never_begun (outdated held) (Some Clear) before fault suits shows told begun is = absurd suits
never_begun (outdated held) (Some (Follow block)) before fault suits shows told begun is = absurd suits
never_begun (following held) (Some (Follow block)) before fault suits shows told begun is = subst (MayTell (Some (Follow block))) is told
never_begun (following held) None before fault suits shows told begun is = subst (MayTell None) is told
never_begun (following held) (Some (Import style bytes buckets entries)) before fault suits shows told begun is = absurd suits
never_begun (following held) (Some (Append bounds change)) before fault suits shows told begun is = absurd suits
never_begun (following held) (Some Clear) before fault suits shows told begun is = absurd suits
never_begun (following held) (Some Migrate) before fault suits shows told begun is = absurd suits

kind_of : (call : Option Step) (fault : FlowFault) → IsCallFault fault → (fault ≡ flow.Store stores.Broken → ⊥)
    → (fault ≡ flow.OldFormat → ⊥)
    → (fault ≡ flow.NotImported → ⊥) → (fault ≡ flow.AlreadyImported → ⊥) → MayTell call fault → Kinds call fault
kind_of call (flow.Store stores.DiskFault) alone sound new begun first told = of_disk refl
kind_of call flow.OutOfMemory alone sound new begun first told = of_memory refl
kind_of call (flow.Store stores.Broken) alone sound new begun first told = absurd (sound refl)
kind_of call (flow.Store stores.NotFormatted) alone sound new begun first told = absurd alone
kind_of call (flow.Store stores.NotEmpty) alone sound new begun first told = absurd alone
kind_of call (flow.Store stores.OutOfMemory) alone sound new begun first told = absurd alone
kind_of call (flow.Store (stores.BadStore page)) alone sound new begun first told =
    plain (record { step = tt; causeless = λ old new. tt; no_disk = tt; answers = λ limits state step h. h; looks_so = λ state h. h })
kind_of call (flow.Store (stores.StoreFull pages)) alone sound new begun first told =
    plain (record { step = told; causeless = λ old new. tt; no_disk = tt; answers = λ limits state step h. h; looks_so = λ state h. h })
kind_of call flow.NotImported alone sound new begun first told = absurd (begun refl)
kind_of call flow.AlreadyImported alone sound new begun first told = absurd (first refl)
kind_of call flow.OldFormat alone sound new begun first told = absurd (new refl)
kind_of call flow.LastChange alone sound new begun first told =
    plain (record { step = told; causeless = λ old new. tt; no_disk = tt; answers = λ limits state step h. h; looks_so = λ state h. h })
kind_of call (flow.TooMany value) alone sound new begun first told =
    plain (record { step = told; causeless = λ old new. tt; no_disk = tt; answers = λ limits state step h. h; looks_so = λ state h. h })

-- what was so at each moment is so when the run goes on
moments_on : (from : Standing) (cut : ℕ) (store further : Standing) (moment : ℕ) (one other : Crashes) (P : List ℕ → Type 0)
    → SurvivesFrom from cut store moment one → Goes P one other
    → ((left : List ℕ) → IsPast cut store left → IsPast cut further left) → ((left : List ℕ) → P left → IsPast cut further left)
    → SurvivesFrom from cut further moment other
moments_on unused cut store further moment one other P so_far goes lifts news = tt
moments_on unknown cut store further moment one other P so_far goes lifts news = tt
moments_on half_made cut store further moment one other P so_far goes lifts news = tt
moments_on (keeps kept) cut store further moment one other P so_far goes lifts news = record {
  later = omega (arith, so_far.later, goes.later);
  each = λ left out. ⊎_elim
      (λ (earlier : one.outcomes_since moment left).
      ⊎_elim (λ (own : IsOneOf kept left). inl own) (λ (own : IsPast cut store left). inr (lifts left own)) (so_far.each left earlier))
      (λ (own : P left). inr (news left own)) (goes.each moment left so_far.later out);
}

no_moments : (from : Standing) (cut : ℕ) (store : Standing) (moment : ℕ) (crashes : Crashes) → KeptNone from
    → SurvivesFrom from cut store moment crashes
no_moments unused cut store moment crashes none = tt
no_moments unknown cut store moment crashes none = tt
no_moments half_made cut store moment crashes none = tt
no_moments (keeps kept) cut store moment crashes none = absurd none

-- what an open store tells
pub shows_here : (store : Standing) (cut : ℕ) (state : State) (updater : Handle) → IsHere store cut state updater → Shows state updater
shows_here unused cut state updater here = absurd here
shows_here unknown cut state updater here = here.shows
shows_here (keeps kept) cut state updater here = here.rests.shows
shows_here half_made cut state updater here = absurd here

-- the progress with this standing and cut
abbrev standing : Standing → ℕ → Progress → Progress
standing store cut done = record { store = store; cut = cut; read = done.read; written = done.written }

module _ (start done : Progress) (state : State) (next : ℕ) (old : Before) (files : FilesView) (before now : Handle) (output : SinkView)
    (head : IsHead start done state next old files before output) where
  store_leaves : (store : Standing) (cut : ℕ) (fault : Option Fault) → StandsOn fault store old (view_of now)
      → SurvivesFrom start.store cut store old.moment (view_of now).crashes
      → HasCause old (world files (view_of now) output) fault → (view_of before).faults ≤ (view_of now).faults
      → Leaves start (at (standing store cut done) fault) old (world files (view_of now) output)
  store_leaves store cut fault stands moments cause later = record {
    output = head.so_far.output;
    at_end = head.so_far.at_end;
    others = head.so_far.others;
    store = stands;
    moments = moments;
    cause = cause;
    reads = head.so_far.reads;
    writes = head.so_far.writes;
    disk = omega (arith, head.so_far.disk, later);
  }

  -- nothing is known of the store
  module _ (is : done.store ≡ unknown) (later : (view_of before).faults ≤ (view_of now).faults) where
    vague_leaves : (fault : Option Fault) → HasCause old (world files (view_of now) output) fault
        → Leaves start (at done fault) old (world files (view_of now) output)
    vague_leaves fault cause = store_leaves done.store done.cut fault
        (subst (λ (store : Standing). StandsOn fault store old (view_of now)) (sym is) tt)
        (no_moments start.store done.cut done.store old.moment (view_of now).crashes (head.vague is)) cause later

    vague_head : (other : State) → IsShown other now → limits_of now ≡ limits_of before → IsHead start done other next old files now output
    vague_head other shown same = record {
      here = subst (λ (store : Standing). IsHere store done.cut other now) (sym is) shown;
      vague = head.vague;
      limits = same ∙ head.limits;
      stood = λ certain. absurd (subst (λ (store : Standing). IsCertain store) is certain);
      unread = head.unread;
      so_far = vague_leaves None tt;
    }

  -- the store keeps a history
  module _ (kept : Kept) (is : done.store ≡ keeps kept) (here : IsRested kept done.cut state before)
      (later : (view_of before).faults ≤ (view_of now).faults) where
    past_here : (left : List ℕ) → IsPast done.cut done.store left → (steps : ℕ) × (done.cut ≤ steps) × Is left kept.history steps
    past_here left past = subst (λ (store : Standing). IsPast done.cut store left) is past

    all_here : (left : List ℕ) → StandsFor left state → Is left kept.history (length kept.history.steps)
    all_here left stands = is_all left kept.history (subst (λ (own : State). StandsFor left own) (sym here.stands) stands)

    past_there : (left : List ℕ) → StandsFor left state → IsPast done.cut done.store left
    past_there left stands = subst (λ (store : Standing). IsPast done.cut store left) (sym is)
        (length kept.history.steps, here.cut_within, all_here left stands)

    -- and rests at its state
    rested_stands : (fault : Option Fault) → IsAt state (view_of now) → StandsOn fault done.store old (view_of now)
    rested_stands fault rests = subst (λ (store : Standing). StandsOn fault store old (view_of now)) (sym is) (
      (λ left out. subst (λ (own : Kept). IsOneOf own left) (sym here.all)
          (subst (λ (bytes : List ℕ). IsOneOf (whole kept.history) bytes) (sym (rests.only left out))
          (one_of_all rests.bytes kept.history (subst (λ (own : State). StandsFor rests.bytes own) (sym here.stands) rests.stands)))),
      λ _. (rests.bytes, rests.told),
    )

    rested_moments : RestsAt state (view_of before) (view_of now)
        → SurvivesFrom start.store done.cut done.store old.moment (view_of now).crashes
    rested_moments goes = moments_on start.store done.cut done.store done.store old.moment (view_of before).crashes (view_of now).crashes
        (λ left. StandsFor left state) head.so_far.moments goes (λ left past. past) past_there

    rested_leaves : (fault : Option Fault) → IsAt state (view_of now) → RestsAt state (view_of before) (view_of now)
        → HasCause old (world files (view_of now) output) fault
        → Leaves start (at done fault) old (world files (view_of now) output)
    rested_leaves fault rests goes cause = store_leaves done.store done.cut fault (rested_stands fault rests)
        (rested_moments goes) cause later

    rested_head : IsOpen state now → RestsAt state (view_of before) (view_of now) → Stays (view_of before) (view_of now)
        → limits_of now ≡ limits_of before → IsHead start done state next old files now output
    rested_head rests goes only same = record {
      here = subst (λ (store : Standing). IsHere store done.cut state now) (sym is)
          (record { all = here.all; cut_within = here.cut_within; stands = here.stands; rests = rests });
      vague = head.vague;
      limits = same ∙ head.limits;
      stood = λ certain. stood_stays standard old.content (view_of before) (view_of now) only (head.stood certain);
      unread = head.unread;
      so_far = rested_leaves None rests.at_rest goes tt;
    }

    -- the disk failed in a look
    failed_leaves : RestsAt state (view_of before) (view_of now) → HasCause old (world files (view_of now) output) (Some faults.DiskFault)
        → Leaves start (at done (Some faults.DiskFault)) old (world files (view_of now) output)
    failed_leaves goes cause = store_leaves done.store done.cut (Some faults.DiskFault)
        (subst (λ (store : Standing). StandsOn (Some faults.DiskFault) store old (view_of now)) (sym is) (
          (λ left out. subst (λ (own : Kept). IsOneOf own left) (sym here.all)
              (one_of_all left kept.history (subst (λ (own : State). StandsFor left own) (sym here.stands) (goes.now left out)))),
          λ not. absurd (not refl),
        ))
        (rested_moments goes) cause later

    -- a step was begun
    module _ (step : Step) (goes : Goes (IsOfEither state (after state step)) (view_of before).crashes (view_of now).crashes) where
      next_here : (left : List ℕ) → StandsFor left (after state step)
          → Is left (with_steps (step ∷ []) kept.history) (length kept.history.steps + 1)
      next_here left stands = is_next left kept.history step
          (subst (λ (own : State). StandsFor left (after own step)) (sym here.stands) stands)

      grown_moments : (other : Kept) → other.history ≡ with_steps (step ∷ []) kept.history
          → SurvivesFrom start.store done.cut (keeps other) old.moment (view_of now).crashes
      grown_moments other same = moments_on start.store done.cut done.store (keeps other) old.moment (view_of before).crashes
          (view_of now).crashes (IsOfEither state (after state step)) head.so_far.moments goes
          (λ left past. let own = past_here left past in (
            own.0,
            own.1,
            subst (λ (history : History). Is left history own.0) (sym same)
                (is_more left kept.history (step ∷ []) own.0 own.2),
          ))
          (λ left either. ⊎_elim
          (λ (stands : StandsFor left state). (
            length kept.history.steps,
            here.cut_within,
            subst (λ (history : History). Is left history (length kept.history.steps)) (sym same)
                (is_more left kept.history (step ∷ []) (length kept.history.steps) (all_here left stands)),
          ))
          (λ (stands : StandsFor left (after state step)). (
            length kept.history.steps + 1,
            omega (arith, here.cut_within),
            subst (λ (history : History). Is left history (length kept.history.steps + 1)) (sym same) (next_here left stands),
          ))
          either)

      -- and is done
      stepped_head : IsOpen (after state step) now → HasStood standard old.content (view_of now)
          → limits_of now ≡ limits_of before → IsHead start (committed step kept done) (after state step) next old files now output
      stepped_head rests stood same = record {
        here = record {
          all = refl;
          cut_within = omega (arith, here.cut_within, length_more kept.history.steps step);
          stands = state-more step kept.history ∙ ap (λ (own : State). after own step) here.stands;
          rests = rests;
        };
        vague = λ e. absurd (cc);
        limits = same ∙ head.limits;
        stood = λ _. stood;
        unread = head.unread;
        so_far = store_leaves (keeps (with_step step kept)) done.cut None (
          (λ left out. subst (λ (bytes : List ℕ). IsOneOf (with_step step kept) bytes) (sym (rests.at_rest.only left out))
              (one_of_all rests.at_rest.bytes (with_steps (step ∷ []) kept.history)
              (subst (λ (own : State). StandsFor rests.at_rest.bytes own)
              (sym (state-more step kept.history ∙ ap (λ (own : State). after own step) here.stands)) rests.at_rest.stands))),
          λ _. (rests.at_rest.bytes, rests.at_rest.told),
        )
            (grown_moments (with_step step kept) refl) tt later;
      }

      -- or the disk failed in it
      doubt_leaves : HasCause old (world files (view_of now) output) (Some faults.DiskFault)
          → Leaves start (at (in_doubt step kept done) (Some faults.DiskFault)) old (world files (view_of now) output)
      doubt_leaves cause = store_leaves (keeps (perhaps step kept)) done.cut (Some faults.DiskFault) (
        (λ left out. ⊎_elim
            (λ (stands : StandsFor left state). (
              length kept.history.steps,
              omega arith,
              omega arith,
              is_more left kept.history (step ∷ []) (length kept.history.steps) (all_here left stands),
            ))
            (λ (stands : StandsFor left (after state step)).
            (length kept.history.steps + 1, omega arith, omega arith, next_here left stands)) (goes.now left out)),
        λ not. absurd (not refl),
      )
          (grown_moments (perhaps step kept) refl) cause later

-- a step that was taken: how far the run has come, and where it goes on
pub record IsStepped (start done : Progress) (state : State) (next : ℕ) (old : Before) (files : FilesView) (updater : Handle)
    (output : SinkView) (step : Step) : Type 1 where
  pub further : Progress
  pub head : IsHead start further (after state step) next old files updater output
  pub leads : (rest : Course) (ending : Ending) → Comes old rest further ending → Comes old (commits step rest) done ending
  pub certain : IsCertain further.store → IsCertain done.store
  -- whatever goes on from here, it is what comes of the step
  pub how : ((done.store ≡ unknown) × (further ≡ done))
      ⊎ ((kept : Kept) × (done.store ≡ keeps kept) × (further ≡ committed step kept done) × MayTake old (state_after kept.history) step)

module _ (start done : Progress) (state : State) (next : ℕ) (old : Before) (files : FilesView) (before now : Handle) (output : SinkView)
    (head : IsHead start done state next old files before output) where
  rose_disk : (fault : FlowFault) → fault ≡ flow.Store stores.DiskFault → HasFlowCause (Some fault) (view_of before) (view_of now)
      → Rose old.disk_faults (view_of now).faults
  rose_disk fault is cause = let rose = cause.failed (ap Some is) in omega (arith, head.so_far.disk, rose)

  sound_here : (store : Standing) → IsHere store done.cut state before → is_whole before ≡ true
  sound_here unused here = absurd here
  sound_here unknown here = here.whole
  sound_here (keeps kept) here = here.rests.sound
  sound_here half_made here = absurd here

  not_broken : (fault : FlowFault) → (fault ≡ flow.Store stores.Broken → is_whole before ≡ false) → fault ≡ flow.Store stores.Broken → ⊥
  not_broken fault broken is = absurd (let two : true ≡ false = sym (sound_here done.store head.here) ∙ broken is in cc)

  -- a store of this format is not refused as one of the old
  pub not_outdated : was_old state ≡ false → (fault : FlowFault) → (fault ≡ flow.OldFormat → is_old before ≡ true) → fault ≡ flow.OldFormat
      → ⊥
  not_outdated new fault refused is = absurd
      (let two : true ≡ false = sym (refused is) ∙ (shows_here done.store done.cut state before head.here).old_is ∙ new in cc)

  -- what is known of the store
  certain_here : (kept : Kept) → done.store ≡ keeps kept → IsCertain done.store
  certain_here kept is = subst (λ (store : Standing). IsCertain store) (sym is) tt

  -- a step is taken
  module _ (step : Step) (moved : Writes state step ⊎ Stays (view_of before) (view_of now))
      (takes : (own : State) → IsOpen own before → Takes own step None before now)
      (shows : Shows state before → Shows (after state step) now)
      (sound : is_whole now ≡ is_whole before) (same : limits_of now ≡ limits_of before)
      (cause : HasFlowCause None (view_of before) (view_of now)) where
    taken_by : (store : Standing) → done.store ≡ store → IsHere store done.cut state before
        → IsStepped start done state next old files now output step
    taken_by unused is here = absurd here
    taken_by half_made is here = absurd here
    taken_by unknown is here = record {
      further = done;
      head = vague_head start done state next old files before now output head is cause.later (after state step)
          (record { shows = shows here.shows; whole = sound ∙ here.whole }) same;
      leads = λ rest ending comes. inr (subst (λ (store : Standing). ByStore store
          (λ kept. (ending ≡ at (in_doubt step kept done) (Some faults.DiskFault))
          ⊎ IsRefusedFor (IsRefusal old (state_after kept.history) step) done ending
          ⊎ (MayTake old (state_after kept.history) step × Comes old rest (committed step kept done) ending))
          (IsRefusedFor (IsStepFault (Some step)) done ending ⊎ Comes old rest done ending)) (sym is) (inr comes));
      certain = λ certain. certain;
      how = inl (is, refl);
    }
    taken_by (keeps kept) is here =
        let own = takes state here.rests in
        let answer : Refuses standard state step None =
        subst (λ (limits : LimitNumbers). Refuses limits state step None) head.limits own.answer in
        let need : IsOfNeed old state step None =
        λ writes. needed_here (limits_of before) before head.limits old.content
        (head.stood (certain_here kept is)) None state step here.rests (own.needs writes) in
        let stood : HasStood standard old.content (view_of now) = ⊎_elim
        (λ (writes : Writes state step). stood_grown standard old.content state (after state step) (view_of before) (view_of now)
        here.rests.at_rest (own.done refl).at_rest
        (subst (λ (limits : LimitNumbers). Grows limits (after state step) (view_of before) (view_of now)) head.limits (own.grown writes refl)))
        (λ (only : Stays (view_of before) (view_of now)). stood_stays standard old.content (view_of before) (view_of now) only
        (head.stood (certain_here kept is))) moved in
        record {
          further = committed step kept done;
          head = stepped_head start done state next old files before now output head kept is here cause.later step own.moments
              (own.done refl) stood same;
          leads = λ rest ending comes. inr (subst (λ (store : Standing). ByStore store
              (λ kept. (ending ≡ at (in_doubt step kept done) (Some faults.DiskFault))
              ⊎ IsRefusedFor (IsRefusal old (state_after kept.history) step) done ending
              ⊎ (MayTake old (state_after kept.history) step × Comes old rest (committed step kept done) ending))
              (IsRefusedFor (IsStepFault (Some step)) done ending ⊎ Comes old rest done ending)) (sym is)
              (inr (inr (subst (λ (own : State). MayTake old own step) (sym here.stands) (answer, need), comes))));
          certain = λ _. subst (λ (store : Standing). IsCertain store) (sym is) tt;
          how = inr (kept, is, refl, subst (λ (own : State). MayTake old own step) (sym here.stands) (answer, need));
        }

    pub taken_so : IsStepped start done state next old files now output step
    taken_so = taken_by done.store refl head.here

  -- and writes
  pub taken : (step : Step) → Writes state step → ((own : State) → IsOpen own before → Takes own step None before now)
      → (Shows state before → Shows (after state step) now) → is_whole now ≡ is_whole before → limits_of now ≡ limits_of before
      → HasFlowCause None (view_of before) (view_of now) → IsStepped start done state next old files now output step
  taken step writes takes shows sound same cause = taken_so step (inl writes) takes shows sound same cause

  -- a step is refused
  module _ (step : Step) (suits : Suits state (Some step)) (fault : FlowFault)
      (takes : (own : State) → IsOpen own before → Takes own step (Some fault) before now)
      (so : IsRefusedSo (Some step) fault before now) (never : fault ≡ flow.OldFormat → ⊥) (rest : Course) where
    abbrev cause : HasFlowCause (Some fault) (view_of before) (view_of now)
    cause = so.cause

    abbrev Goal : Type 0
    Goal = GoesOn (commits step rest) start done (Some (flow_fault fault)) old (world files (view_of now) output)

    abbrev Known : Ending → Kept → Type 0
    Known ending kept = (ending ≡ at (in_doubt step kept done) (Some faults.DiskFault))
        ⊎ IsRefusedFor (IsRefusal old (state_after kept.history) step) done ending
        ⊎ (MayTake old (state_after kept.history) step × Comes old rest (committed step kept done) ending)

    abbrev Vague : Ending → Type 0
    Vague ending = IsRefusedFor (IsStepFault (Some step)) done ending ⊎ Comes old rest done ending

    refused_vague : done.store ≡ unknown → Kinds (Some step) fault → Goal
    refused_vague is (of_disk own) = (
      at done (Some faults.DiskFault),
      ap Some (sym (ap flow_fault own)),
      inl (inl refl),
      vague_leaves start done state next old files before now output head is cause.later (Some faults.DiskFault)
          (rose_disk fault own cause),
    )
    refused_vague is (of_memory own) = (
      at done (Some faults.OutOfMemory),
      ap Some (sym (ap flow_fault own)),
      inl (inr refl),
      vague_leaves start done state next old files before now output head is cause.later (Some faults.OutOfMemory) tt,
    )
    refused_vague is (plain own) = (
      at done (Some (flow_fault fault)),
      refl,
      inr (subst (λ (store : Standing). ByStore store (Known (at done (Some (flow_fault fault))))
          (Vague (at done (Some (flow_fault fault))))) (sym is) (inl (fault, own.step, refl))),
      vague_leaves start done state next old files before now output head is cause.later (Some (flow_fault fault))
          (own.causeless old (world files (view_of now) output)),
    )

    refused_known : (kept : Kept) → done.store ≡ keeps kept → IsRested kept done.cut state before → Kinds (Some step) fault → Goal
    refused_known kept is here (of_disk own) = (
      at (in_doubt step kept done) (Some faults.DiskFault),
      ap Some (sym (ap flow_fault own)),
      inr (subst (λ (store : Standing). ByStore store (Known (at (in_doubt step kept done) (Some faults.DiskFault)))
          (Vague (at (in_doubt step kept done) (Some faults.DiskFault)))) (sym is) (inl refl)),
      doubt_leaves start done state next old files before now output head kept is here cause.later step (takes state here.rests).moments
          (rose_disk fault own cause),
    )
    refused_known kept is here (of_memory own) =
        let rested = (takes state here.rests).refused (λ e. absurd (cc))
        (subst (λ (own : FlowFault). IsNoDiskFault (Some own)) (sym own) tt) in (
          at done (Some faults.OutOfMemory),
          ap Some (sym (ap flow_fault own)),
          inl (inr refl),
          rested_leaves start done state next old files before now output head kept is here cause.later
              (Some faults.OutOfMemory) rested.0.at_rest rested.1 tt,
        )
    refused_known kept is here (plain own) =
        let rested = (takes state here.rests).refused (λ e. absurd (cc)) own.no_disk in
        let why = own.answers standard state step
        (subst (λ (limits : LimitNumbers). MayAnswer limits state step (Some fault)) head.limits (takes state here.rests).answer) in
        let need : IsOfNeed old state step (Some fault) = λ writes.
        needed_here (limits_of before) before head.limits old.content (head.stood (certain_here kept is)) (Some fault) state step here.rests
        ((takes state here.rests).needs writes) in (
          at done (Some (flow_fault fault)),
          refl,
          inr (subst (λ (store : Standing). ByStore store (Known (at done (Some (flow_fault fault))))
              (Vague (at done (Some (flow_fault fault))))) (sym is)
              (inr (inl (
                fault,
                (
                  own.step,
                  subst (λ (state : State). OrFull standard (Some fault) (Refuses standard state step (Some fault))) (sym here.stands) why,
                  subst (λ (state : State). IsOfNeed old state step (Some fault)) (sym here.stands) need,
                ),
                refl,
              )))),
          rested_leaves start done state next old files before now output head kept is here cause.later
              (Some (flow_fault fault)) rested.0.at_rest rested.1 (own.causeless old (world files (view_of now) output)),
        )

    kind_here : Kinds (Some step) fault
    kind_here =
        let shows = shows_here done.store done.cut state before head.here in
        kind_of (Some step) fault so.alone (not_broken fault so.broken) never
        (never_unbegun state (Some step) before fault suits shows so.told so.unbegun)
        (never_begun state (Some step) before fault suits shows so.told so.begun) so.told

    refused_by : (store : Standing) → done.store ≡ store → IsHere store done.cut state before → Goal
    refused_by unused is here = absurd here
    refused_by half_made is here = absurd here
    refused_by unknown is here = refused_vague is kind_here
    refused_by (keeps kept) is here = refused_known kept is here kind_here

    pub refused_step : Goal
    refused_step = refused_by done.store refl head.here

-- a store that may be looked at is none of the old format, and no look is refused for its state
seen_today : (state : State) → Suits state None → was_old state ≡ false
seen_today formatted suits = absurd suits
seen_today (imported held) suits = refl
seen_today (outdated held) suits = absurd suits
seen_today (following held) suits = refl

never_refuses : (state : State) → Suits state None → (fault : FlowFault) → RefusesLook state (Some fault) → ⊥
never_refuses formatted suits fault refuses = absurd suits
never_refuses (imported held) suits fault refuses = absurd (let none : Some fault ≡ None = refuses in cc)
never_refuses (outdated held) suits fault refuses = absurd suits
never_refuses (following held) suits fault refuses = absurd (let none : Some fault ≡ None = refuses in cc)

module _ (start done : Progress) (state : State) (next : ℕ) (old : Before) (files : FilesView) (before now : Handle) (output : SinkView)
    (head : IsHead start done state next old files before output) where
  -- the store is looked at
  module _ (looked : (own : State) → IsOpen own before → Looks own None before now)
      (shows : Shows state before → Shows state now)
      (sound : is_whole now ≡ is_whole before) (same : limits_of now ≡ limits_of before)
      (cause : HasFlowCause None (view_of before) (view_of now)) where
    looked_by : (store : Standing) → done.store ≡ store → IsHere store done.cut state before
        → IsHead start done state next old files now output
    looked_by unused is here = absurd here
    looked_by half_made is here = absurd here
    looked_by unknown is here = vague_head start done state next old files before now output head is cause.later state
        (record { shows = shows here.shows; whole = sound ∙ here.whole }) same
    looked_by (keeps kept) is here =
        let own = looked state here.rests in
        rested_head start done state next old files before now output head kept is here cause.later
        (own.stays tt) own.moments own.only same

    pub looked_at : IsHead start done state next old files now output
    looked_at = looked_by done.store refl head.here

  -- a look is refused
  module _ (suits : Suits state None) (fault : FlowFault) (looked : (own : State) → IsOpen own before → Looks own (Some fault) before now)
      (so : IsRefusedSo None fault before now) (rest : Course) where
    abbrev Unlooked : Type 0
    Unlooked = GoesOn (looks rest) start done (Some (flow_fault fault)) old (world files (view_of now) output)

    unlooked_vague : done.store ≡ unknown → Kinds None fault → Unlooked
    unlooked_vague is (of_disk own) = (
      at done (Some faults.DiskFault),
      ap Some (sym (ap flow_fault own)),
      inl (inl refl),
      vague_leaves start done state next old files before now output head is so.cause.later (Some faults.DiskFault)
          (rose_disk start done state next old files before now output head fault own so.cause),
    )
    unlooked_vague is (of_memory own) = (
      at done (Some faults.OutOfMemory),
      ap Some (sym (ap flow_fault own)),
      inl (inr refl),
      vague_leaves start done state next old files before now output head is so.cause.later (Some faults.OutOfMemory) tt,
    )
    unlooked_vague is (plain own) = (
      at done (Some (flow_fault fault)),
      refl,
      inr (inl (subst (λ (store : Standing).
          IfUnknown store (IsRefusedFor (IsStepFault None) done (at done (Some (flow_fault fault))))) (sym is)
          (fault, own.step, refl))),
      vague_leaves start done state next old files before now output head is so.cause.later (Some (flow_fault fault))
          (own.causeless old (world files (view_of now) output)),
    )

    unlooked_known : (kept : Kept) → done.store ≡ keeps kept → IsRested kept done.cut state before → Kinds None fault → Unlooked
    unlooked_known kept is here (of_disk own) = (
      at done (Some faults.DiskFault),
      ap Some (sym (ap flow_fault own)),
      inl (inl refl),
      failed_leaves start done state next old files before now output head kept is here so.cause.later
          (looked state here.rests).moments
          (rose_disk start done state next old files before now output head fault own so.cause),
    )
    unlooked_known kept is here (of_memory own) =
        let rested = (looked state here.rests).stays (subst (λ (own : FlowFault). IsNoDiskFault (Some own)) (sym own) tt) in (
          at done (Some faults.OutOfMemory),
          ap Some (sym (ap flow_fault own)),
          inl (inr refl),
          rested_leaves start done state next old files before now output head kept is here so.cause.later
              (Some faults.OutOfMemory) rested.at_rest (looked state here.rests).moments tt,
        )
    unlooked_known kept is here (plain own) =
        absurd (never_refuses state suits fault (own.looks_so state (looked state here.rests).answer))

    look_kind : Kinds None fault
    look_kind =
        let shows = shows_here done.store done.cut state before head.here in
        kind_of None fault so.alone (not_broken start done state next old files before now output head fault so.broken)
        (not_outdated start done state next old files before now output head (seen_today state suits) fault so.not_old)
        (never_unbegun state None before fault suits shows so.told so.unbegun)
        (never_begun state None before fault suits shows so.told so.begun) so.told

    unlooked_by : (store : Standing) → done.store ≡ store → IsHere store done.cut state before → Unlooked
    unlooked_by unused is here = absurd here
    unlooked_by half_made is here = absurd here
    unlooked_by unknown is here = unlooked_vague is look_kind
    unlooked_by (keeps kept) is here = unlooked_known kept is here look_kind

    pub unlooked : Unlooked
    unlooked = unlooked_by done.store refl head.here
