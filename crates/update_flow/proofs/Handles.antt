-- An open store, as its calls leave it.
use Rattle.std.proofs.Common.{◌≡◌, ◌≢◌, Bool, true, false, Option, Some, None, Result, Ok, Err, refl, sym, ap, subst, ◌∙◌, arith}
use Rattle.std.specs.Prelude.{OnOk, is_some}
use Rattle.std.specs.Result.{result_err}
use Rattle.outside.specs.Disk.{DiskView}
use Rattle.page_journal.specs.declared.fault.StoreFault.TheVariants as store
use Rattle.page_journal.proofs.Moments.{stays_same}
use Rattle.std.proofs.lemmas.Option.{same_Some}
use Rattle.bucket_store.specs.Opening.{Fits}
use Rattle.bucket_store.specs.declared.resting.Resting.{Resting}
use Rattle.update_flow.specs.AtRest.{HasFlowCause}
use Rattle.update_flow.specs.Handle.{Handle, IsOpen, Looks, Shows, Takes, TellsAs, changes_of, is_follower, is_imported, is_old, is_whole, limits_of}
use Rattle.update_flow.specs.Handle.{style_of, view_of}
use Rattle.update_flow.specs.Needed.{FitsLimit, NeedsOn}
use Rattle.update_flow.specs.Refusals.{MayAnswer}
use Rattle.update_flow.specs.State.{Clear, Following, Holding, Migrate, State, Step, after, cleared, following, formatted, imported, outdated, was_old}
use Rattle.update_flow.specs.Turning.{EndsOn, IsKept, LooksOn, TurnsOn}
use Rattle.update_flow.specs.Updater.{KeptFits}
use Rattle.update_flow.specs.declared.fault.FlowFault.{FlowFault}
use Rattle.update_flow.specs.declared.fault.FlowFault.TheVariants as flow
use Rattle.update_flow.proofs.Openings.{at_state}
use Rattle.update_flow.proofs.Resting.{either_done, nothing_done}

-- the disk has failed no call still
pub whole_still : {T : Type 0} {call : Option Step} (r : Result T FlowFault) (old new : DiskView) (kept : Option Resting) (was : Bool)
    → was ≡ true
    → EndsOn call (result_err r) old new kept → OnOk r (is_some kept ≡ was)
whole_still (Ok t) old new kept was is ends = ends.whole tt ∙ sym is
whole_still (Err fault) old new kept was is ends = tt

-- nothing was done
pub nothing_caused : (fault : FlowFault) (disk : DiskView) → (Some fault ≡ Some (flow.Store store.DiskFault) → ⊥)
    → HasFlowCause (Some fault) disk disk
nothing_caused fault disk other = record { later = omega arith; failed = λ is. absurd (other is) }

pub takes_none : (state : State) (step : Step) (fault : FlowFault) (handle : Handle) → IsOpen state handle
    → MayAnswer (limits_of handle) state step (Some fault)
    → FitsLimit (limits_of handle) (NeedsOn (view_of handle) (after state step)) (Some fault) → Takes state step (Some fault) handle handle
takes_none state step fault handle opened may fits = record {
  answer = may;
  needs = λ _. fits;
  done = λ is. absurd (cc (is));
  grown = λ _ is. absurd (cc (is));
  refused = λ not no. (opened, nothing_done state (view_of handle) opened.at_rest);
  moments = either_done state (after state step) (view_of handle) opened.at_rest;
}

-- the state of a store that tells that it was imported, or was not
module _ (handle : Handle) where
  pub told_imported : (held : Holding) → IsOpen (imported held) handle → is_imported handle ≡ false → ⊥
  told_imported held opened is = absurd (cc (is, opened.shows.imported_is))

  pub told_blank : IsOpen formatted handle → is_imported handle ≡ true → ⊥
  told_blank opened is = absurd (cc (is, opened.shows.imported_is))

  pub told_old : (held : Holding) → IsOpen (outdated held) handle → is_old handle ≡ false → ⊥
  told_old held opened is = absurd (cc (is, opened.shows.old_is))

  pub told_begun : (held : Holding) → IsOpen (outdated held) handle → is_imported handle ≡ false → ⊥
  told_begun held opened is = absurd (cc (is, opened.shows.imported_is))

  pub told_new : (state : State) → was_old state ≡ false → IsOpen state handle → is_old handle ≡ true → ⊥
  told_new state new opened is = absurd (cc (is, opened.shows.old_is, new))

  pub told_own : (held : Following) → IsOpen (following held) handle → is_follower handle ≡ false → ⊥
  told_own held opened is = absurd (cc (is, opened.shows.follower_is))

  pub told_taken : (held : Following) → IsOpen (following held) handle → is_imported handle ≡ false → ⊥
  told_taken held opened is = absurd (cc (is, opened.shows.imported_is))

  -- an old store takes no step but one, and is not looked at
  pub step_old : (step : Step) → ((held : Holding) → MayAnswer (limits_of handle) (outdated held) step (Some flow.OldFormat))
      → (state : State)
      → is_old handle ≡ true → IsOpen state handle → Takes state step (Some flow.OldFormat) handle handle
  step_old step may formatted is opened = absurd (told_new formatted refl opened is)
  step_old step may (imported held) is opened = absurd (told_new (imported held) refl opened is)
  step_old step may (following held) is opened = absurd (told_new (following held) refl opened is)
  step_old step may (outdated held) is opened = takes_none (outdated held) step flow.OldFormat handle opened (may held) tt

  pub clear_old : (state : State) → is_old handle ≡ true → IsOpen state handle → Takes state Clear (Some flow.OldFormat) handle handle
  clear_old state is opened = step_old Clear (λ held. refl) state is opened

  pub look_old : (state : State) → is_old handle ≡ true → IsOpen state handle → Looks state (Some flow.OldFormat) handle handle
  look_old formatted is opened = absurd (told_new formatted refl opened is)
  look_old (imported held) is opened = absurd (told_new (imported held) refl opened is)
  look_old (following held) is opened = absurd (told_new (following held) refl opened is)
  look_old (outdated held) is opened = record {
    answer = refl;
    only = stays_same (view_of handle);
    stays = λ no. opened;
    moments =
        nothing_done (outdated held) (view_of handle) opened.at_rest;
  }

  -- and one that has the format of today is left as it is
  pub migrate_none : (state : State) → is_imported handle ≡ true → is_old handle ≡ false → is_follower handle ≡ false → IsOpen state handle
      → Takes state Migrate None handle handle
  migrate_none formatted begun is own opened = absurd (told_blank opened begun)
  migrate_none (outdated held) begun is own opened = absurd (told_old held opened is)
  migrate_none (following held) begun is own opened = absurd (told_own held opened own)
  migrate_none (imported held) begun is own opened = record {
    answer = refl;
    needs = λ writes. absurd writes;
    done = λ none. opened;
    grown = λ writes. absurd writes;
    refused = λ not no. absurd (not refl);
    moments = either_done (imported held) (imported held) (view_of handle) opened.at_rest;
  }

  pub migrate_unasked : (state : State) → is_imported handle ≡ false → IsOpen state handle
      → Takes state Migrate (Some flow.NotImported) handle handle
  migrate_unasked formatted is opened = takes_none formatted Migrate flow.NotImported handle opened refl tt
  migrate_unasked (imported held) is opened = absurd (cc (is, opened.shows.imported_is))
  migrate_unasked (outdated held) is opened = absurd (told_begun held opened is)
  migrate_unasked (following held) is opened = absurd (told_taken held opened is)

  -- one that is broken is not open
  pub told_broken : (state : State) → IsOpen state handle → is_whole handle ≡ false → ⊥
  told_broken state opened is = absurd (cc (is, opened.sound))

  pub clear_unasked : (state : State) → is_imported handle ≡ false → IsOpen state handle
      → Takes state Clear (Some flow.NotImported) handle handle
  clear_unasked formatted is opened = takes_none formatted Clear flow.NotImported handle opened refl tt
  clear_unasked (imported held) is opened = absurd (told_imported held opened is)
  clear_unasked (outdated held) is opened = absurd (told_begun held opened is)
  clear_unasked (following held) is opened = absurd (told_taken held opened is)

  pub look_unasked : (state : State) → is_imported handle ≡ false → IsOpen state handle → Looks state (Some flow.NotImported) handle handle
  look_unasked formatted is opened = record {
    answer = refl;
    only = stays_same (view_of handle);
    stays = λ no. opened;
    moments =
        nothing_done formatted (view_of handle) opened.at_rest;
  }
  look_unasked (imported held) is opened = absurd (told_imported held opened is)
  look_unasked (outdated held) is opened = absurd (told_begun held opened is)
  look_unasked (following held) is opened = absurd (told_taken held opened is)

-- what was done on the disk was done to the store
module _ (old new : Handle) (kept : Option Resting) (whole : is_some kept ≡ is_whole new)
    (keeps : KeptFits kept (view_of new) → new.keeps) where
  open_kept : (state : State) → IsKept state (view_of new) kept → Shows state new → IsOpen state new
  open_kept state is shows = record {
    at_rest = at_state state (view_of new) is.holds;
    sound = sym whole ∙ ap (λ (o : Option Resting). is_some o) is.fits.1;
    shows = shows;
    fits = keeps is.fits;
  }

  pub takes_on : (state : State) (step : Step) (fault : Option FlowFault)
      → TurnsOn (limits_of old) state step fault (view_of old) (view_of new) kept
      → (fault ≡ None → Shows (after state step) new) → (fault ≢ None → Shows state new) → Takes state step fault old new
  takes_on state step fault turns done refused = record {
    answer = turns.answer;
    needs = λ _. turns.needs;
    done = λ is. open_kept (after state step) (turns.done is) (done is);
    grown = λ _. turns.grown;
    refused = λ not no. let stays = turns.refused not no in (open_kept state stays.0 (refused not), stays.1);
    moments = turns.moments;
  }

  pub looks_on : (state : State) (fault : Option FlowFault) → LooksOn state fault (view_of old) (view_of new) kept → Shows state new
      → Looks state fault old new
  looks_on state fault looks shows = record {
    answer = looks.answer;
    only = looks.only;
    stays =
        λ no. open_kept state (looks.stays no) shows;
    moments = looks.moments;
  }

  -- due tiles are cleared
  module _ (tells : TellsAs old new) (is : is_imported old ≡ true) (fresh : is_old old ≡ false) (own : is_follower old ≡ false)
      (fault : Option FlowFault) where
    shows_still : (state : State) → Shows state old → Shows state new
    shows_still state shows = record {
      changes_are = tells.changes_same ∙ shows.changes_are;
      imported_is = tells.imported_same ∙ shows.imported_is;
      old_is = tells.old_same ∙ shows.old_is;
      style_is = tells.style_same ∙ shows.style_is;
      follower_is = tells.follower_same ∙ shows.follower_is;
    }

    shows_cleared : (held : Holding) → Shows (imported held) new → Shows (imported (cleared held)) new
    shows_cleared held shows = record {
      changes_are = shows.changes_are;
      imported_is = shows.imported_is;
      old_is = shows.old_is;
      style_is = shows.style_is;
      follower_is = shows.follower_is;
    }

    pub clear_taken : ((held : Holding) → IsOpen (imported held) old
        → TurnsOn (limits_of old) (imported held) Clear fault (view_of old) (view_of new) kept)
        → (state : State) → IsOpen state old → Takes state Clear fault old new
    clear_taken turns formatted opened = absurd (told_blank old opened is)
    clear_taken turns (outdated held) opened = absurd (told_old old held opened fresh)
    clear_taken turns (following held) opened = absurd (told_own old held opened own)
    clear_taken turns (imported held) opened =
        let shows = shows_still (imported held) opened.shows in
        takes_on (imported held) Clear fault (turns held opened) (λ _. shows_cleared held shows) (λ _. shows)

    pub look_taken : ((held : Holding) → IsOpen (imported held) old → LooksOn (imported held) fault (view_of old) (view_of new) kept)
        → (state : State) → IsOpen state old → Looks state fault old new
    look_taken looks formatted opened = absurd (told_blank old opened is)
    look_taken looks (outdated held) opened = absurd (told_old old held opened fresh)
    look_taken looks (following held) opened = absurd (told_own old held opened own)
    look_taken looks (imported held) opened = looks_on (imported held) fault (looks held opened) (shows_still (imported held) opened.shows)

  -- an old store is migrated
  pub migrate_taken : (fault : Option FlowFault) → is_old old ≡ true
      → ((held : Holding) → IsOpen (outdated held) old
      → TurnsOn (limits_of old) (outdated held) Migrate fault (view_of old) (view_of new) kept)
      → changes_of new ≡ changes_of old → is_imported new ≡ is_imported old → style_of new ≡ style_of old
      → is_follower new ≡ is_follower old
      → (fault ≡ None → is_old new ≡ false) → (fault ≢ None → is_old new ≡ is_old old)
      → (state : State) → IsOpen state old → Takes state Migrate fault old new
  migrate_taken fault is turns changes begun style same done stays formatted opened = absurd (told_new old formatted refl opened is)
  migrate_taken fault is turns changes begun style same done stays (imported held) opened = absurd (told_new old (imported held) refl opened is)
  migrate_taken fault is turns changes begun style same done stays (following held) opened = absurd (told_new old (following held) refl opened is)
  migrate_taken fault is turns changes begun style same done stays (outdated held) opened =
      let shows = opened.shows in
      takes_on (outdated held) Migrate fault (turns held opened)
      (λ none. record {
        changes_are = changes ∙ shows.changes_are;
        imported_is = begun ∙ shows.imported_is;
        old_is = done none;
        style_is = style ∙ shows.style_is;
        follower_is = same ∙ shows.follower_is;
      })
      (λ some. record {
        changes_are = changes ∙ shows.changes_are;
        imported_is = begun ∙ shows.imported_is;
        old_is = stays some ∙ shows.old_is;
        style_is = style ∙ shows.style_is;
        follower_is = same ∙ shows.follower_is;
      })

-- what is kept of an open store fits its disk
pub kept_fits : (kept : Option Resting) (own : Resting) (disk : DiskView) → kept ≡ Some own → KeptFits kept disk → Fits own disk
kept_fits kept own disk is fits = subst (λ (o : Resting). Fits o disk) (same_Some fits.0 own (sym fits.1 ∙ is)) fits.2
