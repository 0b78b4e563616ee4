-- A change of a store, from the step below to what is seen of the store.
use Rattle.std.proofs.Common.{◌≡◌, ◌≢◌, ◌∙◌, ◌+◌, ◌≤◌, ℕ, false, true, nat_eq, List, Option, None, Some, ap, refl, subst, sym, arith}
use Rattle.std.proofs.lemmas.Bool.Decides.{nat_tests}
use Rattle.std.specs.Prelude.{is_some}
use Rattle.outside.specs.declared.disk.Disk.{Ghosts}
use Rattle.osm_base.specs.declared.bounds.limits.LimitNumbers.{LimitNumbers}
use Rattle.osm_base.specs.declared.values.object.Entry.{Entry}
use Rattle.osm_base.specs.map.Objects.{ObjectSet, folded_all}
use Rattle.style_read.specs.Style.{StyleOf}
use Rattle.tile_cover.specs.Runs.{IsTileSet, has}
use Rattle.tile_cover.specs.Table.{BoundsOf}
use Rattle.tile_cover.specs.declared.runs.Run.{Run}
use Rattle.page_journal.specs.declared.fault.StoreFault.{StoreFault}
use Rattle.page_journal.specs.declared.fault.StoreFault.TheVariants as store
use Rattle.bucket_store.specs.Image.{Image}
use Rattle.bucket_store.specs.declared.buckets.Buckets.{Buckets}
use Rattle.bucket_store.specs.declared.resting.Resting.{Resting}
use Rattle.store_maps.specs.Maps.{Maps}
use Rattle.store_maps.specs.Stands.{Stands}
use Rattle.update_flow.specs.maps.Calls.{IsAllowed}
use Rattle.update_flow.specs.maps.Held.{HasMaps}
use Rattle.update_step.specs.Ends.{Ends, MayRefuse}
use Rattle.update_step.specs.declared.fault.StepFault.{StepFault}
use Rattle.update_step.specs.declared.fault.StepFault.TheVariants as steps
use Rattle.update_flow.specs.Due.{Tiles, both, due_between}
use Rattle.update_flow.specs.Faults.{of_store}
use Rattle.update_flow.specs.Handle.{Handle, IsOpen, Takes, changes_of, is_follower, is_imported, is_old, is_whole, limits_of, style_of, view_of}
use Rattle.update_flow.specs.Ids.{AreIdEntries}
use Rattle.update_flow.specs.Refusals.{MayAnswer, RefusesChange}
use Rattle.update_flow.specs.Settling.{committed_due}
use Rattle.update_flow.specs.Stands.{IsImported}
use Rattle.update_flow.specs.State.{Append, Holding, State, changed, formatted, imported, outdated, following}
use Rattle.update_flow.specs.Steps.{of_step}
use Rattle.update_flow.specs.Turning.{TurnsOn}
use Rattle.update_flow.specs.Updater.{KeptFits}
use Rattle.update_flow.specs.declared.fault.TheConstants.{LAST_CHANGE}
use Rattle.update_flow.specs.declared.fault.FlowFault.{FlowFault}
use Rattle.update_flow.specs.declared.fault.FlowFault.TheVariants as flow
use Rattle.update_flow.proofs.Becoming.{objects_become, settled_becomes, with_changes, with_due, with_objects}
use Rattle.update_flow.proofs.Handles.{step_old, takes_on, told_own, told_blank, told_old}
use Rattle.update_flow.proofs.Keyed.{ids_folded}

pub not_zero : (n : ℕ) → (n ≡ 0 → ⊥) → nat_eq n 0 ≡ false
not_zero n some = grind (arith, nat_tests, some)

module _ (limits : LimitNumbers) (held : Holding) (bounds : BoundsOf) (change : List Entry) where
  allowed_answers : (fault : StoreFault) → IsAllowed fault → MayAnswer limits (imported held) (Append bounds change) (Some (of_store fault))
  allowed_answers store.NotFormatted allowed = absurd allowed
  allowed_answers store.NotEmpty allowed = absurd allowed
  allowed_answers (store.BadStore page) allowed = absurd allowed
  allowed_answers store.DiskFault allowed = tt
  allowed_answers (store.StoreFull pages) allowed = absurd allowed
  allowed_answers store.Broken allowed = absurd allowed
  allowed_answers store.OutOfMemory allowed = tt

  -- a change that is refused answers as the state says
  pub step_answers : (R : StoreFault → Type 0) (U : Type 0) (M : ℕ → Type 0) (why : StepFault StoreFault) → Ends R U M why
      → MayRefuse IsAllowed why
      → ((value : ℕ) → M value → RefusesChange limits held change (Some (flow.TooMany value)))
      → MayAnswer limits (imported held) (Append bounds change) (Some (of_step why))
  step_answers R U M (steps.Store fault) ends allowed many = allowed_answers fault allowed
  step_answers R U M (steps.TooMany value) ends allowed many = many value ends.1
  step_answers R U M steps.OutOfMemory ends allowed many = tt

-- the store once a change is made and counted, and its tiles are due
pub append_becomes : {D : Type 0} {g : Ghosts D} (held : Holding) (rest : Image) (bounds : BoundsOf) (change : List Entry) (number : ℕ)
    (runs : List Run)
    (after : Maps) (buckets : Buckets D g) → (is : IsImported held rest)
    → (kept : HasMaps held.style.tables (record { rest = rest; root = rest.root; texts = rest.texts }) after buckets)
    → Stands held.style after (folded_all held.objects change) → IsTileSet runs
    → ((zoom x y : ℕ) → has runs zoom x y ≡ both held.due
    (due_between held.style bounds held.objects (folded_all held.objects change)) zoom x y)
    → held.changes + 1 ≡ number → number ≤ LAST_CHANGE → AreIdEntries change
    → IsImported (changed bounds change held) (committed_due number runs kept.now)
append_becomes held rest bounds change number runs after buckets is kept stand set tiles next counted ids =
    let objects : ObjectSet = folded_all held.objects change in
    let due : Tiles = both held.due (due_between held.style bounds held.objects objects) in
    subst (λ (n : ℕ). IsImported (with_changes n (with_due due (with_objects objects held))) (committed_due number runs kept.now)) (sym next)
    (settled_becomes (with_objects objects held) kept.now runs due number
    (objects_become held rest kept.now after objects is kept.root kept.texts kept.kept stand (ids_folded change held.objects is.ids ids))
    set tiles counted)

pub append_old : (handle : Handle) (bounds : BoundsOf) (change : List Entry) → is_old handle ≡ true → (state : State) → IsOpen state handle
    → Takes state (Append bounds change) (Some flow.OldFormat) handle handle
append_old handle bounds change is state opened = step_old handle (Append bounds change) (λ held. refl) state is opened

module _ (old new : Handle) (kept : Option Resting) (whole : is_some kept ≡ is_whole new)
    (keeps : KeptFits kept (view_of new) → new.keeps) where
  -- a change is made
  module _ (is : is_imported old ≡ true) (fresh : is_old old ≡ false) (own : is_follower old ≡ false)
      (same : is_follower new ≡ is_follower old) (stays : is_old new ≡ is_old old) (style : style_of new ≡ style_of old) (fault : Option FlowFault)
      (one_more : fault ≡ None → changes_of new ≡ changes_of old + 1) (as_many : fault ≢ None → changes_of new ≡ changes_of old) where
    shows_style : is_imported new ≡ true
    shows_style = ap (λ (o : Option StyleOf). is_some o) style ∙ is

    pub append_taken : (bounds : BoundsOf) (change : List Entry)
        → ((held : Holding) → IsOpen (imported held) old
        → TurnsOn (limits_of old) (imported held) (Append bounds change) fault (view_of old) (view_of new) kept)
        → (state : State) → IsOpen state old → Takes state (Append bounds change) fault old new
    append_taken bounds change turns formatted opened = absurd (told_blank old opened is)
    append_taken bounds change turns (outdated held) opened = absurd (told_old old held opened fresh)
    append_taken bounds change turns (following held) opened = absurd (told_own old held opened own)
    append_taken bounds change turns (imported held) opened =
        takes_on old new kept whole keeps (imported held) (Append bounds change) fault (turns held opened)
        (λ none. record {
          changes_are = one_more none ∙ ap (λ (n : ℕ). n + 1) opened.shows.changes_are;
          imported_is = shows_style;
          old_is = stays ∙ opened.shows.old_is;
          style_is = style ∙ opened.shows.style_is;
          follower_is = same ∙ opened.shows.follower_is;
        })
        (λ some. record {
          changes_are = as_many some ∙ opened.shows.changes_are;
          imported_is = shows_style;
          old_is = stays ∙ opened.shows.old_is;
          style_is = style ∙ opened.shows.style_is;
          follower_is = same ∙ opened.shows.follower_is;
        })
