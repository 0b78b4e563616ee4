-- The first import, as a step of the store.
use Rattle.std.proofs.Common.{◌≡◌, ◌≢◌, ◌≤◌, ◌<◌, ◌==◌, zero, suc, ℕ, nat_eq, true, false, List, [], Ok, Option, Some, None, IsTrue, refl}
use Rattle.std.proofs.Common.{ap, ◌∙◌, arith}
use Rattle.std.specs.Int.{is_power_of_two}
use Rattle.std.proofs.lemmas.Bool.Decides.{nat_tests}
use Rattle.std.proofs.lemmas.Nat.{ones_le_self}
use Rattle.std.specs.Prelude.{count_ones, is_some}
use Rattle.std.specs.FinMap as finite
use Rattle.osm_base.specs.declared.bounds.limits.LimitNumbers.{LimitNumbers}
use Rattle.osm_base.specs.declared.values.object.Entry.{Entry}
use Rattle.osm_base.specs.map.Objects.{folded_all}
use Rattle.style_read.specs.Reading.{reading}
use Rattle.style_read.specs.Style.{StyleOf}
use Rattle.page_journal.specs.declared.fault.StoreFault.{StoreFault}
use Rattle.page_journal.specs.declared.fault.StoreFault.TheVariants as store
use Rattle.bucket_store.specs.Image.{Image, with_text}
use Rattle.bucket_store.proofs.Images.{maps_with_root, maps_with_text, root_with_root, texts_beside, texts_here, texts_with_root}
use Rattle.update_flow.specs.maps.Calls.{IsAllowed}
use Rattle.store_check.specs.Kept.{HoldsMaps}
use Rattle.update_flow.proofs.MapsKept.{kept_same}
use Rattle.store_maps.specs.Maps.{Maps}
use Rattle.store_maps.specs.Stands.{Stands}
use Rattle.update_step.specs.Ends.{Ends, MayRefuse}
use Rattle.update_step.specs.declared.fault.StepFault.{StepFault}
use Rattle.update_step.specs.declared.fault.StepFault.TheVariants as steps
use Rattle.update_flow.specs.Faults.{of_store}
use Rattle.update_flow.specs.Refusals.{MayAnswer}
use Rattle.update_flow.specs.Ids.{AreIdEntries}
use Rattle.update_flow.specs.Settling.{begun, fresh_root}
use Rattle.update_flow.specs.Stands.{IsImported}
use Rattle.update_flow.specs.State.{State, Step, Import, following, formatted, fresh, imported, outdated}
use Rattle.update_flow.specs.Handle.{Handle, IsOpen, Shows, Takes, TellsAs, is_follower, is_imported, is_old, is_whole, limits_of, view_of}
use Rattle.update_flow.specs.Turning.{TurnsOn}
use Rattle.update_flow.specs.Updater.{KeptFits}
use Rattle.update_flow.specs.declared.fault.FlowFault.{FlowFault}
use Rattle.update_flow.specs.declared.fault.FlowFault.TheVariants as flow
use Rattle.bucket_store.specs.declared.resting.Resting.{Resting}
use Rattle.update_flow.proofs.Handles.{step_old, takes_none, takes_on, told_begun, told_blank, told_imported, told_old, told_own, told_taken}
use Rattle.update_flow.specs.Steps.{of_step}
use Rattle.update_flow.specs.declared.fields.TheConstants.{DUE_TEXT, STYLE_TEXT}
use Rattle.tile_cover.specs.Runs.{IsTileSet}
use Rattle.update_flow.proofs.Keyed.{ids_folded, ids_none}

no_power : IsTrue (is_power_of_two 0) → ⊥
no_power power = let none : count_ones 0 ≡ 0 = omega (arith, ones_le_self 0) in absurd (cc (power, ap (λ (n : ℕ). n == 1) none))

some_power : (n : ℕ) → IsTrue (is_power_of_two n) → 1 ≤ n
some_power zero power = absurd (no_power power)
some_power (suc n) power = omega arith

none_count : (n : ℕ) → 1 ≤ n → nat_eq n 0 ≡ false
none_count n some = grind (arith, nat_tests)

-- so many buckets are some
pub power_counts : (n : ℕ) → IsTrue (is_power_of_two n) → nat_eq n 0 ≡ false
power_counts n power = none_count n (some_power n power)

no_runs : IsTileSet []
no_runs = record { each = tt; apart = tt }

-- the store once its maps are filled, and it has a style
pub begun_becomes : (style : StyleOf) (bytes : List ℕ) (buckets : ℕ) (entries : List Entry) (rest now : Image) (maps : Maps)
    → ((n : ℕ) → n < 8 → rest.texts n ≡ [])
    → reading bytes ≡ Ok style → IsTrue (is_power_of_two buckets) → buckets ≤ 65536 → now.root.buckets ≡ buckets
    → ((n : ℕ) → n < 8 → now.texts n ≡ rest.texts n) → HoldsMaps style.tables now.maps maps
    → Stands style maps (folded_all finite.empty entries)
    → AreIdEntries entries → IsImported (fresh style bytes buckets entries) (begun bytes now)
begun_becomes style bytes buckets entries rest now maps empty reads power few count texts kept stand ids =
    let root = fresh_root now.root.buckets in
    let text = with_text STYLE_TEXT bytes now in
    record {
      root = root_with_root root text ∙ ap (λ (n : ℕ). fresh_root n) count;
      counted = omega arith;
      some = some_power buckets power;
      power = power;
      few = few;
      style_text = texts_with_root root text STYLE_TEXT ∙ texts_here STYLE_TEXT bytes now STYLE_TEXT refl;
      style = reads;
      due = record {
        runs = [];
        is = no_runs;
        bytes_are =
            texts_with_root root text DUE_TEXT ∙ texts_beside STYLE_TEXT bytes now DUE_TEXT (omega arith) ∙ texts DUE_TEXT (omega arith)
            ∙ empty DUE_TEXT (omega arith);
        tiles = λ zoom x y. refl;
      };
      others = λ n below not_style not_due.
          texts_with_root root text n ∙ texts_beside STYLE_TEXT bytes now n not_style ∙ texts n below ∙ empty n below;
      ids = ids_folded entries finite.empty ids_none ids;
      maps = record {
        maps = maps;
        kept = kept_same style.tables now.maps (begun bytes now).maps maps
            (λ m. maps_with_root root text m ∙ maps_with_text STYLE_TEXT bytes now m) kept;
        stand = stand;
      };
    }

module _ (limits : LimitNumbers) (step : Step) where
  allowed_begins : (fault : StoreFault) → IsAllowed fault → MayAnswer limits formatted step (Some (of_store fault))
  allowed_begins store.NotFormatted allowed = absurd allowed
  allowed_begins store.NotEmpty allowed = absurd allowed
  allowed_begins (store.BadStore page) allowed = absurd allowed
  allowed_begins store.DiskFault allowed = tt
  allowed_begins (store.StoreFull pages) allowed = absurd allowed
  allowed_begins store.Broken allowed = absurd allowed
  allowed_begins store.OutOfMemory allowed = tt

  -- an import is refused for the disk or for want of memory alone
  pub step_begins : (R : StoreFault → Type 0) (U : Type 0) (why : StepFault StoreFault) → Ends R U (λ value. ⊥) why
      → MayRefuse IsAllowed why
      → MayAnswer limits formatted step (Some (of_step why))
  step_begins R U (steps.Store fault) ends allowed = allowed_begins fault allowed
  step_begins R U (steps.TooMany value) ends allowed = absurd ends.1
  step_begins R U steps.OutOfMemory ends allowed = tt

-- a store that was imported is imported no more
pub import_unasked : (handle : Handle) (style : StyleOf) (bytes : List ℕ) (buckets : ℕ) (entries : List Entry) → is_imported handle ≡ true
    → is_old handle ≡ false → is_follower handle ≡ false → (state : State) → IsOpen state handle
    → Takes state (Import style bytes buckets entries) (Some flow.AlreadyImported) handle handle
import_unasked handle style bytes buckets entries is fresh own formatted opened = absurd (told_blank handle opened is)
import_unasked handle style bytes buckets entries is fresh own (outdated held) opened = absurd (told_old handle held opened fresh)
import_unasked handle style bytes buckets entries is fresh own (following held) opened = absurd (told_own handle held opened own)
import_unasked handle style bytes buckets entries is fresh own (imported held) opened =
    takes_none (imported held) (Import style bytes buckets entries) flow.AlreadyImported handle opened refl tt

pub import_old : (handle : Handle) (style : StyleOf) (bytes : List ℕ) (buckets : ℕ) (entries : List Entry) → is_old handle ≡ true
    → (state : State) → IsOpen state handle → Takes state (Import style bytes buckets entries) (Some flow.OldFormat) handle handle
import_old handle style bytes buckets entries is state opened =
    step_old handle (Import style bytes buckets entries) (λ held. refl) state is opened

-- an import that was done on the disk was done to the store
module _ (old new : Handle) (kept : Option Resting) (whole : is_some kept ≡ is_whole new)
    (keeps : KeptFits kept (view_of new) → new.keeps) where
  pub import_taken : (style : StyleOf) (bytes : List ℕ) (buckets : ℕ) (entries : List Entry) (fault : Option FlowFault)
      → is_imported old ≡ false
      → (IsOpen formatted old → TurnsOn (limits_of old) formatted (Import style bytes buckets entries) fault (view_of old)
      (view_of new) kept)
      → (fault ≡ None → Shows (imported (fresh style bytes buckets entries)) new) → (fault ≢ None → TellsAs old new)
      → (state : State) → IsOpen state old → Takes state (Import style bytes buckets entries) fault old new
  import_taken style bytes buckets entries fault is turns done tells (imported held) opened = absurd (told_imported old held opened is)
  import_taken style bytes buckets entries fault is turns done tells (outdated held) opened = absurd (told_begun old held opened is)
  import_taken style bytes buckets entries fault is turns done tells (following held) opened = absurd (told_taken old held opened is)
  import_taken style bytes buckets entries fault is turns done tells formatted opened =
      takes_on old new kept whole keeps formatted (Import style bytes buckets entries) fault (turns opened) done
      (λ not. record {
        changes_are = (tells not).changes_same ∙ opened.shows.changes_are;
        imported_is = (tells not).imported_same ∙ opened.shows.imported_is;
        old_is = (tells not).old_same ∙ opened.shows.old_is;
        style_is = (tells not).style_same ∙ opened.shows.style_is;
        follower_is = (tells not).follower_same ∙ opened.shows.follower_is;
      })
