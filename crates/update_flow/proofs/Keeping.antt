-- A call on the maps of a store, by the answer of the call on its buckets.
use Rattle.bucket_store.specs.Transaction.{IsReady, has_refused}
use Rattle.std.proofs.Common.{◌≡◌, ◌||◌, false, List, Option, Some, Result, Ok, Err, ◌∙◌, subst, sym, true≢false}
use Rattle.std.specs.Prelude.{is_some}
use Rattle.osm_base.specs.map.Known.{Question}
use Rattle.outside.specs.declared.disk.Disk.{Ghosts}
use Rattle.page_journal.specs.declared.fault.StoreFault.{StoreFault}
use Rattle.page_journal.specs.declared.fault.StoreFault.TheVariants.{NotFormatted, NotEmpty, BadStore, DiskFault, StoreFull, Broken}
use Rattle.page_journal.specs.declared.fault.StoreFault.TheVariants.{OutOfMemory}
use Rattle.style_read.specs.Style.{StyleOf}
use Rattle.bucket_store.specs.Image.{Has, Image, IsSoundAnswer}
use Rattle.bucket_store.specs.declared.buckets.Buckets.{Buckets}
use Rattle.bucket_store.proofs.Holding.{looks_then}
use Rattle.back_index.specs.Asking.{bears_fewer, reads_more}
use Rattle.back_index.specs.Reads.{ReadsBuckets}
use Rattle.back_index.specs.Index.{Asked, Bears, is_spent}
use Rattle.back_index.proofs.Answering.{borne, fresh_after, spent_going}
use Rattle.store_maps.specs.Looks.{Looks, Sets}
use Rattle.store_maps.specs.Maps.{Maps}
use Rattle.update_flow.specs.maps.Calls.{IsAllowed, IsLater, Keeps, WasRefused, buckets_of, faults_of, is_over, stop_of, style_in}
use Rattle.update_flow.specs.maps.Held.{Beside, HasMaps}
use Rattle.update_flow.specs.maps.Laws.{looks_read, maps_stay, over_going, over_none, over_some, over_spent, over_stop}
use Rattle.update_flow.specs.maps.Touched.{Touched}
use Rattle.update_flow.specs.declared.maps.kept.StoreTxn.{StoreTxn}
use Rattle.update_flow.proofs.Findings.{answers_of}

-- a refusal of a sound store is one of its maps
pub allowed_sound : (T : Type 0) (fault : StoreFault) → IsSoundAnswer {T = T} (Err fault) → IsAllowed fault
allowed_sound T NotFormatted is = is
allowed_sound T NotEmpty is = is
allowed_sound T (BadStore page) is = is
allowed_sound T DiskFault is = tt
allowed_sound T (StoreFull pages) is = is
allowed_sound T Broken is = is
allowed_sound T OutOfMemory is = tt

-- maps that may be asked stand over a store that goes on
pub over_ready : {D : Type 0} {g : Ghosts D} (kept : StoreTxn D g) → is_over kept ≡ false → IsReady (buckets_of kept)
over_ready kept fresh = record { some = over_some kept fresh; going = over_going kept fresh }

-- what a call leaves of the maps, by what that on the buckets leaves of these: of maps that were not answered the last refusal is kept
module _ {D : Type 0} {g : Ghosts D} (old new : StoreTxn D g) (fresh : is_over old ≡ false) (same : style_in new ≡ style_in old) where
  later_touched : {T : Type 0} (result : Result T StoreFault) → Touched (buckets_of old) (buckets_of new) result
      → (has_refused (buckets_of new) ≡ false → ReadsBuckets (buckets_of old) (buckets_of new)) → (first : StoreTxn D g) → IsLater first old
      → IsLater first new
  later_touched result does reads first later = record {
    looks = looks_then (buckets_of first) (buckets_of old) (buckets_of new) later.looks
        (looks_read (buckets_of old) (buckets_of new) does.stays does.cause.later);
    reads = λ going.
        reads_more (buckets_of first) (buckets_of old) (buckets_of new) (later.reads (spent_going (buckets_of old) (over_spent old fresh)))
        (reads going);
    same_style = same ∙ later.same_style;
  }

  module _ {T : Type 0} (value : T) (stop : stop_of new ≡ stop_of old) (does : Touched (buckets_of old) (buckets_of new) (Ok value)) where
    -- maps that were answered may be asked again
    fresh_still : is_over new ≡ false
    fresh_still =
        over_none (stop_of new) (is_spent (buckets_of new)) (stop ∙ over_stop old fresh)
        (fresh_after (buckets_of old) (buckets_of new) (over_spent old fresh) value
        (answers_of (buckets_of old) (buckets_of new) (Ok value) does))

    pub sets_done : Sets IsLater is_over WasRefused faults_of old new (Ok value)
    sets_done = record { looked = later_touched (Ok value) does (λ going. does.reads); spent = fresh_still; refused = tt }

    pub looks_done : ((rest now : Image) → Has rest now (buckets_of old) → Has rest now (buckets_of new))
        → Looks Keeps IsLater is_over WasRefused faults_of IsAllowed old new (Ok value)
    looks_done has = record {
      holds = λ under maps had.
          subst (λ (s : StyleOf). HasMaps s.tables under maps (buckets_of new)) (sym same)
          (maps_stay (style_in old).tables under maps (buckets_of old) (buckets_of new) has had);
      looked = later_touched (Ok value) does (λ going. does.reads);
      spent = fresh_still;
      refused = tt;
      allowed = λ under maps had. tt;
    }

  module _ (T : Type 0) (fault : StoreFault) (stop : stop_of new ≡ Some fault)
      (does : Touched {T = T} (buckets_of old) (buckets_of new) (Err fault)) where
    later_stopped : (first : StoreTxn D g) → IsLater first old → IsLater first new
    later_stopped = later_touched {T = T} (Err fault) does (λ going. absurd (true≢false (sym does.refused ∙ going)))

    -- those that were refused tell why
    bears_still : (first : StoreTxn D g) → IsLater first old → WasRefused new (faults_of first) fault
    bears_still first later =
        subst (λ (o : Option StoreFault). Bears (buckets_of new) o (faults_of first) fault) (sym stop)
        (bears_fewer (buckets_of new) (Some fault) (faults_of first) (faults_of old) fault later.looks.later
        (borne (buckets_of old) (buckets_of new) (over_spent old fresh) fault
        (answers_of (buckets_of old) (buckets_of new) {T = T} (Err fault) does)))

    pub sets_stopped : Sets {A = T} IsLater is_over WasRefused faults_of old new (Err fault)
    sets_stopped = record { looked = later_stopped; spent = tt; refused = bears_still }

    pub looks_stopped : ((under : Beside) (maps : Maps) → Keeps old under maps → IsAllowed fault)
        → Looks {A = T} Keeps IsLater is_over WasRefused faults_of IsAllowed old new (Err fault)
    looks_stopped allowed = record { holds = tt; looked = later_stopped; spent = tt; refused = bears_still; allowed = allowed }

module _ {D : Type 0} {g : Ghosts D} (old : StoreTxn D g) (new : Buckets D g) where
  -- a question to the index that was answered leaves why the last one was refused
  pub fresh_asked : (questions : List Question) (stopped : Option StoreFault) → is_over old ≡ false
      → Asked questions (buckets_of old) (stop_of old) new stopped → is_spent new ≡ false
      → (is_some stopped || is_spent new) ≡ false
  fresh_asked questions stopped fresh asked still = λ i. is_some ((asked.going (spent_going new still) ∙ over_stop old fresh) i) || still i
