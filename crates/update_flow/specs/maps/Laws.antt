-- Laws of the calls on the maps of a store, one call after another.
use Rattle.std.proofs.Common.{◌≡◌, ◌≤◌, ◌||◌, ℕ, Bool, true, false, List, [], ◌++◌, Option, Some, None, refl, sym, ap, subst, ◌∙◌}
use Rattle.std.proofs.Common.{true≢false}
use Rattle.std.specs.Prelude.{is_some}
use Rattle.std.specs.List.{AllByRecursion}
use Rattle.osm_base.specs.map.Known.{Question}
use Rattle.outside.specs.declared.disk.Disk.{Ghosts}
use Rattle.page_journal.specs.Journal.{is_broken}
use Rattle.page_journal.specs.declared.fault.StoreFault.{StoreFault}
use Rattle.page_journal.specs.declared.fault.StoreFault.TheVariants.{NotFormatted, NotEmpty, BadStore, DiskFault, StoreFull, Broken}
use Rattle.page_journal.specs.declared.fault.StoreFault.TheVariants.{OutOfMemory}
use Rattle.chain_store.specs.Chains.{OnlyRead, disk_of, journal_of}
use Rattle.style_read.specs.Style.{StyleOf}
use Rattle.style_read.specs.declared.style.TableDef.{TableDef}
use Rattle.bucket_store.specs.Buckets.{bucket_count}
use Rattle.bucket_store.specs.Image.{Has, Image, OnlyLooks}
use Rattle.bucket_store.specs.Transaction.{chains_of, has_refused}
use Rattle.bucket_store.specs.declared.buckets.Buckets.{Buckets}
use Rattle.bucket_store.proofs.Holding.{looks_same, looks_then}
use Rattle.back_index.specs.Asking.{asked_none, asked_then, bears_fewer, reads_more, reads_none, still}
use Rattle.back_index.specs.Index.{Knows, is_spent}
use Rattle.back_index.specs.Index.{HoldsIndex as IndexHeld}
use Rattle.back_index.specs.Reads.{HasReadOnly, ReadsBuckets}
use Rattle.back_index.specs.Visits.{Refuses}
use Rattle.back_index.proofs.Allowed.{questions_allowed}
use Rattle.back_index.proofs.Answering.{spent_going, spent_some, spent_whole}
use Rattle.store_maps.specs.Asked.{May, MayAnswer}
use Rattle.store_maps.specs.Maps.{Maps}
use Rattle.store_maps.specs.Named.{WaysAreThere, index_on}
use Rattle.update_flow.specs.maps.Calls.{AreAsked, IsAllowed, IsLater, Keeps, WasRefused, buckets_of, faults_of, is_over, stop_of, style_in}
use Rattle.update_flow.specs.maps.Held.{Beside, HasMaps}
use Rattle.store_check.specs.Kept.{HoldsMaps}
use Rattle.update_flow.specs.declared.maps.kept.StoreTxn.{StoreTxn}

-- a call that was refused for the disk or for want of memory alone
pub allowed_of : (fault : StoreFault) → Refuses (λ at. ⊥) fault → IsAllowed fault
allowed_of NotFormatted refuses = refuses
allowed_of NotEmpty refuses = refuses
allowed_of (BadStore page) refuses = refuses
allowed_of DiskFault refuses = tt
allowed_of (StoreFull pages) refuses = refuses
allowed_of Broken refuses = refuses
allowed_of OutOfMemory refuses = tt

-- neither stopped nor spent
pub neither_over : (stop : Option StoreFault) (spent : Bool) → (is_some stop || spent) ≡ false → (stop ≡ None) × (spent ≡ false)
neither_over None spent fresh = (refl, fresh)
neither_over (Some fault) spent fresh = absurd (true≢false fresh)

none_some : (fault : StoreFault) → None ≡ Some fault → ⊥
none_some fault is = true≢false (sym (ap (λ (o : Option StoreFault). is_some o) is))

pub over_none : (stop : Option StoreFault) (spent : Bool) → stop ≡ None → spent ≡ false → (is_some stop || spent) ≡ false
over_none stop spent none fresh = λ i. is_some (none i) || fresh i

-- the index that maps of bytes are held by
pub index_held : (definitions : List TableDef) (image : Image) (maps : Maps) → HoldsMaps definitions image.maps maps → IndexHeld image maps
index_held definitions image maps kept = record {
  ways_of_blocks = kept.ways_of_blocks;
  relations_of_nodes = kept.relations_of_nodes;
  relations_of_ways = kept.relations_of_ways;
}

module _ {D : Type 0} {g : Ghosts D} where
  -- a transaction that has what it had has the maps that it had
  pub maps_stay : (definitions : List TableDef) (under : Beside) (maps : Maps) (old new : Buckets D g)
      → ((rest now : Image) → Has rest now old → Has rest now new) → HasMaps definitions under maps old → HasMaps definitions under maps new
  maps_stay definitions under maps old new has had = record {
    now = had.now;
    has = has under.rest had.now had.has;
    root = had.root;
    texts = had.texts;
    kept = had.kept;
  }

  -- a store that was only read was only looked at
  pub looks_read : (old new : Buckets D g) → OnlyRead (chains_of old) (chains_of new)
      → (disk_of (chains_of old)).faults ≤ (disk_of (chains_of new)).faults → OnlyLooks old new
  looks_read old new stays later = record { looked = stays.looked; kept = stays.kept; later = later }

  -- maps that may be asked are those of a transaction that goes on
  module _ (kept : StoreTxn D g) where
    pub over_fresh : stop_of kept ≡ None → is_spent (buckets_of kept) ≡ false → is_over kept ≡ false
    over_fresh none fresh = over_none (stop_of kept) (is_spent (buckets_of kept)) none fresh

    pub over_spent : is_over kept ≡ false → is_spent (buckets_of kept) ≡ false
    over_spent fresh = (neither_over (stop_of kept) (is_spent (buckets_of kept)) fresh).1

    pub over_stop : is_over kept ≡ false → stop_of kept ≡ None
    over_stop fresh = (neither_over (stop_of kept) (is_spent (buckets_of kept)) fresh).0

    pub over_going : is_over kept ≡ false → has_refused (buckets_of kept) ≡ false
    over_going fresh = spent_going (buckets_of kept) (over_spent fresh)

    pub over_whole : is_over kept ≡ false → is_broken (journal_of (chains_of (buckets_of kept))) ≡ false
    over_whole fresh = spent_whole (buckets_of kept) (over_spent fresh)

    pub over_some : is_over kept ≡ false → 1 ≤ bucket_count (chains_of (buckets_of kept))
    over_some fresh = spent_some (buckets_of kept) (over_spent fresh)

  -- looks after looks
  pub later_same : (kept : StoreTxn D g) → IsLater kept kept
  later_same kept = record { looks = looks_same (buckets_of kept); reads = λ going. reads_none (buckets_of kept); same_style = refl }

  pub later_then : (first old new : StoreTxn D g) → OnlyLooks (buckets_of old) (buckets_of new)
      → (has_refused (buckets_of old) ≡ true → has_refused (buckets_of new) ≡ true)
      → (has_refused (buckets_of new) ≡ false → ReadsBuckets (buckets_of old) (buckets_of new)) → style_in new ≡ style_in old
      → IsLater first old → IsLater first new
  later_then first old new looks refused reads same later = record {
    looks = looks_then (buckets_of first) (buckets_of old) (buckets_of new) later.looks looks;
    reads = λ going. reads_more (buckets_of first) (buckets_of old) (buckets_of new)
        (later.reads (still (has_refused (buckets_of old)) (has_refused (buckets_of new)) refused going)) (reads going);
    same_style = same ∙ later.same_style;
  }

  -- questions, one after another
  pub are_asked_none : (kept : StoreTxn D g) → AreAsked [] kept kept
  are_asked_none kept = record { asked = asked_none (buckets_of kept) (stop_of kept); same_style = refl }

  pub are_asked_then : (before after : List Question) (first second third : StoreTxn D g) → AreAsked before first second
      → AreAsked after second third → AreAsked (before ++ after) first third
  are_asked_then before after first second third once again = record {
    asked = asked_then before after (buckets_of first) (buckets_of second) (buckets_of third) (stop_of first) (stop_of second)
        (stop_of third) once.asked again.asked;
    same_style = again.same_style ∙ once.same_style;
  }

  pub was_fewer : (kept : StoreTxn D g) (fewer more : ℕ) (fault : StoreFault) → fewer ≤ more → WasRefused kept more fault
      → WasRefused kept fewer fault
  was_fewer kept fewer more fault le was = bears_fewer (buckets_of kept) (stop_of kept) fewer more fault le was

  -- the index is that of the maps
  pub keeps_index : (kept : StoreTxn D g) (under : Beside) (maps : Maps) → Keeps kept under maps → Knows (buckets_of kept) (index_on maps)
  keeps_index kept under maps had = record {
    rest = under.rest;
    now = had.now;
    has_it = had.has;
    maps = maps;
    listings = index_held (style_in kept).tables had.now maps had.kept;
    ways = had.kept.ways;
    index_is = refl;
  }

  module _ (questions : List Question) (old new : StoreTxn D g) (are : AreAsked questions old new) where
    pub asked_later : (first : StoreTxn D g) → IsLater first old → IsLater first new
    asked_later first later = later_then first old new
        (looks_read (buckets_of old) (buckets_of new) are.asked.stays are.asked.later) are.asked.refused are.asked.reads are.same_style
        later

    pub asked_keeps : is_over new ≡ false → (under : Beside) (maps : Maps) → Keeps old under maps → Keeps new under maps
    asked_keeps fresh under maps had =
        subst (λ (s : StyleOf). HasMaps s.tables under maps (buckets_of new)) (sym are.same_style)
        (maps_stay (style_in old).tables under maps (buckets_of old) (buckets_of new) (are.asked.has_still (over_whole new fresh)) had)

    pub asked_refused : (first : StoreTxn D g) (refusal : StoreFault) → IsLater first old → WasRefused new (faults_of old) refusal
        → WasRefused new (faults_of first) refusal
    asked_refused first refusal later was = was_fewer new (faults_of first) (faults_of old) refusal later.looks.later was

    -- no more was read than answers the questions
    pub asked_within : (under : Beside) (maps : Maps) → Keeps old under maps → (may : May) → AllByRecursion (MayAnswer may maps) questions
        → HasReadOnly may (buckets_of old) → HasReadOnly may (buckets_of new)
    asked_within under maps had may all only =
        are.asked.within under.rest had.now had.has maps (index_held (style_in old).tables had.now maps had.kept) may all only

    -- maps refuse a question for the disk or for want of memory alone
    pub asked_allowed : is_over old ≡ false → (under : Beside) (maps : Maps) → Keeps old under maps → WaysAreThere maps
        → (refusal : StoreFault) → WasRefused new (faults_of old) refusal → IsAllowed refusal
    asked_allowed fresh under maps had there refusal was = elim (has_refused (buckets_of new))
        as (λ b. has_refused (buckets_of new) ≡ b → IsAllowed refusal) [
          | true ↦ λ refused.
              allowed_of refusal
              (questions_allowed (buckets_of old) had.now maps
              (index_held (style_in old).tables had.now maps had.kept) had.kept.ways there refusal
              (are.asked.why (over_going old fresh) refused refusal was.0 under.rest had.now had.has))
          | false ↦ λ going. absurd (none_some refusal (sym (over_stop old fresh) ∙ sym (are.asked.going going) ∙ was.0))
        ] refl
