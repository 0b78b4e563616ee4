-- Questions to the index of a store, one after another.
use Rattle.std.proofs.Common.{◌≡◌, inl, inr, ◌≤◌, ℕ, Bool, true, false, List, [], ◌∷◌, ◌++◌, Option, refl, sym, ◌∙◌, arith, ◌⊎◌}
use Rattle.std.specs.List.{AllByRecursion}
use Rattle.osm_base.specs.map.Known.{Question}
use Rattle.outside.specs.Causes.{Rose}
use Rattle.outside.specs.declared.disk.Disk.{Ghosts}
use Rattle.page_journal.specs.Journal.{is_broken}
use Rattle.page_journal.specs.declared.fault.StoreFault.{StoreFault}
use Rattle.page_journal.specs.declared.fault.StoreFault.TheVariants.{NotFormatted, NotEmpty, BadStore, DiskFault, StoreFull, Broken}
use Rattle.page_journal.specs.declared.fault.StoreFault.TheVariants.{OutOfMemory}
use Rattle.chain_store.specs.Chains.{OnlyRead, disk_of, journal_of}
use Rattle.chain_store.specs.declared.chains.Chains.{Chains}
use Rattle.chain_store.proofs.Looks.{looked_same, looked_then}
use Rattle.chain_store.proofs.Counted.{reads_nothing, reads_on, reads_wider}
use Rattle.chain_store.specs.Store.{kept_first}
use Rattle.bucket_store.specs.Buckets.{chain_at}
use Rattle.bucket_store.specs.Image.{Image}
use Rattle.bucket_store.specs.Transaction.{chains_of, has_refused}
use Rattle.bucket_store.specs.declared.buckets.Buckets.{Buckets}
use Rattle.store_maps.specs.Asked.{MayAnswer}
use Rattle.value_bytes.specs.StoreMap.{map_number}
use Rattle.value_bytes.specs.declared.store_map.StoreMap.TheVariants.{WaysOfBlocks}
use Rattle.back_index.specs.Calls.{page_in}
use Rattle.back_index.specs.Index.{Asked, Bears, IsDamaged}
use Rattle.back_index.specs.Reads.{ReadsBuckets}
use Rattle.back_index.specs.Visits.{Refuses}

pub rose_later : (before later now : ℕ) → before ≤ later → Rose later now → Rose before now
rose_later before later now le rose = omega (arith, le, rose)

-- what stays so was not so before
clash : (b : Bool) → b ≡ true → b ≡ false → ⊥
clash true is none = absurd (cc)
clash false is none = absurd (cc)

all_front : {X : Type 0} (P : X → Type 0) (xs ys : List X) → AllByRecursion P (xs ++ ys) → AllByRecursion P xs
all_front P [] ys all = tt
all_front P (x ∷ xs) ys all = (all.0, all_front P xs ys all.1)

all_back : {X : Type 0} (P : X → Type 0) (xs ys : List X) → AllByRecursion P (xs ++ ys) → AllByRecursion P ys
all_back P [] ys all = all
all_back P (x ∷ xs) ys all = all_back P xs ys all.1

pub still : (old new : Bool) → (old ≡ true → new ≡ true) → new ≡ false → old ≡ false
still true new later none = absurd (cc (later refl, none))
still false new later none = refl

module _ {D : Type 0} {g : Ghosts D} where
  pub read_same : (chains : Chains D g) → OnlyRead chains chains
  read_same chains = record { looked = looked_same (journal_of chains); kept = refl; root = refl; written = refl }

  pub read_then : (old mid new : Chains D g) → OnlyRead old mid → OnlyRead mid new → OnlyRead old new
  read_then old mid new first second = record {
    looked = looked_then (journal_of old) (journal_of mid) (journal_of new) first.looked second.looked;
    kept = second.kept ∙ first.kept;
    root = second.root ∙ first.root;
    written = second.written ∙ first.written;
  }

  pub reads_none : (buckets : Buckets D g) → ReadsBuckets buckets buckets
  reads_none buckets = reads_nothing (λ n. 16 ≤ n) (chains_of buckets)

  pub reads_more : (old mid new : Buckets D g) → ReadsBuckets old mid → ReadsBuckets mid new → ReadsBuckets old new
  reads_more old mid new first second =
      reads_wider (λ n. (16 ≤ n) ⊎ (16 ≤ n)) (λ n. 16 ≤ n) (chains_of old) (chains_of new)
      (λ n both. elim both [ inl is ↦ is | inr is ↦ is ])
      (reads_on (λ n. 16 ≤ n) (λ n. 16 ≤ n) (chains_of old) (chains_of mid) (chains_of new) first second)

  page_stays : (old new : Buckets D g) (which key : ℕ) → OnlyRead (chains_of old) (chains_of new)
      → page_in new which key ≡ page_in old which key
  page_stays old new which key stays = λ i. kept_first (stays.kept i) (chain_at (stays.root i).buckets which key)

  damaged_before : (old new : Buckets D g) (now : Image) (at : ℕ) → OnlyRead (chains_of old) (chains_of new) → IsDamaged new now at
      → IsDamaged old now at
  damaged_before old new now at stays (inl bad) = inl (record {
    own = bad.own;
    id = bad.id;
    is_index = bad.is_index;
    unread = bad.unread;
    page_is = bad.page_is ∙ page_stays old new (map_number bad.own) bad.id stays;
  })
  damaged_before old new now at stays (inr bad) = inr (record {
    block = bad.block;
    ids = bad.ids;
    reads = bad.reads;
    way = bad.way;
    said = bad.said;
    none = bad.none;
    page_is = bad.page_is ∙ page_stays old new (map_number WaysOfBlocks) bad.block stays;
  })

  refuses_before : (old new : Buckets D g) (now : Image) (fault : StoreFault) → OnlyRead (chains_of old) (chains_of new)
      → Refuses (IsDamaged new now) fault
      → Refuses (IsDamaged old now) fault
  refuses_before old new now NotFormatted stays refuses = refuses
  refuses_before old new now NotEmpty stays refuses = refuses
  refuses_before old new now (BadStore at) stays refuses = damaged_before old new now at stays refuses
  refuses_before old new now DiskFault stays refuses = tt
  refuses_before old new now (StoreFull pages) stays refuses = refuses
  refuses_before old new now Broken stays refuses = refuses
  refuses_before old new now OutOfMemory stays refuses = tt

  -- no question, and questions one after another
  pub asked_none : (buckets : Buckets D g) (stopped : Option StoreFault) → Asked [] buckets stopped buckets stopped
  asked_none buckets stopped = record {
    stays = read_same (chains_of buckets);
    later = omega arith;
    broken = λ is. is;
    has_still = λ whole rest now owns. owns;
    whole = λ going. refl;
    refused = λ is. is;
    kept = λ is. refl;
    going = λ none. refl;
    why = λ going refused. absurd (clash (has_refused buckets) refused going);
    reads = λ going. reads_none buckets;
    within = λ rest now owns maps index may all only. only;
  }

  pub asked_then : (before after : List Question) (first second third : Buckets D g) (one two three : Option StoreFault)
      → Asked before first one second two → Asked after second two third three
      → Asked (before ++ after) first one third three
  asked_then before after first second third one two three once again =
      let whole_before : is_broken (journal_of (chains_of third)) ≡ false → is_broken (journal_of (chains_of second)) ≡ false = λ whole.
      still (is_broken (journal_of (chains_of second))) (is_broken (journal_of (chains_of third))) again.broken whole in
      let going_before : has_refused third ≡ false → has_refused second ≡ false =
      λ going. still (has_refused second) (has_refused third) again.refused going in
      record {
        stays = read_then (chains_of first) (chains_of second) (chains_of third) once.stays again.stays;
        later = omega (arith, once.later, again.later);
        broken = λ is. again.broken (once.broken is);
        has_still = λ whole rest now owns. again.has_still whole rest now (once.has_still (whole_before whole) rest now owns);
        whole = λ going. again.whole going ∙ once.whole (going_before going);
        refused = λ is. again.refused (once.refused is);
        kept = λ is. again.kept (once.refused is) ∙ once.kept is;
        going = λ none. again.going none ∙ once.going (going_before none);
        why = λ going refused fault is rest now owns. elim (has_refused second)
            as (λ b. has_refused second ≡ b → Refuses (IsDamaged first now) fault) [
              | true ↦ λ stops. once.why going stops fault (sym (again.kept stops) ∙ is) rest now owns
              | false ↦ λ goes.
                  let mid = once.has_still (once.whole goes ∙ owns.whole) rest now owns in
                  refuses_before first second now fault once.stays (again.why goes refused fault is rest now mid)
            ] refl;
        reads = λ going. reads_more first second third (once.reads (going_before going)) (again.reads going);
        within = λ rest now owns maps index may all only.
            let may_first = all_front (MayAnswer may maps) before after all in
            let may_later = all_back (MayAnswer may maps) before after all in
            record {
              each = λ going.
                  let mid = once.has_still (once.whole (going_before going) ∙ owns.whole) rest now owns in
                  (again.within rest now mid maps index may may_later (once.within rest now owns maps index may may_first only)).each going;
            };
      }

  pub bears_fewer : (buckets : Buckets D g) (stopped : Option StoreFault) (fewer more : ℕ) (fault : StoreFault) → fewer ≤ more
      → Bears buckets stopped more fault
      → Bears buckets stopped fewer fault
  bears_fewer buckets stopped fewer more NotFormatted le bears = bears
  bears_fewer buckets stopped fewer more NotEmpty le bears = bears
  bears_fewer buckets stopped fewer more (BadStore page) le bears = bears
  bears_fewer buckets stopped fewer more DiskFault le bears =
      (bears.0, rose_later fewer more (disk_of (chains_of buckets)).faults le bears.1)
  bears_fewer buckets stopped fewer more (StoreFull pages) le bears = bears
  bears_fewer buckets stopped fewer more Broken le bears = bears
  bears_fewer buckets stopped fewer more OutOfMemory le bears = bears
