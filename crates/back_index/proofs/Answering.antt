-- Questions to an index over buckets, by what the calls below answer.
use Rattle.std.proofs.Common.{◌≡◌, ◌≤◌, ℕ, Bool, true, false, ◌||◌, List, Option, Some, Ok, Err, refl, sym, subst, ◌∙◌, arith, nat_eq}
use Rattle.std.proofs.lemmas.Bool.Decides.{nat_tests}
use Rattle.std.specs.List.{AllByRecursion}
use Rattle.osm_base.specs.map.Known.{Index, Question}
use Rattle.outside.specs.declared.disk.Disk.{Ghosts}
use Rattle.page_journal.specs.Answers.{is_disk_fault}
use Rattle.page_journal.specs.Journal.{is_broken}
use Rattle.page_journal.specs.declared.fault.StoreFault.{StoreFault}
use Rattle.page_journal.specs.declared.fault.StoreFault.TheVariants.{NotFormatted, NotEmpty, BadStore, DiskFault, StoreFull, Broken}
use Rattle.page_journal.specs.declared.fault.StoreFault.TheVariants.{OutOfMemory}
use Rattle.chain_store.specs.Chains.{disk_of, journal_of}
use Rattle.bucket_store.specs.Buckets.{bucket_count}
use Rattle.bucket_store.specs.Image.{Has, Image}
use Rattle.bucket_store.specs.Transaction.{chains_of, has_refused}
use Rattle.bucket_store.specs.declared.buckets.Buckets.{Buckets}
use Rattle.back_index.specs.Calls.{IsAnswered}
use Rattle.store_maps.specs.Asked.{May, MayAnswer}
use Rattle.store_maps.specs.Maps.{Maps}
use Rattle.back_index.specs.Index.{Asked, Bears, IsDamaged, Knows, is_spent}
use Rattle.back_index.specs.Index.{HoldsIndex as IndexHeld}
use Rattle.back_index.specs.Reads.{HasReadOnly, ReadsBuckets}
use Rattle.back_index.specs.Visits.{Refuses}
use Rattle.back_index.proofs.Chained.{count_same}
use Rattle.back_index.proofs.ReadKeys.{reads_refused}

or_none : (b : Bool) → (b || false) ≡ b
or_none true = refl
or_none false = refl

neither : (a b : Bool) → (a || b) ≡ false → (a ≡ false) × (b ≡ false)
neither true b none = absurd (cc)
neither false b none = (refl, none)

clash : (b : Bool) → b ≡ true → b ≡ false → ⊥
clash true is none = absurd (cc)
clash false is none = absurd (cc)

some_count : (n : ℕ) → nat_eq n 0 ≡ false → 1 ≤ n
some_count n none = grind (arith, nat_tests)

none_count : (n : ℕ) → 1 ≤ n → nat_eq n 0 ≡ false
none_count n some = grind (arith, nat_tests)

module _ {D : Type 0} {g : Ghosts D} where
  pub spent_going : (buckets : Buckets D g) → is_spent buckets ≡ false → has_refused buckets ≡ false
  spent_going buckets fresh = (neither (has_refused buckets)
      (is_broken (journal_of (chains_of buckets)) || nat_eq (bucket_count (chains_of buckets)) 0) fresh).0

  pub spent_whole : (buckets : Buckets D g) → is_spent buckets ≡ false → is_broken (journal_of (chains_of buckets)) ≡ false
  spent_whole buckets fresh =
      (neither (is_broken (journal_of (chains_of buckets))) (nat_eq (bucket_count (chains_of buckets)) 0)
      (neither (has_refused buckets) (is_broken (journal_of (chains_of buckets)) || nat_eq (bucket_count (chains_of buckets)) 0) fresh).1).0

  pub spent_some : (buckets : Buckets D g) → is_spent buckets ≡ false → 1 ≤ bucket_count (chains_of buckets)
  spent_some buckets fresh =
      some_count (bucket_count (chains_of buckets))
      (neither (is_broken (journal_of (chains_of buckets))) (nat_eq (bucket_count (chains_of buckets)) 0)
      (neither (has_refused buckets) (is_broken (journal_of (chains_of buckets)) || nat_eq (bucket_count (chains_of buckets)) 0) fresh).1).1

  module _ (old new : Buckets D g) (fresh : is_spent old ≡ false) where
    still_fresh : {T : Type 0} (value : T) → IsAnswered old new (Ok value) → is_spent new ≡ false
    still_fresh value answers = λ i.
        answers.refused i || ((answers.broken ∙ or_none (is_broken (journal_of (chains_of old))) ∙ spent_whole old fresh) i
        || none_count (bucket_count (chains_of new))
        (subst (λ (n : ℕ). 1 ≤ n) (sym (count_same old new answers.stays)) (spent_some old fresh)) i)

    pub fresh_after : {T : Type 0} (value : T) → IsAnswered old new (Ok value) → is_spent new ≡ false
    fresh_after value answers = still_fresh value answers

    pub asked_ok : {T : Type 0} (questions : List Question) (value : T) (stopped : Option StoreFault) → IsAnswered old new (Ok value)
        → ((rest now : Image) → Has rest now old → Has rest now new)
        → ((rest now : Image) → Has rest now old → (maps : Maps) → IndexHeld now maps → (may : May)
        → AllByRecursion (MayAnswer may maps) questions → HasReadOnly may old → HasReadOnly may new)
        → ReadsBuckets old new → Asked questions old stopped new stopped
    asked_ok questions value stopped answers has within reads = record {
      stays = answers.stays;
      later = answers.cause.later;
      broken = λ is. absurd (clash (is_broken (journal_of (chains_of old))) is (spent_whole old fresh));
      has_still = λ whole rest now owns. has rest now owns;
      whole = λ going. answers.broken ∙ or_none (is_broken (journal_of (chains_of old)));
      refused = λ is. absurd (clash (has_refused old) is (spent_going old fresh));
      kept = λ is. refl;
      going = λ none. refl;
      why = λ going refused. absurd (clash (has_refused new) refused answers.refused);
      reads = λ _. reads;
      within = within;
    }

    none_failed : (fault : StoreFault) → is_broken (journal_of (chains_of new))
        ≡ (is_broken (journal_of (chains_of old)) || is_disk_fault fault)
        → is_broken (journal_of (chains_of new)) ≡ false → is_disk_fault fault ≡ false
    none_failed fault broken whole = (neither (is_broken (journal_of (chains_of old))) (is_disk_fault fault) (sym broken ∙ whole)).1

    the_same : (fault other : StoreFault) → Some fault ≡ Some other → fault ≡ other
    the_same fault other is = cc (is)

    pub asked_err : {T : Type 0} (questions : List Question) (fault : StoreFault) (stopped : Option StoreFault)
        → IsAnswered {T = T} old new (Err fault)
        → (is_disk_fault fault ≡ false → (rest now : Image) → Has rest now old → Has rest now new)
        → ((rest now : Image) → Has rest now old → Refuses (IsDamaged old now) fault) → Asked questions old stopped new (Some fault)
    asked_err questions fault stopped answers has stops = record {
      stays = answers.stays;
      later = answers.cause.later;
      broken = λ is. absurd (clash (is_broken (journal_of (chains_of old))) is (spent_whole old fresh));
      has_still = λ whole rest now owns. has (none_failed fault answers.broken whole) rest now owns;
      whole = λ going. absurd (clash (has_refused new) answers.refused going);
      refused = λ is. absurd (clash (has_refused old) is (spent_going old fresh));
      kept = λ is. absurd (clash (has_refused old) is (spent_going old fresh));
      going = λ none. absurd (clash (has_refused new) answers.refused none);
      why = λ going refused other is rest now owns.
          subst (λ f. Refuses (IsDamaged old now) f) (the_same fault other is) (stops rest now owns);
      reads = λ going. absurd (clash (has_refused new) answers.refused going);
      within = λ rest now owns maps index may all only. reads_refused may new answers.refused;
    }

    pub borne : {T : Type 0} (fault : StoreFault) → IsAnswered {T = T} old new (Err fault)
        → Bears new (Some fault) (disk_of (chains_of old)).faults fault
    borne NotFormatted answers = absurd answers.alone
    borne NotEmpty answers = absurd answers.alone
    borne (BadStore at) answers = (refl, answers.broken ∙ or_none (is_broken (journal_of (chains_of old))) ∙ spent_whole old fresh)
    borne DiskFault answers = (refl, answers.cause.failed refl)
    borne (StoreFull pages) answers = absurd answers.alone
    borne Broken answers = absurd (clash (is_broken (journal_of (chains_of old))) answers.alone (spent_whole old fresh))
    borne OutOfMemory answers = (refl, answers.broken ∙ or_none (is_broken (journal_of (chains_of old))) ∙ spent_whole old fresh)

  pub knows_still : (old new : Buckets D g) (index : Index) → ((rest now : Image) → Has rest now old → Has rest now new) → Knows old index
      → Knows new index
  knows_still old new index has knows = record {
    rest = knows.rest;
    now = knows.now;
    has_it = has knows.rest knows.now knows.has_it;
    maps = knows.maps;
    listings = knows.listings;
    ways = knows.ways;
    index_is = knows.index_is;
  }

  -- an index that is spent keeps nothing
  pub spent_refused : {T : Type 0} (old new : Buckets D g) (fault : StoreFault) → IsAnswered {T = T} old new (Err fault) → is_spent new ≡ false
      → ⊥
  spent_refused old new fault answers fresh = clash (has_refused new) answers.refused (spent_going new fresh)
