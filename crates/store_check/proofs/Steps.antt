-- The steps of a survey, one after the other.
use Rattle.std.proofs.Common.{◌≡◌, inl, inr, ℕ, suc, ◌+◌, ◌-◌, ◌<◌, ◌≤◌, ◌||◌, Bool, true, false, List, [], ◌∷◌, ◌++◌}
use Rattle.std.proofs.Common.{length, Result, Ok, Err, refl, sym, ap, subst, ◌∙◌, arith}
use Rattle.std.proofs.lemmas.List.{append_assoc}
use Rattle.std.specs.List.{AllByRecursion, range_with_len}
use Rattle.std.specs.Result.{OnOk}
use Rattle.outside.specs.declared.disk.Disk.{Ghosts}
use Rattle.osm_base.specs.values.Ids.{has}
use Rattle.page_journal.specs.Answers.{answers_disk_fault}
use Rattle.page_journal.specs.Journal.{is_broken}
use Rattle.page_journal.specs.declared.fault.StoreFault.{StoreFault}
use Rattle.page_journal.specs.declared.fault.StoreFault.TheVariants as refusals
use Rattle.chain_store.specs.Answers.{IsReadAnswer}
use Rattle.chain_store.specs.Chain.{HasPages}
use Rattle.chain_store.specs.Chains.{ListsPages, disk_of, journal_of, kept_of, read_of, root_of, written_of}
use Rattle.chain_store.specs.declared.chains.Chains.{Chains}
use Rattle.chain_store.specs.Directories.{root_in}
use Rattle.chain_store.specs.Links.{page_in}
use Rattle.chain_store.specs.State.{IsOwner}
use Rattle.chain_store.specs.Store.{IsRefused, kept_first}
use Rattle.chain_store.specs.declared.kept.Kept.{Kept}
use Rattle.chain_store.specs.declared.layout.TheConstants.{FREE}
use Rattle.bucket_store.specs.Calls.{IsBegun, LeavesStore, TouchesChain, TouchesNone}
use Rattle.bucket_store.specs.Image.{OnlyLooks, bucket_chain}
use Rattle.bucket_store.specs.Listing.{ListsChain, ListsChainOf, ListsFree}
use Rattle.bucket_store.specs.Reads.{MayReadChain}
use Rattle.bucket_store.specs.Transaction.{IsOpenStore, chains_of, has_refused}
use Rattle.bucket_store.specs.declared.buckets.Buckets.{Buckets}
use Rattle.bucket_store.proofs.Frames.{alone_of, cause_of, or_none, quiet_cause}
use Rattle.bucket_store.proofs.Holding.{looks_same, looks_then}
use Rattle.row_store.specs.Loading.{Looks}
use Rattle.row_store.proofs.LookLaws.{looks_on, read_same, still_whole}
use Rattle.value_bytes.specs.StoreMap.{map_number}
use Rattle.value_bytes.specs.declared.store_map.StoreMap.{StoreMap}
use Rattle.value_bytes.specs.declared.store_map.StoreMap.TheVariants as maps
use Rattle.value_bytes.proofs.ListLaws.{each_append}
use Rattle.store_check.specs.BadPage.{IsLoaded, IsRefusedAt}
use Rattle.store_check.specs.Marks.{is_marked}
use Rattle.store_check.specs.Surveying.{Accepts, IsFirstOf, TellsPages, TellsLoaded, MarksChains, MarksOthers, Reads, ReadsAll, Refuses}
use Rattle.store_check.proofs.MarkLaws.{marks_none, marks_one, marks_refused, marks_then}

-- the first that is refused, behind others and before others

module _ (Is : ℕ → Type 0) (IsNot : ℕ → ℕ → Type 0) where
  first_behind : (xs ys : List ℕ) (at : ℕ) → AllByRecursion Is xs → IsFirstOf Is IsNot ys at → IsFirstOf Is IsNot (xs ++ ys) at
  first_behind xs ys at all first = record {
    before = xs ++ first.before;
    n = first.n;
    after = first.after;
    order = ap (λ (l : List ℕ). xs ++ l) first.order ∙ sym (append_assoc xs first.before (first.n ∷ first.after));
    accepted = each_append Is xs first.before all first.accepted;
    refused = first.refused;
  }

  first_before : (xs ys : List ℕ) (at : ℕ) → IsFirstOf Is IsNot xs at → IsFirstOf Is IsNot (xs ++ ys) at
  first_before xs ys at first = record {
    before = first.before;
    n = first.n;
    after = first.after ++ ys;
    order = ap (λ (l : List ℕ). l ++ ys) first.order ∙ append_assoc first.before (first.n ∷ first.after) ys;
    accepted = first.accepted;
    refused = first.refused;
  }

  first_one : (n at : ℕ) → IsNot n at → IsFirstOf Is IsNot (n ∷ []) at
  first_one n at refused = record { before = []; n = n; after = []; order = refl; accepted = tt; refused = refused }

  module _ (pages : List (List ℕ)) (kept : Kept) where
    answers_then : (xs ys : List ℕ) (old mid new : List Bool) (result : Result (Unit {0}) StoreFault)
        → AllByRecursion Is xs × MarksChains pages kept xs old mid → ReadsAll Is IsNot pages kept ys mid new result
        → ReadsAll Is IsNot pages kept (xs ++ ys) old new result
    answers_then xs ys old mid new (Ok done) first second =
        (each_append Is xs ys first.0 second.0, marks_then pages kept xs ys old mid new first.1 second.1)
    answers_then xs ys old mid new (Err refusals.NotFormatted) first second = tt
    answers_then xs ys old mid new (Err refusals.NotEmpty) first second = tt
    answers_then xs ys old mid new (Err (refusals.BadStore at)) first second = first_behind xs ys at first.0 second
    answers_then xs ys old mid new (Err refusals.DiskFault) first second = tt
    answers_then xs ys old mid new (Err (refusals.StoreFull many)) first second = tt
    answers_then xs ys old mid new (Err refusals.Broken) first second = tt
    answers_then xs ys old mid new (Err refusals.OutOfMemory) first second = tt

    answers_front : (xs ys : List ℕ) (old new after : List Bool) (fault : StoreFault) → ReadsAll Is IsNot pages kept xs old new (Err fault)
        → ReadsAll Is IsNot pages kept (xs ++ ys) old after (Err fault)
    answers_front xs ys old new after refusals.NotFormatted first = tt
    answers_front xs ys old new after refusals.NotEmpty first = tt
    answers_front xs ys old new after (refusals.BadStore at) first = first_before xs ys at first
    answers_front xs ys old new after refusals.DiskFault first = tt
    answers_front xs ys old new after (refusals.StoreFull many) first = tt
    answers_front xs ys old new after refusals.Broken first = tt
    answers_front xs ys old new after refusals.OutOfMemory first = tt

module _ {D : Type 0} {g : Ghosts D} (Is : Accepts) (IsNot : Refuses) where
  opens_then : (old mid new : Buckets D g) (result : Result (Unit {0}) StoreFault)
      → ((pages : List (List ℕ)) → IsOpenStore pages old → IsOpenStore pages mid)
      → OnOk result ((pages : List (List ℕ)) → IsOpenStore pages mid → IsOpenStore pages new)
      → OnOk result ((pages : List (List ℕ)) → IsOpenStore pages old → IsOpenStore pages new)
  opens_then old mid new (Ok done) first second = λ pages was. second pages (first pages was)
  opens_then old mid new (Err fault) first second = tt

  pub then : (xs ys : List ℕ) (old mid new : Buckets D g) (before between after : List Bool) (done : Unit {0})
      (result : Result (Unit {0}) StoreFault)
      → Reads Is IsNot xs old mid before between (Ok done) → Reads Is IsNot ys mid new between after result
      → Reads Is IsNot (xs ++ ys) old new before after result
  then xs ys old mid new before between after done result first second =
      let kept = kept_of (chains_of old) in
      record {
        answers = λ pages was.
            answers_then (Is pages kept) (IsNot pages kept) pages kept xs ys before between after result (first.answers pages was)
            (subst (λ (k : Kept). ReadsAll (Is pages k) (IsNot pages k) pages k ys between after result) first.looks.stays.kept
            (second.answers pages (first.opens pages was)));
        opens = opens_then old mid new result first.opens second.opens;
        begun = second.begun;
        looks = looks_on old mid new result first.looks.same first.looks.stays (still_whole old mid done first.looks) second.looks;
      }

  pub front : (xs ys : List ℕ) (old new : Buckets D g) (before between after : List Bool) (fault : StoreFault)
      → Reads Is IsNot xs old new before between (Err fault) → Reads Is IsNot (xs ++ ys) old new before after (Err fault)
  front xs ys old new before between after fault first =
      let kept = kept_of (chains_of old) in
      record {
        answers = λ pages was.
            answers_front (Is pages kept) (IsNot pages kept) pages kept xs ys before between after fault (first.answers pages was);
        opens = tt;
        begun = tt;
        looks = first.looks;
      }

  none : (buckets : Buckets D g) (marks : List Bool) → IsBegun buckets → has_refused buckets ≡ false
      → Reads Is IsNot [] buckets buckets marks marks (Ok tt)
  none buckets marks begun going = record {
    answers = λ pages was. (tt, marks_none pages (kept_of (chains_of buckets)) marks);
    opens = λ pages was. was;
    begun = begun;
    looks = record {
      same = looks_same buckets;
      stays = read_same buckets;
      alone = tt;
      broken = or_none (is_broken (journal_of (chains_of buckets)));
      refused = going;
      cause = quiet_cause (disk_of (chains_of buckets)).faults (disk_of (chains_of buckets)).faults (Ok tt) refl (omega arith);
    };
  }

  -- whatever is answered of what is left is the answer of all
  pub record GoesOn (left all : List ℕ) (start here : Buckets D g) (before now : List Bool) : Type 0 where
    pub on : (new : Buckets D g) (after : List Bool) (result : Result (Unit {0}) StoreFault)
        → Reads Is IsNot left here new now after result → Reads Is IsNot all start new before after result

  pub starts : (all : List ℕ) (buckets : Buckets D g) (marks : List Bool) → GoesOn all all buckets buckets marks marks
  starts all buckets marks = record { on = λ new after result reads. reads }

  pub goes_on : (xs left next all : List ℕ) (start here mid : Buckets D g) (before now later : List Bool) (done : Unit {0})
      → left ≡ xs ++ next → GoesOn left all start here before now → Reads Is IsNot xs here mid now later (Ok done)
      → GoesOn next all start mid before later
  goes_on xs left next all start here mid before now later done is so_far step = record {
    on = λ new after result reads.
        so_far.on new after result
        (subst (λ (l : List ℕ). Reads Is IsNot l here new now after result) (sym is)
        (then xs next here mid new now later after done result step reads));
  }

  pub stops : (xs left next all : List ℕ) (start here new : Buckets D g) (before now after last : List Bool) (fault : StoreFault)
      → left ≡ xs ++ next → GoesOn left all start here before now → Reads Is IsNot xs here new now after (Err fault)
      → Reads Is IsNot all start new before last (Err fault)
  stops xs left next all start here new before now after last fault is so_far step =
      so_far.on new last (Err fault)
      (subst (λ (l : List ℕ). Reads Is IsNot l here new now last (Err fault)) (sym is)
      (front xs next here new now after last fault step))

  pub ends : (left all : List ℕ) (start here : Buckets D g) (before now : List Bool) → left ≡ [] → GoesOn left all start here before now
      → IsBegun here → has_refused here ≡ false → Reads Is IsNot all start here before now (Ok tt)
  ends left all start here before now is so_far begun going =
      so_far.on here now (Ok tt) (subst (λ (l : List ℕ). Reads Is IsNot l here here now now (Ok tt)) (sym is) (none here now begun going))

one_refused : (pages : List (List ℕ)) (kept : Kept) (n : ℕ) (before after : List Bool) (fault : StoreFault)
    → TellsLoaded pages kept n (Err fault)
    → ReadsAll (IsLoaded pages kept) (IsRefusedAt pages kept) pages kept (n ∷ []) before after (Err fault)
one_refused pages kept n before after refusals.NotFormatted is = tt
one_refused pages kept n before after refusals.NotEmpty is = tt
one_refused pages kept n before after (refusals.BadStore at) is = first_one (IsLoaded pages kept) (IsRefusedAt pages kept) n at is
one_refused pages kept n before after refusals.DiskFault is = tt
one_refused pages kept n before after (refusals.StoreFull many) is = tt
one_refused pages kept n before after refusals.Broken is = tt
one_refused pages kept n before after refusals.OutOfMemory is = tt

free_told : (pages : List (List ℕ)) (kept : Kept) (result : Result (List ℕ) StoreFault)
    → ListsPages pages FREE (kept_first kept FREE) result → TellsLoaded pages kept FREE result
free_told pages kept (Ok ns) lists = (record { ns = ns; has = lists; records = λ high chain. absurd (omega (arith, chain)) }, lists)
free_told pages kept (Err refusals.NotFormatted) lists = tt
free_told pages kept (Err refusals.NotEmpty) lists = tt
free_told pages kept (Err (refusals.BadStore at)) lists = inl lists
free_told pages kept (Err refusals.DiskFault) lists = tt
free_told pages kept (Err (refusals.StoreFull many)) lists = tt
free_told pages kept (Err refusals.Broken) lists = tt
free_told pages kept (Err refusals.OutOfMemory) lists = tt

module _ {D : Type 0} {g : Ghosts D} where
  -- a transaction that was begun anew behind a call that only read
  pub record BeginsAnew (mid new : Buckets D g) : Type 0 where
    pub begun : IsBegun new
    pub opens : (pages : List (List ℕ)) → IsOpenStore pages mid → IsOpenStore pages new
    pub kept : kept_of (chains_of new) ≡ kept_of (chains_of mid)
    pub going : has_refused new ≡ false
    pub same : OnlyLooks mid new
    pub whole : is_broken (journal_of (chains_of new)) ≡ is_broken (journal_of (chains_of mid))

  looks_anew : {T : Type 0} (old mid new : Buckets D g) (result : Result T StoreFault) → answers_disk_fault result ≡ false → IsBegun old
      → Looks old mid result → BeginsAnew mid new → Looks {T = Unit {0}} old new (Ok tt)
  looks_anew old mid new result quiet begun looks anew =
      let same = looks_then old mid new looks.same anew.same in
      record {
        same = same;
        stays = record {
          looked = same.looked;
          kept = anew.kept ∙ looks.stays.kept;
          root = anew.begun.root ∙ ap (λ (k : Kept). root_in k.front.items) (anew.kept ∙ looks.stays.kept) ∙ sym begun.root;
          written = anew.begun.written ∙ sym begun.written;
        };
        alone = tt;
        broken = anew.whole ∙ looks.broken ∙ ap (λ (b : Bool). is_broken (journal_of (chains_of old)) || b) quiet;
        refused = anew.going;
        cause = quiet_cause (disk_of (chains_of old)).faults (disk_of (chains_of new)).faults (Ok tt) refl same.later;
      }

  pub looks_err : (T U : Type 0) (old new : Buckets D g) (fault : StoreFault) → Looks {T = T} old new (Err fault)
      → Looks {T = U} old new (Err fault)
  looks_err T U old new fault looks = record {
    same = looks.same;
    stays = looks.stays;
    alone = alone_of T U (is_broken (journal_of (chains_of old))) fault looks.alone;
    broken = looks.broken;
    refused = looks.refused;
    cause = cause_of T U (disk_of (chains_of old)).faults (disk_of (chains_of new)).faults fault looks.cause;
  }

  -- a chain whose pages were told, and are marked
  pub loads_one : (n : ℕ) (ns : List ℕ) (old mid new : Buckets D g) (before after : List Bool) → IsOwner n → IsBegun old
      → TellsPages n old mid (Ok ns) → BeginsAnew mid new → length after ≡ length before
      → ((p : ℕ) → p < length before → is_marked after p ≡ (is_marked before p || has ns p))
      → Reads IsLoaded IsRefusedAt (n ∷ []) old new before after (Ok tt)
  loads_one n ns old mid new before after owner begun lists anew many each = record {
    answers = λ pages was.
        let own = lists.answers pages was in
        ((own.0, tt), marks_one pages (kept_of (chains_of old)) n ns before after owner own.1 many each);
    opens = λ pages was. anew.opens pages (lists.opens pages was);
    begun = anew.begun;
    looks = looks_anew old mid new (Ok ns) refl begun lists.looks anew;
  }

  pub loads_none : (n : ℕ) (old new : Buckets D g) (before after : List Bool) (fault : StoreFault) → TellsPages n old new (Err fault)
      → Reads IsLoaded IsRefusedAt (n ∷ []) old new before after (Err fault)
  loads_none n old new before after fault lists = record {
    answers = λ pages was. one_refused pages (kept_of (chains_of old)) n before after fault (lists.answers pages was);
    opens = tt;
    begun = tt;
    looks = looks_err (List ℕ) (Unit {0}) old new fault lists.looks;
  }

  -- of a chain that is passed over
  pub marks_other : (n : ℕ) (ns : List ℕ) (old mid new : Buckets D g) (before after : List Bool) → IsOwner n → IsBegun old
      → ((pages : List (List ℕ)) → IsOpenStore pages old
      → HasPages (page_in pages) (length pages + 1) n (kept_first (kept_of (chains_of old)) n) ns)
      → ((pages : List (List ℕ)) → IsOpenStore pages old → IsOpenStore pages mid) → Looks {T = List ℕ} old mid (Ok ns) → BeginsAnew mid new
      → length after ≡ length before
      → ((p : ℕ) → p < length before → is_marked after p ≡ (is_marked before p || has ns p))
      → MarksOthers (n ∷ []) old new before after (Ok tt)
  marks_other n ns old mid new before after owner begun lists opened looks anew many each = record {
    answers = λ pages was.
        ((tt, tt), marks_one pages (kept_of (chains_of old)) n ns before after owner (lists pages was) many each);
    opens = λ pages was. anew.opens pages (opened pages was);
    begun = anew.begun;
    looks = looks_anew old mid new (Ok ns) refl begun looks anew;
  }

  pub marks_nothing : (n at : ℕ) (old mid new : Buckets D g) (marks : List Bool) → IsBegun old
      → ((pages : List (List ℕ)) → IsOpenStore pages old → IsRefused pages n (kept_first (kept_of (chains_of old)) n) at)
      → ((pages : List (List ℕ)) → IsOpenStore pages old → IsOpenStore pages mid)
      → Looks {T = List ℕ} old mid (Err (refusals.BadStore at)) → BeginsAnew mid new → MarksOthers (n ∷ []) old new marks marks (Ok tt)
  marks_nothing n at old mid new marks begun refused opened looks anew = record {
    answers = λ pages was. ((tt, tt), marks_refused pages (kept_of (chains_of old)) n at marks (refused pages was));
    opens = λ pages was. anew.opens pages (opened pages was);
    begun = anew.begun;
    looks = looks_anew old mid new (Err (refusals.BadStore at)) refl begun looks anew;
  }

  -- what a call tells that only reads
  pub looks_of : {T : Type 0} (Read : Type 0) (old new : Buckets D g) (result : Result T StoreFault) → LeavesStore Read old new result
      → Looks old new result
  looks_of Read old new result leaves = record {
    same = leaves.same;
    stays = leaves.stays;
    alone = leaves.alone;
    broken = leaves.broken;
    refused = leaves.refused;
    cause = leaves.cause;
  }

-- the numbers of the maps, and of the chains of their buckets
pub number_low : (map : StoreMap) → map_number map < 8
number_low maps.Nodes = omega arith
number_low maps.Ways = omega arith
number_low maps.Relations = omega arith
number_low maps.WaysOfBlocks = omega arith
number_low maps.RelationsOfNodes = omega arith
number_low maps.RelationsOfWays = omega arith
number_low maps.NodeRows = omega arith
number_low maps.OtherRows = omega arith

pub bucket_owner : (map : StoreMap) (bucket count : ℕ) → bucket < count → count ≤ 65536 → IsOwner (bucket_chain (map_number map) bucket)
bucket_owner map bucket count low few = let under = number_low map in inr (omega (arith, low, few, under))

-- the numbers that are left

pub range_left : (k count : ℕ) → k < count → range_with_len k (count - k) ≡ k ∷ range_with_len (k + 1) (count - (k + 1))
range_left k count low =
    let more : count - k ≡ suc (count - (k + 1)) = omega (arith, low) in
    ap (λ (n : ℕ). range_with_len k n) more

pub none_left : (k count : ℕ) → count ≤ k → range_with_len k (count - k) ≡ []
none_left k count high = let none : count - k ≡ 0 = omega (arith, high) in ap (λ (n : ℕ). range_with_len k n) none

module _ {D : Type 0} {g : Ghosts D} where
  -- the pages of a text, and the free pages

  text_told : (pages : List (List ℕ)) (buckets : Buckets D g) (n : ℕ) (result : Result (List ℕ) StoreFault) → n < 8
      → ListsChain pages buckets n result → TellsLoaded pages (kept_of (chains_of buckets)) n result
  text_told pages buckets n (Ok ns) low lists =
      (record { ns = ns; has = lists; records = λ high chain. absurd (omega (arith, low, high)) }, lists)
  text_told pages buckets n (Err refusals.NotFormatted) low lists = tt
  text_told pages buckets n (Err refusals.NotEmpty) low lists = tt
  text_told pages buckets n (Err (refusals.BadStore at)) low lists = elim lists [
    | inl refused ↦ inl refused.1
    | inr bad ↦ absurd (omega (arith, low, bad.0))
  ]
  text_told pages buckets n (Err refusals.DiskFault) low lists = tt
  text_told pages buckets n (Err (refusals.StoreFull many)) low lists = tt
  text_told pages buckets n (Err refusals.Broken) low lists = tt
  text_told pages buckets n (Err refusals.OutOfMemory) low lists = tt

  pub text_lists : (n : ℕ) (old new : Buckets D g) (result : Result (List ℕ) StoreFault) → n < 8 → ListsChainOf n old new result
      → TouchesChain n old new result → TellsPages n old new result
  text_lists n old new result low lists touches = record {
    answers = λ pages was. text_told pages old n result low (lists.answers pages was);
    opens = touches.opens;
    looks = looks_of (MayReadChain n old new) old new result touches;
  }

  pub free_lists : (old new : Buckets D g) (result : Result (List ℕ) StoreFault) → ListsFree old new result → TouchesNone old new result
      → TellsPages FREE old new result
  free_lists old new result lists touches = record {
    answers = λ pages was. free_told pages (kept_of (chains_of old)) result (lists.answers pages was);
    opens = touches.opens;
    looks = looks_of (read_of (chains_of new) ≡ read_of (chains_of old)) old new result touches;
  }

  -- a call that is refused without a read of the disk
  pub looks_refused : (old new : Buckets D g) (fault : StoreFault) → chains_of new ≡ chains_of old → OnlyLooks old new
      → has_refused new ≡ true → answers_disk_fault {T = Unit {0}} (Err fault) ≡ false
      → IsReadAnswer {T = Unit {0}} (is_broken (journal_of (chains_of old))) (Err fault) → Looks {T = Unit {0}} old new (Err fault)
  looks_refused old new fault chains same refused quiet alone = record {
    same = same;
    stays = record {
      looked = same.looked;
      kept = same.kept;
      root = ap (λ (c : Chains D g). root_of c) chains;
      written = ap (λ (c : Chains D g). written_of c) chains;
    };
    alone = alone;
    broken = ap (λ (c : Chains D g). is_broken (journal_of c)) chains ∙ or_none (is_broken (journal_of (chains_of old)))
        ∙ ap (λ (b : Bool). is_broken (journal_of (chains_of old)) || b) (sym quiet);
    refused = refused;
    cause = quiet_cause (disk_of (chains_of old)).faults (disk_of (chains_of new)).faults (Err fault) quiet same.later;
  }

  -- a chain below the buckets is refused for its pages
  pub low_refused : (pages : List (List ℕ)) (buckets : Buckets D g) (n at : ℕ) → n < 16
      → ListsChain pages buckets n (Err (refusals.BadStore at)) → IsRefused pages n (kept_first (kept_of (chains_of buckets)) n) at
  low_refused pages buckets n at low lists = elim lists [
    | inl refused ↦ refused.1
    | inr bad ↦ absurd (omega (arith, low, bad.0))
  ]
