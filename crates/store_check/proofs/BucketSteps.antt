-- A bucket is brought and its pages are told: so it is loaded, or refused.
use Rattle.std.proofs.Common.{◌≡◌, inl, inr, ℕ, ◌+◌, ◌*◌, ◌%◌, ◌<◌, ◌≤◌, List, None, Result, Ok, Err, Option, refl, sym, ap, subst}
use Rattle.std.proofs.Common.{◌∙◌, arith, length}
use Rattle.std.proofs.Math.Nat.{mod-eq_of_lt}
use Rattle.std.specs.FinMap as map
use Rattle.std.specs.Ordering.{nat_cmp}
use Rattle.std.specs.Option.{IsSome, MatchOption}
use Rattle.outside.specs.declared.disk.Disk.{Ghosts}
use Rattle.page_journal.specs.declared.fault.StoreFault.{StoreFault}
use Rattle.page_journal.specs.declared.fault.StoreFault.TheVariants as refusals
use Rattle.chain_store.specs.Chain.{HasPages}
use Rattle.chain_store.specs.Chains.{LoadedIs, first_of, kept_of, written_of}
use Rattle.chain_store.specs.Directories.{IsChain, root_in}
use Rattle.chain_store.specs.Known.{Lists}
use Rattle.chain_store.specs.Links.{page_in}
use Rattle.chain_store.specs.Store.{HasBytes, kept_first}
use Rattle.chain_store.specs.declared.kept.Kept.{Kept}
use Rattle.chain_store.specs.declared.root.Root.{Root}
use Rattle.bucket_records.specs.Records.{BucketMap, IsNoBucket}
use Rattle.bucket_store.specs.Buckets.{IsBadChain, Stored, bucket_count, bucket_in}
use Rattle.bucket_store.specs.Cache.{CacheMap}
use Rattle.bucket_store.specs.Calls.{BringsChain, BringsThere, IsBegun, TouchesChain}
use Rattle.bucket_store.specs.Image.{bucket_chain}
use Rattle.bucket_store.specs.Listing.{ListsChain, ListsChainOf}
use Rattle.bucket_store.specs.Reads.{MayReadChain}
use Rattle.bucket_store.specs.Transaction.{BringsBucket, Content, IsOpenStore, bucket_at, cached_of, chains_of}
use Rattle.bucket_store.specs.declared.buckets.Buckets.{Buckets}
use Rattle.bucket_store.specs.declared.cache.Cached.{Cached}
use Rattle.value_bytes.specs.StoreMap.{map_number}
use Rattle.value_bytes.specs.declared.store_map.StoreMap.{StoreMap}
use Rattle.row_store.proofs.LookLaws.{looks_on, still_whole}
use Rattle.store_check.specs.BadPage.{IsLoaded, IsRefusedAt, buckets_told}
use Rattle.store_check.specs.Surveying.{TellsLoaded, TellsPages}
use Rattle.store_check.proofs.Meaning.{bucket_same}
use Rattle.store_check.proofs.Steps.{looks_err, looks_of, number_low}

-- the chain of a bucket

bucket_is : (which bucket count : ℕ) → bucket < count → 16 + 65536 * which + bucket % count ≡ bucket_chain which bucket
bucket_is which bucket count low = let same : bucket % count ≡ bucket = mod-eq_of_lt low in omega (arith, same)

is_high : (which bucket : ℕ) → 16 ≤ bucket_chain which bucket
is_high which bucket = omega arith

is_chain : (map : StoreMap) (bucket count : ℕ) → bucket < count → count ≤ 65536 → IsChain (bucket_chain (map_number map) bucket)
is_chain map bucket count low few = let under = number_low map in omega (arith, low, few, under)

-- what a bucket has that is not there, and of which nothing was written

stored_of : {D : Type 0} {g : Ghosts D} (found : Option Cached) (pages : List (List ℕ)) (buckets : Buckets D g) (n : ℕ) (values : BucketMap)
    → found ≡ None
    → MatchOption found (Stored pages (chains_of buckets) n values) (λ own. own.bucket.values ≡ values)
    → Stored pages (chains_of buckets) n values
stored_of found pages buckets n values none content =
    subst (λ (f : Option Cached). MatchOption f (Stored pages (chains_of buckets) n values) (λ own. own.bucket.values ≡ values)) none content

bytes_of : (pages : List (List ℕ)) (n first : ℕ) (own : Option (List ℕ)) (bytes : List ℕ) → own ≡ None → LoadedIs pages n first own bytes
    → HasBytes pages n first bytes
bytes_of pages n first own bytes none loaded = subst (λ (o : Option (List ℕ)). LoadedIs pages n first o bytes) none loaded

none_there : (found : Option Cached) → found ≡ None → IsSome found → ⊥
none_there found none some = absurd (let is = subst (λ (f : Option Cached). IsSome f) none some in cc (is))

module _ {D : Type 0} {g : Ghosts D} where
  module _ (pages : List (List ℕ)) (buckets : Buckets D g) (begun : IsBegun buckets) (was : IsOpenStore pages buckets) where
    counts : bucket_count (chains_of buckets) ≡ buckets_told pages
    counts =
        ap (λ (r : Root). r.buckets) begun.root
        ∙ ap (λ (front : List ℕ). (root_in front).buckets) was.open_chains.keeps.front

    unwritten : (n : ℕ) → map.get (written_of (chains_of buckets)) n ≡ None
    unwritten n = ap (λ (m : Lists). map.get m n) begun.written ∙ map.get-empty nat_cmp n

    uncached : (n : ℕ) → map.get (cached_of buckets) n ≡ None
    uncached n = ap (λ (m : CacheMap). map.get m n) begun.none ∙ map.get-empty nat_cmp n

    stored_loaded : (n : ℕ) (values : BucketMap) → Stored pages (chains_of buckets) n values
        → IsLoaded pages (kept_of (chains_of buckets)) n
    stored_loaded n values stored =
        let own = bytes_of pages n (first_of (chains_of buckets) n) (map.get (written_of (chains_of buckets)) n) stored.bytes (unwritten n)
        stored.loaded in
        record {
          ns = own.ns;
          has = own.has;
          records = λ high chain. (values, bucket_same counts refl (sym own.held) stored.spells);
        }

    content_loaded : (n : ℕ) (values : BucketMap) → Content pages buckets n values → IsLoaded pages (kept_of (chains_of buckets)) n
    content_loaded n values content =
        stored_loaded n values (stored_of (map.get (cached_of buckets) n) pages buckets n values (uncached n) content)

    bad_refused : (n at : ℕ) → 16 ≤ n → IsChain n → IsBadChain pages (chains_of buckets) n at
        → IsRefusedAt pages (kept_of (chains_of buckets)) n at
    bad_refused n at high chain bad = elim bad [
      | inl refused ↦ inl refused.1
      | inr none ↦ inr (
        high,
        chain,
        (
          none.0,
          bytes_of pages n (first_of (chains_of buckets) n) (map.get (written_of (chains_of buckets)) n) none.0 (unwritten n) none.1,
          subst (λ (count : ℕ). IsNoBucket count (bucket_in n) none.0) counts none.2,
          none.3,
        ),
      )
    ]

    brought_told : (n : ℕ) (fault : StoreFault) → 16 ≤ n → IsChain n → BringsBucket {T = Unit {0}} pages buckets n (Err fault)
        → TellsLoaded pages (kept_of (chains_of buckets)) n (Err fault)
    brought_told n refusals.NotFormatted high chain bad = tt
    brought_told n refusals.NotEmpty high chain bad = tt
    brought_told n (refusals.BadStore at) high chain bad = bad_refused n at high chain bad.1
    brought_told n refusals.DiskFault high chain bad = tt
    brought_told n (refusals.StoreFull many) high chain bad = tt
    brought_told n refusals.Broken high chain bad = tt
    brought_told n refusals.OutOfMemory high chain bad = tt

  listed_told : (pages : List (List ℕ)) (kept : Kept) (mid : Buckets D g) (n : ℕ) (fault : StoreFault) → 16 ≤ n
      → IsSome (map.get (cached_of mid) n) → ListsChain pages mid n (Err fault) → TellsLoaded pages kept n (Err fault)
  listed_told pages kept mid n refusals.NotFormatted high there lists = tt
  listed_told pages kept mid n refusals.NotEmpty high there lists = tt
  listed_told pages kept mid n (refusals.BadStore at) high there lists = elim lists [
    | inl low ↦ absurd (omega (arith, low.0, high))
    | inr bad ↦ absurd (none_there (map.get (cached_of mid) n) bad.1.0 there)
  ]
  listed_told pages kept mid n refusals.DiskFault high there lists = tt
  listed_told pages kept mid n (refusals.StoreFull many) high there lists = tt
  listed_told pages kept mid n refusals.Broken high there lists = tt
  listed_told pages kept mid n refusals.OutOfMemory high there lists = tt

  brings_at : (which bucket : ℕ) (old new : Buckets D g) (result : Result (Unit {0}) StoreFault) → bucket < bucket_count (chains_of old)
      → BringsThere which bucket old new result → BringsChain (bucket_chain which bucket) old new result
  brings_at which bucket old new result low brings =
      subst (λ (n : ℕ). BringsChain n old new result) (bucket_is which bucket (bucket_count (chains_of old)) low) brings

  touches_at : (which bucket : ℕ) (old new : Buckets D g) (result : Result (Unit {0}) StoreFault) → bucket < bucket_count (chains_of old)
      → TouchesChain (bucket_at old which bucket) old new result → TouchesChain (bucket_chain which bucket) old new result
  touches_at which bucket old new result low touches =
      subst (λ (n : ℕ). TouchesChain n old new result) (bucket_is which bucket (bucket_count (chains_of old)) low) touches

  module _ (map_of : StoreMap) (bucket : ℕ) (old : Buckets D g) (begun : IsBegun old) (low : bucket < bucket_count (chains_of old)) where
    chain_so : IsChain (bucket_chain (map_number map_of) bucket)
    chain_so = is_chain map_of bucket (bucket_count (chains_of old)) low (chains_of old).few

    -- it cannot be brought
    pub unbrought : (new : Buckets D g) (fault : StoreFault) → BringsThere (map_number map_of) bucket old new (Err fault)
        → TouchesChain {T = Unit {0}} (bucket_at old (map_number map_of) bucket) old new (Err fault)
        → TellsPages (bucket_chain (map_number map_of) bucket) old new (Err fault)
    unbrought new fault brings touches =
        let own = brings_at (map_number map_of) bucket old new (Err fault) low brings in
        record {
          answers = λ pages was.
              brought_told pages old begun was (bucket_chain (map_number map_of) bucket) fault (is_high (map_number map_of) bucket) chain_so
              (own.answers pages was);
          opens = touches.opens;
          looks = looks_err (Unit {0}) (List ℕ) old new fault
              (looks_of (MayReadChain (bucket_at old (map_number map_of) bucket) old new) old new (Err fault) touches);
        }

    module _ (mid new : Buckets D g) (done : Unit {0}) (brings : BringsThere (map_number map_of) bucket old mid (Ok done))
        (touches : TouchesChain (bucket_at old (map_number map_of) bucket) old mid (Ok done)) where
      own : BringsChain (bucket_chain (map_number map_of) bucket) old mid (Ok done)
      own = brings_at (map_number map_of) bucket old mid (Ok done) low brings

      -- once it is there its pages are told
      pub is_told : (ns : List ℕ) → ListsChainOf (bucket_chain (map_number map_of) bucket) mid new (Ok ns)
          → TouchesChain (bucket_chain (map_number map_of) bucket) mid new (Ok ns)
          → TellsPages (bucket_chain (map_number map_of) bucket) old new (Ok ns)
      is_told ns lists later =
          let first = looks_of (MayReadChain (bucket_at old (map_number map_of) bucket) old mid) old mid (Ok done) touches in
          let second = looks_of (MayReadChain (bucket_chain (map_number map_of) bucket) mid new) mid new (Ok ns) later in
          record {
            answers = λ pages was.
                let had = own.had pages was in (
                  content_loaded pages old begun was (bucket_chain (map_number map_of) bucket) had.0 had.1,
                  subst (λ (kept : Kept). HasPages (page_in pages) (length pages + 1) (bucket_chain (map_number map_of) bucket)
                      (kept_first kept (bucket_chain (map_number map_of) bucket)) ns)
                      touches.stays.kept (lists.answers pages (touches.opens pages was)),
                );
            opens = λ pages was. later.opens pages (touches.opens pages was);
            looks = looks_on old mid new (Ok ns) first.same first.stays (still_whole old mid done first) second;
          }

      pub is_untold : (fault : StoreFault) → ListsChainOf (bucket_chain (map_number map_of) bucket) mid new (Err fault)
          → TouchesChain {T = List ℕ} (bucket_chain (map_number map_of) bucket) mid new (Err fault)
          → TellsPages (bucket_chain (map_number map_of) bucket) old new (Err fault)
      is_untold fault lists later =
          let first = looks_of (MayReadChain (bucket_at old (map_number map_of) bucket) old mid) old mid (Ok done) touches in
          let second = looks_of (MayReadChain (bucket_chain (map_number map_of) bucket) mid new) mid new (Err fault) later in
          record {
            answers = λ pages was.
                listed_told pages (kept_of (chains_of old)) mid (bucket_chain (map_number map_of) bucket) fault
                (is_high (map_number map_of) bucket) own.there (lists.answers pages (touches.opens pages was));
            opens = λ pages was. later.opens pages (touches.opens pages was);
            looks = looks_on old mid new (Err fault) first.same first.stays (still_whole old mid done first) second;
          }
