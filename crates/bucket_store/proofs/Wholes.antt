-- A map is read whole, bucket by bucket.
use Rattle.std.proofs.Math.Nat.{mod-eq_of_lt}
use Rattle.std.proofs.Common.{◌≡◌, ◌≢◌, ◌⊎◌, inl, inr, ℕ, ◌+◌, ◌%◌, ◌<◌, ◌≤◌, Bool, true, false, cond, List, [], ◌∷◌, ◌++◌, Option, Some}
use Rattle.std.proofs.Common.{None, Err, refl, sym, ap, subst, ◌∙◌, arith}
use Rattle.std.specs.Option.{IsSome, MatchOption}
use Rattle.std.specs.Ordering.{nat_cmp, is_eq}
use Rattle.std.specs.Cmp.{nat_cmp_total}
use Rattle.std.specs.BTreeMap.{is_at}
use Rattle.std.specs.Map.{lookup}
use Rattle.std.specs.FinMap as map
use Rattle.std.specs.FinMap.{find, nat_cmp-IsAntisymmetric}
use Rattle.osm_base.proofs.Found.{found}
use Rattle.outside.specs.declared.disk.Disk.{Ghosts}
use Rattle.page_journal.specs.declared.fault.StoreFault.{StoreFault}
use Rattle.page_journal.specs.declared.fault.StoreFault.TheVariants as refusals
use Rattle.chain_store.specs.declared.chains.Chains.{Chains}
use Rattle.chain_store.specs.declared.kept.Kept.{Kept}
use Rattle.chain_store.specs.declared.root.Root.{Root}
use Rattle.chain_store.specs.Chains.{LoadedIs, OnlyRead, disk_of, journal_of, kept_of, read_of, written_of}
use Rattle.chain_store.specs.Known.{Lists, MayRead}
use Rattle.chain_store.specs.Store.{IsRefused, kept_first}
use Rattle.chain_store.proofs.Counted.{reads_call, reads_wider}
use Rattle.chain_store.proofs.Looks.{looked_same, looked_then}
use Rattle.chain_store.proofs.Times.{same_or}
use Rattle.bucket_records.specs.Records.{BucketMap, IsNoBucket}
use Rattle.bucket_store.specs.Buckets.{HasKeysOf, IsBadChain, Stored, bucket_count, bucket_in, chain_at}
use Rattle.bucket_store.specs.Cache.{CacheMap}
use Rattle.bucket_store.specs.Image.{IsSoundAnswer, bucket_chain}
use Rattle.bucket_store.specs.Reads.{IsAskedChain, ReadsKeys}
use Rattle.bucket_store.specs.Transaction.{BringsBucket, Content, IsBad, IsOpenStore, bucket_at, chains_of}
use Rattle.bucket_store.specs.Whole.{BringsMap, HasBucketsBefore, SameContents, with_records}
use Rattle.bucket_store.specs.declared.buckets.Buckets.{Buckets}
use Rattle.bucket_store.specs.declared.cache.Cached.{Cached}
use Rattle.bucket_store.proofs.Holding.{bucket_of_chain}
use Rattle.bucket_store.proofs.KeyReads.{keys_then}
use Rattle.bucket_store.proofs.Openings.{content_own, none_content, put_apart, put_there}
use Rattle.bucket_store.proofs.Texts.{match_like}

-- one thing or another
abbrev pub or_else : Option (List ℕ) → Option (List ℕ) → Option (List ℕ)
or_else None other = other
or_else (Some own) other = Some own

cond_or : (b : Bool) (own : List ℕ) (later other : Option (List ℕ))
    → cond b (Some own) (or_else later other) ≡ or_else (cond b (Some own) later) other
cond_or true own later other = refl
cond_or false own later other = refl

or_none : (o other : Option (List ℕ)) → other ≡ None → or_else o other ≡ o
or_none None other none = none
or_none (Some own) other none = refl

-- what a tree of keys has
pub tree_get : (key : ℕ) (entries : List (ℕ × List ℕ)) (seen : BucketMap) → map.from_entries entries ≡ seen
    → lookup (is_at (nat_cmp key)) entries ≡ map.get seen key
tree_get key entries seen is = found nat_cmp nat_cmp_total nat_cmp-IsAntisymmetric key entries ∙ ap (λ (m : BucketMap). map.get m key) is

-- what records that are put give
pub get-with_records : (records : List (ℕ × List ℕ)) (whole : BucketMap) (key : ℕ)
    → map.get (with_records records whole) key ≡ or_else (find nat_cmp key records) (map.get whole key)
get-with_records [] whole key = refl
get-with_records (one ∷ records) whole key =
    map.get-insert nat_cmp_total (with_records records whole) one.0 one.1 key
    ∙ ap (λ (o : Option (List ℕ)). cond (is_eq (nat_cmp key one.0)) (Some one.1) o) (get-with_records records whole key)
    ∙ cond_or (is_eq (nat_cmp key one.0)) one.1 (find nat_cmp key records) (map.get whole key)

pub with_records-push : (front : List (ℕ × List ℕ)) (one : ℕ × List ℕ) (whole : BucketMap)
    → with_records (front ++ one ∷ []) whole ≡ with_records front (map.insert whole one.0 one.1)
with_records-push [] one whole = refl
with_records-push (first ∷ front) one whole = ap (λ (m : BucketMap). map.insert m first.0 first.1) (with_records-push front one whole)

-- the records of a bucket give its keys, and no others
module _ (buckets bucket : ℕ) (values old new : BucketMap) (keys : HasKeysOf buckets bucket values)
    (is : new ≡ with_records (map.entries values) old) where
  got : (key : ℕ) → map.get new key ≡ or_else (map.get values key) (map.get old key)
  got key =
      ap (λ (m : BucketMap). map.get m key) is ∙ get-with_records (map.entries values) old key
      ∙ ap (λ (o : Option (List ℕ)). or_else o (map.get old key)) (sym (map.get-entries values key))

  here : (key : ℕ) → map.get old key ≡ None → map.get new key ≡ map.get values key
  here key none = got key ∙ or_none (map.get values key) (map.get old key) none

  absent : (key : ℕ) → key % buckets ≢ bucket → map.get values key ≡ None
  absent key other =
      elim (map.get values key) as (λ (o : Option (List ℕ)). map.get values key ≡ o → o ≡ None) [
        | None ↦ λ none. refl
        | Some own ↦ λ there. absurd (other (keys key (let P : Option (List ℕ) → Type 0 = λ o. IsSome o in subst P (sym there) cc)))
      ] refl

  apart : (key : ℕ) → key % buckets ≢ bucket → map.get new key ≡ map.get old key
  apart key other = got key ∙ ap (λ (o : Option (List ℕ)). or_else o (map.get old key)) (absent key other)

-- a bucket more, where each chain has such values
module _ (Has : ℕ → BucketMap → Type 0) (buckets which bucket n : ℕ) (old new : BucketMap) (at : n ≡ bucket_chain which bucket)
    (had : (values : BucketMap) × Has n values)
    (added : (values : BucketMap) → Has n values → (new ≡ with_records (map.entries values) old) × HasKeysOf buckets bucket values)
    (none : (key : ℕ) → bucket ≤ key % buckets → map.get old key ≡ None) where
  pub gathers_some : ((key : ℕ) (values : BucketMap) → Has (chain_at buckets which key) values → key % buckets < bucket
      → map.get old key ≡ map.get values key)
      → (key : ℕ) (values : BucketMap) → Has (chain_at buckets which key) values → key % buckets < bucket + 1
      → map.get new key ≡ map.get values key
  gathers_some some key values has low = elim (same_or (key % buckets) bucket) [
    | inl same ↦
        let place : chain_at buckets which key ≡ n = ap (λ (k : ℕ). bucket_chain which k) same ∙ sym at in
        let put = added values (subst (λ (k : ℕ). Has k values) place has) in
        here buckets bucket values old new put.1 put.0 key (none key (omega (arith, same)))
    | inr other ↦
        let put = added had.0 had.1 in
        apart buckets bucket had.0 old new put.1 put.0 key other ∙ some key values has (omega (arith, low, other))
  ]

  pub gathers_none : (key : ℕ) → bucket + 1 ≤ key % buckets → map.get new key ≡ None
  gathers_none key high =
      let put = added had.0 had.1 in
      apart buckets bucket had.0 old new put.1 put.0 key (λ same. absurd (omega (arith, same, high))) ∙ none key (omega (arith, high))

-- all keys give the map
pub gathered_all : (whole own : BucketMap) → ((key : ℕ) → map.get whole key ≡ map.get own key) → whole ≡ own
gathered_all whole own same = map.same_map nat_cmp_total nat_cmp-IsAntisymmetric whole own same

none_before : (old new : CacheMap) (n : ℕ) (own : Cached) (k : ℕ) → new ≡ map.insert old n own → map.get new k ≡ None → map.get old k ≡ None
none_before old new n own k is none = elim (same_or k n) [
  | inl level ↦ absurd (let mine : map.get new k ≡ Some own = ap (λ (j : ℕ). map.get new j) level ∙ put_there old new n own is in
      cc (mine, none))
  | inr apart ↦ sym (put_apart old new n own k is apart) ∙ none
]

-- a chain that cannot be read, by all that tells it
abbrev IsBadBy : List (List ℕ) → ℕ → ℕ → Kept → Lists → ℕ → Type 0
IsBadBy pages n at kept written buckets = ((map.get written n ≡ None) × IsRefused pages n (kept_first kept n) at)
    ⊎ ((bytes : List ℕ) × LoadedIs pages n (kept_first kept n) (map.get written n) bytes × IsNoBucket buckets (bucket_in n) bytes
    × (at ≡ kept_first kept n))

module _ {D : Type 0} {g : Ghosts D} where
  bad_before : (pages : List (List ℕ)) (old new : Chains D g) (n at : ℕ) → OnlyRead old new → IsBadChain pages new n at
      → IsBadChain pages old n at
  bad_before pages old new n at stays bad =
      subst (λ (r : Root). IsBadBy pages n at (kept_of old) (written_of old) r.buckets) stays.root
      (subst (λ (l : Lists). IsBadBy pages n at (kept_of old) l (bucket_count new)) stays.written
      (subst (λ (k : Kept). IsBadBy pages n at k (written_of new) (bucket_count new)) stays.kept bad))

  pub same_contents : (buckets : Buckets D g) → SameContents buckets buckets
  same_contents buckets = record {
    opens = λ pages was. was;
    later = λ pages was n values has. has;
    before = λ pages was n values has. has;
    bad = λ pages n at bad. bad;
  }

  pub contents_then : (old mid new : Buckets D g) → SameContents old mid → SameContents mid new → SameContents old new
  contents_then old mid new first second = record {
    opens = λ pages was. second.opens pages (first.opens pages was);
    later = λ pages was n values has. second.later pages (first.opens pages was) n values (first.later pages was n values has);
    before = λ pages was n values has. first.before pages was n values (second.before pages (first.opens pages was) n values has);
    bad = λ pages n at bad. first.bad pages n at (second.bad pages n at bad);
  }

  -- a bucket more that is there as it stands in the store
  pub content_before : (pages : List (List ℕ)) (chains later : Chains D g) (old new : CacheMap) (n : ℕ) (own : Cached)
      → OnlyRead chains later
      → new ≡ map.insert old n own → Stored pages chains n own.bucket.values → map.get old n ≡ None
      → (other : ℕ) (values : BucketMap) → MatchOption (map.get new other) (Stored pages later other values)
      (λ it. it.bucket.values ≡ values)
      → MatchOption (map.get old other) (Stored pages chains other values) (λ it. it.bucket.values ≡ values)
  content_before pages chains later old new n own stays is stands none other values has = elim (same_or other n) [
    | inl level ↦
        let free : map.get old other ≡ None = ap (λ (k : ℕ). map.get old k) level ∙ none in
        let mine : map.get new other ≡ Some own = ap (λ (k : ℕ). map.get new k) level ∙ put_there old new n own is in
        let same : own.bucket.values ≡ values = content_own pages later (map.get new other) other own values mine has in
        none_content (map.get old other) pages chains other values free
        (subst (λ (k : ℕ). Stored pages chains k values) (sym level) (subst (λ (m : BucketMap). Stored pages chains n m) same stands))
    | inr apart ↦
        match_like (map.get old other) pages later chains other values (sym stays.kept) (sym stays.written)
        (ap (λ (r : Root). r.buckets) (sym stays.root))
        (subst (λ (o : Option Cached). MatchOption o (Stored pages later other values) (λ it. it.bucket.values ≡ values))
        (put_apart old new n own other is apart) has)
  ]

  pub bad_more : (pages : List (List ℕ)) (chains later : Chains D g) (old new : CacheMap) (n : ℕ) (own : Cached) → OnlyRead chains later
      → new ≡ map.insert old n own → (k at : ℕ) → (map.get new k ≡ None) × IsBadChain pages later k at
      → (map.get old k ≡ None) × IsBadChain pages chains k at
  bad_more pages chains later old new n own stays is k at bad =
      (none_before old new n own k is bad.0, bad_before pages chains later k at stays bad.1)

  -- a bucket that is refused refuses the map
  pub brings_map : (T : Type 0) (pages : List (List ℕ)) (first mid : Buckets D g) (which bucket n : ℕ) (fault : StoreFault)
      → SameContents first mid
      → n ≡ bucket_chain which bucket → bucket < bucket_count (chains_of first) → HasBucketsBefore pages first which bucket
      → BringsBucket {T = Unit {0}} pages mid n (Err fault) → BringsMap {T = T} pages first which (Err fault)
  brings_map T pages first mid which bucket n refusals.NotFormatted same at low there brings = tt
  brings_map T pages first mid which bucket n refusals.NotEmpty same at low there brings = tt
  brings_map T pages first mid which bucket n (refusals.BadStore page) same at low there brings =
      (bucket, low, subst (λ (k : ℕ). IsBad pages first k page) at (same.bad pages n page brings), there)
  brings_map T pages first mid which bucket n refusals.DiskFault same at low there brings = tt
  brings_map T pages first mid which bucket n (refusals.StoreFull many) same at low there brings = tt
  brings_map T pages first mid which bucket n refusals.Broken same at low there brings = tt
  brings_map T pages first mid which bucket n refusals.OutOfMemory same at low there brings = tt

  pub read_then : (old mid new : Buckets D g) → OnlyRead (chains_of old) (chains_of mid) → OnlyRead (chains_of mid) (chains_of new)
      → OnlyRead (chains_of old) (chains_of new)
  read_then old mid new first second = record {
    looked = looked_then (journal_of (chains_of old)) (journal_of (chains_of mid)) (journal_of (chains_of new)) first.looked second.looked;
    kept = second.kept ∙ first.kept;
    root = second.root ∙ first.root;
    written = second.written ∙ first.written;
  }

  -- the reads of a bucket are those of its map
  pub reads_bucket : (end which bucket n : ℕ) (old mid new : Buckets D g) → n ≡ bucket_at mid which bucket
      → OnlyRead (chains_of old) (chains_of mid)
      → MayRead end n (read_of (chains_of mid)) (read_of (chains_of new)) (disk_of (chains_of mid)) (disk_of (chains_of new))
      → ReadsKeys (λ m key. m ≡ which) old mid → ReadsKeys (λ m key. m ≡ which) old new
  reads_bucket end which bucket n old mid new at stays may reads =
      keys_then (λ m key. m ≡ which) old mid new stays reads
      (reads_wider (λ k. k ≡ n) (IsAskedChain (λ m key. m ≡ which) mid) (chains_of mid) (chains_of new)
      (λ k same. (which, bucket, refl, same ∙ at)) (reads_call end n (chains_of mid) (chains_of new) may))

  pub read_same : (buckets : Buckets D g) → OnlyRead (chains_of buckets) (chains_of buckets)
  read_same buckets = record { looked = looked_same (journal_of (chains_of buckets)); kept = refl; root = refl; written = refl }

  pub some_later : (old new : Buckets D g) → OnlyRead (chains_of old) (chains_of new) → 1 ≤ bucket_count (chains_of old)
      → 1 ≤ bucket_count (chains_of new)
  some_later old new stays some = omega (arith, some, ap (λ (r : Root). r.buckets) stays.root)

  -- where a bucket's chain stands
  pub place_low : (old mid : Buckets D g) (which bucket n : ℕ) → OnlyRead (chains_of old) (chains_of mid)
      → bucket < bucket_count (chains_of old)
      → n ≡ bucket_at mid which bucket → n ≡ bucket_chain which bucket
  place_low old mid which bucket n stays low at =
      at ∙ ap (λ (k : ℕ). bucket_chain which k) (mod-eq_of_lt (omega (arith, low, ap (λ (r : Root). r.buckets) stays.root)))

  -- a bucket more
  module _ (old mid : Buckets D g) (which bucket n : ℕ) (before after : BucketMap) (stays : OnlyRead (chains_of old) (chains_of mid))
      (same : SameContents old mid) (low : bucket < bucket_count (chains_of old)) (at : n ≡ bucket_at mid which bucket)
      (had : (pages : List (List ℕ)) → IsOpenStore pages mid → (values : BucketMap) × Content pages mid n values)
      (added : (pages : List (List ℕ)) → IsOpenStore pages mid → (values : BucketMap) → Content pages mid n values
      → (after ≡ with_records (map.entries values) before) × HasKeysOf (bucket_count (chains_of mid)) (bucket_in n) values) where
    count : bucket_count (chains_of mid) ≡ bucket_count (chains_of old)
    count = ap (λ (r : Root). r.buckets) stays.root

    place : n ≡ bucket_chain which bucket
    place = place_low old mid which bucket n stays low at

    own : bucket_in n ≡ bucket
    own = ap (λ (k : ℕ). bucket_in k) place ∙ bucket_of_chain which bucket (omega (arith, low, (chains_of old).few))

    had_first : (pages : List (List ℕ)) → IsOpenStore pages old → (values : BucketMap) × Content pages old n values
    had_first pages opened =
        let one = had pages (same.opens pages opened) in (one.0, same.before pages opened n one.0 one.1)

    added_first : (pages : List (List ℕ)) → IsOpenStore pages old → (values : BucketMap) → Content pages old n values
        → (after ≡ with_records (map.entries values) before) × HasKeysOf (bucket_count (chains_of old)) bucket values
    added_first pages opened values has =
        let put = added pages (same.opens pages opened) values (same.later pages opened n values has) in (
          put.0,
          subst (λ (k : ℕ). HasKeysOf k bucket values) count
              (subst (λ (k : ℕ). HasKeysOf (bucket_count (chains_of mid)) k values) own put.1),
        )

    pub there_more : (pages : List (List ℕ)) → IsOpenStore pages old → HasBucketsBefore pages old which bucket
        → HasBucketsBefore pages old which (bucket + 1)
    there_more pages opened there k less = elim (same_or k bucket) [
      | inl level ↦
          let one = had_first pages opened in
          (one.0, subst (λ (j : ℕ). Content pages old j one.0) (place ∙ ap (λ (j : ℕ). bucket_chain which j) (sym level)) one.1)
      | inr other ↦ there k (omega (arith, less, other))
    ]

    pub some_more : (pages : List (List ℕ)) → IsOpenStore pages old
        → ((key : ℕ) → bucket ≤ key % bucket_count (chains_of old) → map.get before key ≡ None)
        → ((key : ℕ) (values : BucketMap) → Content pages old (bucket_at old which key) values → key % bucket_count (chains_of old) < bucket
        → map.get before key ≡ map.get values key)
        → (key : ℕ) (values : BucketMap) → Content pages old (bucket_at old which key) values
        → key % bucket_count (chains_of old) < bucket + 1
        → map.get after key ≡ map.get values key
    some_more pages opened none some =
        gathers_some (λ k values. Content pages old k values) (bucket_count (chains_of old)) which bucket n before after place
        (had_first pages opened) (added_first pages opened) none some

    pub none_more : (pages : List (List ℕ)) → IsOpenStore pages old
        → ((key : ℕ) → bucket ≤ key % bucket_count (chains_of old) → map.get before key ≡ None)
        → (key : ℕ) → bucket + 1 ≤ key % bucket_count (chains_of old) → map.get after key ≡ None
    none_more pages opened none =
        gathers_none (λ k values. Content pages old k values) (bucket_count (chains_of old)) which bucket n before after place
        (had_first pages opened) (added_first pages opened) none

-- a refusal of one call is one of another
pub sound_of : (T U : Type 0) (fault : StoreFault) → IsSoundAnswer {T = T} (Err fault) → IsSoundAnswer {T = U} (Err fault)
sound_of T U refusals.NotFormatted is = is
sound_of T U refusals.NotEmpty is = is
sound_of T U (refusals.BadStore page) is = is
sound_of T U refusals.DiskFault is = is
sound_of T U (refusals.StoreFull pages) is = is
sound_of T U refusals.Broken is = is
sound_of T U refusals.OutOfMemory is = is
