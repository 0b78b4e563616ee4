-- A store that is open stays so while buckets are read.
use Rattle.std.proofs.Common.{◌≡◌, ◌≢◌, ◌⊎◌, ℕ, ◌+◌, ◌-◌, ◌*◌, ◌%◌, ◌<◌, ◌≤◌, Bool, true, false, cond, List, length, Option, Some, None}
use Rattle.std.proofs.Common.{refl, sym, ap, subst, ◌∙◌, arith, mod-lt, inl, inr}
use Rattle.std.proofs.lemmas.Bool.{cases_order}
use Rattle.std.proofs.lemmas.Option.{same_Some}
use Rattle.std.specs.Bool.{IsTrue}
use Rattle.std.specs.Option.{IsSome, MatchOption, is_some}
use Rattle.std.specs.Ordering.{is_eq}
use Rattle.std.specs.declared.cmp.Ordering.{Ordering}
use Rattle.std.specs.Cmp.{nat_cmp_total}
use Rattle.std.specs.FinMap as map
use Rattle.outside.specs.declared.disk.Disk.{Ghosts}
use Rattle.chain_store.specs.declared.chains.Chains.{Chains}
use Rattle.chain_store.specs.declared.kept.Kept.{Kept}
use Rattle.chain_store.specs.declared.root.Root.{Root}
use Rattle.chain_store.specs.Chains.{IsOpen, LoadedIs, OnlyRead, first_of, kept_of, written_of}
use Rattle.chain_store.specs.Known.{Lists}
use Rattle.chain_store.specs.Store.{kept_first}
use Rattle.bucket_records.specs.Records.{BucketMap, IsBucket}
use Rattle.chain_store.specs.Links.{page_in}
use Rattle.chain_store.proofs.Times.{same_or}
use Rattle.chain_store.proofs.Unique.{bytes_one}
use Rattle.bucket_records.proofs.OneSpelling.{bucket_one}
use Rattle.bucket_records.proofs.MapLaws.{less_of, equal_of, greater_of, remove_absent}
use Rattle.bucket_store.specs.Cache.{CacheMap}
use Rattle.bucket_store.specs.Buckets.{Stored, AreBuckets, HasKeysOf, HasOrigin, IsBucketChain, bucket_count, bucket_in, chain_at}
use Rattle.bucket_store.specs.Transaction.{IsOpenWith}
use Rattle.bucket_store.specs.declared.cache.Cached.{Cached}
use Rattle.bucket_store.proofs.Origins.{origin_same}

-- what a chain has is one
pub loaded_one : (pages : List (List ℕ)) (n first : ℕ) (own : Option (List ℕ)) (one two : List ℕ) → LoadedIs pages n first own one
    → LoadedIs pages n first own two → one ≡ two
loaded_one pages n first None one two is other = bytes_one (page_in pages) (length pages + 1) n first one two is other
loaded_one pages n first (Some own) one two is other = is ∙ sym other

-- what was put is there
pub put_there : (old new : CacheMap) (n : ℕ) (own : Cached) → new ≡ map.insert old n own → map.get new n ≡ Some own
put_there old new n own is =
    ap (λ (m : CacheMap). map.get m n) is ∙ map.get-insert nat_cmp_total old n own n
    ∙ ap (λ (r : Ordering). cond (is_eq r) (Some own) (map.get old n)) (equal_of n n refl)

pub put_apart : (old new : CacheMap) (n : ℕ) (own : Cached) (k : ℕ) → new ≡ map.insert old n own → k ≢ n → map.get new k ≡ map.get old k
put_apart old new n own k is apart = elim (cases_order k n) [
  | inl level ↦ absurd (apart level)
  | inr (inl low) ↦
      ap (λ (m : CacheMap). map.get m k) is ∙ map.get-insert nat_cmp_total old n own k
      ∙ ap (λ (r : Ordering). cond (is_eq r) (Some own) (map.get old k)) (less_of k n low)
  | inr (inr high) ↦
      ap (λ (m : CacheMap). map.get m k) is ∙ map.get-insert nat_cmp_total old n own k
      ∙ ap (λ (r : Ordering). cond (is_eq r) (Some own) (map.get old k)) (greater_of k n high)
]

-- what is stored stays so where nothing was written
module _ {D : Type 0} {g : Ghosts D} where
  pub stored_later : (pages : List (List ℕ)) (old new : Chains D g) (n : ℕ) (values : BucketMap) → OnlyRead old new
      → Stored pages old n values
      → Stored pages new n values
  stored_later pages old new n values stays is = record {
    bytes = is.bytes;
    loaded = subst (λ (k : Kept). LoadedIs pages n (kept_first k n) (map.get (written_of new) n) is.bytes) (sym stays.kept)
        (subst (λ (l : Lists). LoadedIs pages n (first_of old n) (map.get l n) is.bytes) (sym stays.written) is.loaded);
    spells = subst (λ (r : Root). IsBucket r.buckets (bucket_in n) is.bytes (map.entries values)) (sym stays.root) is.spells;
  }

  -- a chain spells one map at most
  pub stored_one : (pages : List (List ℕ)) (chains : Chains D g) (n : ℕ) (one two : BucketMap) → Stored pages chains n one
      → Stored pages chains n two → one ≡ two
  stored_one pages chains n one two is other =
      let same = loaded_one pages n (first_of chains n) (map.get (written_of chains) n) other.bytes is.bytes other.loaded is.loaded in
      bucket_one (bucket_count chains) (bucket_in n) is.bytes one two is.spells
      (subst (λ (l : List ℕ). IsBucket (bucket_count chains) (bucket_in n) l (map.entries two)) same other.spells)

  pub match_later : (o : Option Cached) (pages : List (List ℕ)) (chains later : Chains D g) (n : ℕ) (values : BucketMap)
      → OnlyRead chains later
      → MatchOption o (Stored pages chains n values) (λ it. it.bucket.values ≡ values)
      → MatchOption o (Stored pages later n values) (λ it. it.bucket.values ≡ values)
  match_later None pages chains later n values stays has = stored_later pages chains later n values stays has
  match_later (Some own) pages chains later n values stays has = has

  -- what the transaction has in each bucket, once another is there as it stands in the store
  pub content_more : (pages : List (List ℕ)) (chains later : Chains D g) (old new : CacheMap) (n : ℕ) (own : Cached) → OnlyRead chains later
      → new ≡ map.insert old n own → Stored pages chains n own.bucket.values → map.get old n ≡ None
      → (other : ℕ) (values : BucketMap) → MatchOption (map.get old other) (Stored pages chains other values)
      (λ it. it.bucket.values ≡ values)
      → MatchOption (map.get new other) (Stored pages later other values) (λ it. it.bucket.values ≡ values)
  content_more pages chains later old new n own stays is stands none other values has = elim (same_or other n) [
    | inl level ↦
        let absent : map.get old other ≡ None = ap (λ (k : ℕ). map.get old k) level ∙ none in
        let stored = subst (λ (o : Option Cached). MatchOption o (Stored pages chains other values) (λ it. it.bucket.values ≡ values))
        absent has in
        let here = ap (λ (k : ℕ). map.get new k) level ∙ put_there old new n own is in
        let one = stored_one pages chains n own.bucket.values values stands
        (subst (λ (k : ℕ). Stored pages chains k values) level stored) in
        subst (λ (o : Option Cached). MatchOption o (Stored pages later other values) (λ it. it.bucket.values ≡ values)) (sym here) one
    | inr apart ↦
        let same = put_apart old new n own other is apart in
        subst (λ (o : Option Cached). MatchOption o (Stored pages later other values) (λ it. it.bucket.values ≡ values)) (sym same)
        (match_later (map.get old other) pages chains later other values stays has)
  ]

  pub open_later : (pages : List (List ℕ)) (old new : Chains D g) (cache : CacheMap) → OnlyRead old new → IsOpen pages new
      → IsOpenWith pages old cache → IsOpenWith pages new cache
  open_later pages old new cache stays opens was = record {
    open_chains = opens;
    had = λ n own there same. stored_later pages old new n own.bucket.values stays (was.had n own there same);
    origins = λ n own there. origin_same pages old new n own.bucket stays.kept (ap (λ (l : Lists). map.get l n) stays.written)
        (was.origins n own there);
  }

  -- a bucket more that is so in the store
  pub open_more : (pages : List (List ℕ)) (chains : Chains D g) (old new : CacheMap) (n : ℕ) (own : Cached) → new ≡ map.insert old n own
      → (own.changed ≡ false → Stored pages chains n own.bucket.values) → HasOrigin pages chains n own.bucket
      → IsOpenWith pages chains old → IsOpenWith pages chains new
  open_more pages chains old new n own is stands origin was = record {
    open_chains = was.open_chains;
    had = λ k other there same.
        let found = sym (ap (λ (m : CacheMap). map.get m k) is ∙ map.get-insert nat_cmp_total old n own k) ∙ there in
        elim (cases_order k n) [
          | inl level ↦
              let here = same_Some own other (sym (ap (λ (r : Ordering). cond (is_eq r) (Some own) (map.get old k)) (equal_of k n level))
              ∙ found) in
              subst (λ (j : ℕ). Stored pages chains j other.bucket.values) (sym level)
              (subst (λ (it : Cached). Stored pages chains n it.bucket.values) here (stands (ap (λ (it : Cached). it.changed) here ∙ same)))
          | inr (inl low) ↦ was.had k other (sym (ap (λ (r : Ordering). cond (is_eq r) (Some own) (map.get old k)) (less_of k n low))
              ∙ found) same
          | inr (inr high) ↦ was.had k other (sym (ap (λ (r : Ordering). cond (is_eq r) (Some own) (map.get old k)) (greater_of k n high))
              ∙ found) same
        ];
    origins = λ k other there. elim (same_or k n) [
      | inl level ↦
          let here = same_Some own other (sym (ap (λ (j : ℕ). map.get new j) level ∙ put_there old new n own is) ∙ there) in
          subst (λ (j : ℕ). HasOrigin pages chains j other.bucket) (sym level)
          (subst (λ (it : Cached). HasOrigin pages chains n it.bucket) here origin)
      | inr apart ↦ was.origins k other (sym (put_apart old new n own k is apart) ∙ there)
    ];
  }

-- each is a bucket still
pub buckets_more : (buckets : ℕ) (old new : CacheMap) (n : ℕ) (own : Cached) → new ≡ map.insert old n own → AreBuckets buckets old
    → IsBucketChain buckets n → HasKeysOf buckets (bucket_in n) own.bucket.values → AreBuckets buckets new
buckets_more buckets old new n own is were here keys k other there =
    let found = sym (ap (λ (m : CacheMap). map.get m k) is ∙ map.get-insert nat_cmp_total old n own k) ∙ there in
    elim (cases_order k n) [
      | inl level ↦
          let same = same_Some own other (sym (ap (λ (r : Ordering). cond (is_eq r) (Some own) (map.get old k)) (equal_of k n level))
          ∙ found) in
          subst (λ (j : ℕ). IsBucketChain buckets j × HasKeysOf buckets (bucket_in j) other.bucket.values) (sym level)
          (subst (λ (it : Cached). IsBucketChain buckets n × HasKeysOf buckets (bucket_in n) it.bucket.values) same (here, keys))
      | inr (inl low) ↦ were k other (sym (ap (λ (r : Ordering). cond (is_eq r) (Some own) (map.get old k)) (less_of k n low)) ∙ found)
      | inr (inr high) ↦ were k other (sym (ap (λ (r : Ordering). cond (is_eq r) (Some own) (map.get old k)) (greater_of k n high)) ∙ found)
    ]

pub buckets_same : (before buckets : ℕ) (cache : CacheMap) → before ≡ buckets → AreBuckets before cache → AreBuckets buckets cache
buckets_same before buckets cache same were = subst (λ (n : ℕ). AreBuckets n cache) same were

pub some_of : (o : Option Cached) (own : Cached) → o ≡ Some own → IsSome o
some_of o own is = cc

pub none_of : (there : Bool) (o : Option Cached) → (IsSome o → IsTrue there) → there ≡ false → o ≡ None
none_of there None tells not = refl
none_of there (Some own) tells not = absurd (let yes = tells (some_of (Some own) own refl) in cc (yes, not))

pub there_own : (o : Option Cached) → IsSome o → (own : Cached) × (o ≡ Some own)
there_own None some = absurd (cc)
there_own (Some own) some = (own, refl)

-- where there is a bucket, there are buckets
pub bucket_some : (count n : ℕ) → IsBucketChain count n → 1 ≤ count
bucket_some count n is = omega (arith, is.2)

none_left : IsSome {T = List ℕ} None → ⊥
none_left some = absurd (cc)

in_place : (bucket m : ℕ) → bucket < 65536 → (16 + 65536 * m + bucket - 16) % 65536 ≡ bucket
in_place bucket m low = omega arith

mod_low : (key buckets : ℕ) → 1 ≤ buckets → key % buckets < buckets
mod_low key buckets some = mod-lt key some

-- a value more, and a key less, in the bucket of the key
pub keys_put : (buckets bucket : ℕ) (values : BucketMap) (key : ℕ) (value : List ℕ) → HasKeysOf buckets bucket values
    → key % buckets ≡ bucket
    → HasKeysOf buckets bucket (map.insert values key value)
keys_put buckets bucket values key value keys own q there =
    let P : Option (List ℕ) → Type 0 = λ o. IsSome o in
    let found = subst P (map.get-insert nat_cmp_total values key value q) there in
    elim (cases_order q key) [
      | inl same ↦ ap (λ (k : ℕ). k % buckets) same ∙ own
      | inr (inl low) ↦ keys q (subst (λ (r : Ordering). IsSome (cond (is_eq r) (Some value) (map.get values q))) (less_of q key low) found)
      | inr (inr high) ↦ keys q (subst (λ (r : Ordering). IsSome (cond (is_eq r) (Some value) (map.get values q)))
          (greater_of q key high) found)
    ]

pub keys_remove : (buckets bucket : ℕ) (values : BucketMap) (key : ℕ) → HasKeysOf buckets bucket values
    → HasKeysOf buckets bucket (map.remove values key)
keys_remove buckets bucket values key keys q there =
    let P : Option (List ℕ) → Type 0 = λ o. IsSome o in
    let found = subst P (map.get-remove nat_cmp_total values key q) there in
    elim (cases_order q key) [
      | inl same ↦ absurd (none_left (subst (λ (r : Ordering). IsSome (cond (is_eq r) None (map.get values q)))
          (equal_of q key same) found))
      | inr (inl low) ↦ keys q (subst (λ (r : Ordering). IsSome (cond (is_eq r) None (map.get values q))) (less_of q key low) found)
      | inr (inr high) ↦ keys q (subst (λ (r : Ordering). IsSome (cond (is_eq r) None (map.get values q))) (greater_of q key high) found)
    ]

-- the bucket of the chain of a key
pub bucket_in-chain_at : (buckets m key : ℕ) → 1 ≤ buckets → buckets ≤ 65536 → bucket_in (chain_at buckets m key) ≡ key % buckets
bucket_in-chain_at buckets m key some few =
    let low : key % buckets < buckets = mod_low key buckets some in
    in_place (key % buckets) m (omega (arith, low))

-- what a bucket that is there has, and what it has then
pub content_own : {D : Type 0} {g : Ghosts D} (pages : List (List ℕ)) (chains : Chains D g) (o : Option Cached) (n : ℕ) (own : Cached)
    (values : BucketMap) → o ≡ Some own → MatchOption o (Stored pages chains n values) (λ it. it.bucket.values ≡ values)
    → own.bucket.values ≡ values
content_own pages chains o n own values there has =
    subst (λ (p : Option Cached). MatchOption p (Stored pages chains n values) (λ it. it.bucket.values ≡ values)) there has

pub content_is : {D : Type 0} {g : Ghosts D} (pages : List (List ℕ)) (chains : Chains D g) (o : Option Cached) (n : ℕ) (own : Cached)
    (values : BucketMap) → o ≡ Some own → own.bucket.values ≡ values
    → MatchOption o (Stored pages chains n values) (λ it. it.bucket.values ≡ values)
content_is pages chains o n own values there is =
    subst (λ (p : Option Cached). MatchOption p (Stored pages chains n values) (λ it. it.bucket.values ≡ values)) (sym there) is

pub never_changed : true ≡ false → ⊥
never_changed same = absurd (cc)

pub content_apart : {D : Type 0} {g : Ghosts D} (pages : List (List ℕ)) (chains : Chains D g) (old new : CacheMap) (n : ℕ) (own : Cached)
    (other : ℕ)
    (values : BucketMap) → new ≡ map.insert old n own → other ≢ n
    → MatchOption (map.get old other) (Stored pages chains other values) (λ it. it.bucket.values ≡ values)
    → MatchOption (map.get new other) (Stored pages chains other values) (λ it. it.bucket.values ≡ values)
content_apart pages chains old new n own other values is apart has =
    subst (λ (o : Option Cached). MatchOption o (Stored pages chains other values) (λ it. it.bucket.values ≡ values))
    (sym (put_apart old new n own other is apart)) has

-- a key that was taken out, or was not there
pub took : (was : Bool) (old new : CacheMap) (n : ℕ) (less : Cached) → (IsTrue was → new ≡ map.insert old n less)
    → (was ≡ false → new ≡ old)
    → (new ≡ map.insert old n less) ⊎ ((was ≡ false) × (new ≡ old))
took true old new n less taken none = inl (taken cc)
took false old new n less taken none = inr (refl, none refl)

pub absent_of : (o : Option (List ℕ)) → is_some o ≡ false → o ≡ None
absent_of None is = refl
absent_of (Some value) is = absurd (cc)

pub taken_own : (own : Cached) (key : ℕ) → map.contains_key own.bucket.values key ≡ false
    → own.bucket.values ≡ map.remove own.bucket.values key
taken_own own key none = remove_absent own.bucket.values key (absent_of (map.get own.bucket.values key) none)

pub content_same : {D : Type 0} {g : Ghosts D} (pages : List (List ℕ)) (chains : Chains D g) (old new : CacheMap) (other : ℕ)
    (values : BucketMap)
    → new ≡ old → MatchOption (map.get old other) (Stored pages chains other values) (λ it. it.bucket.values ≡ values)
    → MatchOption (map.get new other) (Stored pages chains other values) (λ it. it.bucket.values ≡ values)
content_same pages chains old new other values same has =
    subst (λ (m : CacheMap). MatchOption (map.get m other) (Stored pages chains other values) (λ it. it.bucket.values ≡ values))
    (sym same) has

-- what is stored stays so where no field changes but those that tell no chain
pub stored_like : {D : Type 0} {g : Ghosts D} (pages : List (List ℕ)) (old new : Chains D g) (n : ℕ) (values : BucketMap)
    → kept_of new ≡ kept_of old → written_of new ≡ written_of old → bucket_count new ≡ bucket_count old → Stored pages old n values
    → Stored pages new n values
stored_like pages old new n values kept written count is = record {
  bytes = is.bytes;
  loaded = subst (λ (k : Kept). LoadedIs pages n (kept_first k n) (map.get (written_of new) n) is.bytes) (sym kept)
      (subst (λ (l : Lists). LoadedIs pages n (first_of old n) (map.get l n) is.bytes) (sym written) is.loaded);
  spells = subst (λ (k : ℕ). IsBucket k (bucket_in n) is.bytes (map.entries values)) (sym count) is.spells;
}

pub open_like : {D : Type 0} {g : Ghosts D} (pages : List (List ℕ)) (old new : Chains D g) (cache : CacheMap) → IsOpen pages new
    → kept_of new ≡ kept_of old → written_of new ≡ written_of old → bucket_count new ≡ bucket_count old → IsOpenWith pages old cache
    → IsOpenWith pages new cache
open_like pages old new cache opens kept written count was = record {
  open_chains = opens;
  had = λ n own there same. stored_like pages old new n own.bucket.values kept written count (was.had n own there same);
  origins = λ n own there. origin_same pages old new n own.bucket kept (ap (λ (l : Lists). map.get l n) written) (was.origins n own there);
}

no_own : (own : Cached) → None ≡ Some own → ⊥
no_own own same = absurd (cc)

-- each is a bucket still, where one is taken out
pub buckets_less : (buckets : ℕ) (old new : CacheMap) (n : ℕ) → new ≡ map.remove old n → AreBuckets buckets old → AreBuckets buckets new
buckets_less buckets old new n is were k other there =
    let found = sym (ap (λ (m : CacheMap). map.get m k) is ∙ map.get-remove nat_cmp_total old n k) ∙ there in
    elim (cases_order k n) [
      | inl level ↦ absurd (no_own other (sym (ap (λ (r : Ordering). cond (is_eq r) None (map.get old k)) (equal_of k n level)) ∙ found))
      | inr (inl low) ↦ were k other (sym (ap (λ (r : Ordering). cond (is_eq r) None (map.get old k)) (less_of k n low)) ∙ found)
      | inr (inr high) ↦ were k other (sym (ap (λ (r : Ordering). cond (is_eq r) None (map.get old k)) (greater_of k n high)) ∙ found)
    ]

-- what a bucket that is not there has
pub none_content : {D : Type 0} {g : Ghosts D} (o : Option Cached) (pages : List (List ℕ)) (chains : Chains D g) (n : ℕ)
    (values : BucketMap) → o ≡ None
    → Stored pages chains n values → MatchOption o (Stored pages chains n values) (λ it. it.bucket.values ≡ values)
none_content None pages chains n values none stored = stored
none_content (Some own) pages chains n values none stored = absurd (no_own own (sym none))
