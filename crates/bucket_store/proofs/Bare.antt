-- A bucket without a page that the transaction does not have has no values.
use Rattle.std.proofs.Common.{◌≡◌, ◌<◌, ◌≤◌, ◌%◌, ℕ, Bool, true, false, not, List, [], Option, Some, None, refl, sym, ap, ◌∙◌, arith}
use Rattle.std.specs.Option.{IsSome, MatchOption}
use Rattle.std.specs.FinMap as map
use Rattle.std.specs.Ordering.{nat_cmp}
use Rattle.outside.specs.declared.disk.Disk.{Ghosts}
use Rattle.chain_store.specs.declared.chains.Chains.{Chains}
use Rattle.chain_store.specs.Chains.{first_of, read_of, written_of}
use Rattle.bucket_records.specs.Records.{BucketMap}
use Rattle.bucket_store.specs.Buckets.{Stored, bucket_count, bucket_in}
use Rattle.bucket_store.specs.Image.{Has, Image, IsBucketOf}
use Rattle.bucket_store.specs.Transaction.{Content, bucket_at, cached_of, chains_of, has_refused}
use Rattle.bucket_store.specs.declared.buckets.Buckets.{Buckets}
use Rattle.bucket_store.specs.declared.cache.Cached.{Cached}
use Rattle.bucket_store.proofs.Holding.{has_bucket, has_part}
use Rattle.bucket_store.proofs.Numbered.{empty_bucket, loaded_none, no_entries}
use Rattle.bucket_store.proofs.Once.{unread_chain}
use Rattle.bucket_store.proofs.Openings.{stored_one}

pub not_there : (there : Bool) → not there ≡ true → there ≡ false
not_there true is = absurd (cc is)
not_there false is = refl

unread_none : (o read : Option (List ℕ)) → ((bytes : List ℕ) → o ≡ Some bytes → IsSome read) → read ≡ None → o ≡ None
unread_none None read stored none = refl
unread_none (Some bytes) read stored none = absurd (let there = stored bytes refl in cc (there, none))

bare_match : (o : Option (List ℕ)) (first : ℕ) → o ≡ None → first ≡ 0 → MatchOption o (first ≡ 0) (λ own. own ≡ [])
bare_match None first none zero = zero
bare_match (Some own) first none zero = absurd (cc none)

not_cached : (o : Option Cached) (P : Type 0) (Q : Cached → Type 0) → o ≡ None → MatchOption o P Q → P
not_cached None P Q none has = has
not_cached (Some own) P Q none has = absurd (cc none)

module _ {D : Type 0} {g : Ghosts D} where
  -- what a chain without a page spells
  bare_stored : (pages : List (List ℕ)) (chains : Chains D g) (n : ℕ) → first_of chains n ≡ 0 → map.get (written_of chains) n ≡ None
      → Stored pages chains n map.empty
  bare_stored pages chains n first none = record {
    bytes = [];
    loaded = loaded_none (map.get (written_of chains) n) pages n (first_of chains n)
        (bare_match (map.get (written_of chains) n) (first_of chains n) none first);
    spells = empty_bucket (bucket_count chains) (bucket_in n) map.empty refl;
  }

  pub bare_values : (pages : List (List ℕ)) (buckets : Buckets D g) (n : ℕ) (values : BucketMap) → has_refused buckets ≡ false → 16 ≤ n
      → first_of (chains_of buckets) n ≡ 0 → map.get (cached_of buckets) n ≡ None → Content pages buckets n values → values ≡ map.empty
  bare_values pages buckets n values going above first none has =
      let unread = unread_chain (read_of (chains_of buckets)) (cached_of buckets) n (buckets.once going) above none in
      let unwritten = unread_none (map.get (written_of (chains_of buckets)) n) (map.get (read_of (chains_of buckets)) n)
      (λ bytes there. ((chains_of buckets).stored n bytes there).0) unread in
      stored_one pages (chains_of buckets) n values map.empty (not_cached (map.get (cached_of buckets) n) _ _ none has)
      (bare_stored pages (chains_of buckets) n first unwritten)

  pub bare_above : (buckets : Buckets D g) (which key : ℕ) → 16 ≤ bucket_at buckets which key
  bare_above buckets which key = omega arith

  -- so the map has nothing for a key of it, and the bucket no records
  pub bare_found : (rest now : Image) (buckets : Buckets D g) (which key : ℕ) → which < 8 → 1 ≤ bucket_count (chains_of buckets)
      → ((pages : List (List ℕ)) (values : BucketMap) → Content pages buckets (bucket_at buckets which key) values → values ≡ map.empty)
      → Has rest now buckets → map.get (now.maps which) key ≡ None
  bare_found rest now buckets which key below some bare has =
      let own = has_bucket rest now buckets which key below some has in
      sym own.2 ∙ ap (λ (m : BucketMap). map.get m key) (bare has.pages own.0 own.1) ∙ map.get-empty nat_cmp key

  pub bare_records : (rest now : Image) (buckets : Buckets D g) (which key : ℕ) → which < 8 → 1 ≤ bucket_count (chains_of buckets)
      → ((pages : List (List ℕ)) (values : BucketMap) → Content pages buckets (bucket_at buckets which key) values → values ≡ map.empty)
      → Has rest now buckets → IsBucketOf now which (key % now.root.buckets) []
  bare_records rest now buckets which key below some bare has =
      let own = has_part rest now buckets which key below some has in
      record { own = own.0; part = own.2; are = sym (no_entries own.0 (bare has.pages own.0 own.1)) }

-- no value is got of such a bucket
pub none_got : (values : BucketMap) (key : ℕ) → values ≡ map.empty → None ≡ map.get values key
none_got values key none = sym (ap (λ (m : BucketMap). map.get m key) none ∙ map.get-empty nat_cmp key)
