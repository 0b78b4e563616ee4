-- A string is written beside the buckets.
use Rattle.std.proofs.Common.{◌≡◌, ◌≢◌, ℕ, ◌<◌, ◌≤◌, Bool, cond, List, Option, Some, None, sym, ap, subst, ◌∙◌, arith}
use Rattle.std.specs.Option.{MatchOption}
use Rattle.std.specs.Cmp.{nat_cmp_total}
use Rattle.std.specs.FinMap as map
use Rattle.outside.specs.declared.disk.Disk.{Ghosts}
use Rattle.chain_store.specs.declared.chains.Chains.{Chains}
use Rattle.chain_store.specs.declared.kept.Kept.{Kept}
use Rattle.chain_store.specs.declared.root.Root.{Root}
use Rattle.chain_store.specs.Chains.{IsOpen, LoadedIs, first_of, kept_of, root_of, written_of}
use Rattle.chain_store.specs.Known.{Lists}
use Rattle.chain_store.specs.Store.{kept_first}
use Rattle.bucket_records.specs.Records.{BucketMap, IsBucket}
use Rattle.bucket_records.proofs.MapLaws.{apart_of}
use Rattle.bucket_store.specs.Buckets.{AreBuckets, Stored, bucket_count, bucket_in}
use Rattle.bucket_store.specs.Cache.{CacheMap}
use Rattle.bucket_store.specs.Transaction.{IsOpenWith}
use Rattle.bucket_store.specs.declared.cache.Cached.{Cached}
use Rattle.bucket_store.proofs.Openings.{stored_like}
use Rattle.bucket_store.proofs.Origins.{origin_same}

module _ {D : Type 0} {g : Ghosts D} (pages : List (List ℕ)) (old new : Chains D g) (n : ℕ) (bytes : List ℕ) (below : n < 8)
    (kept : kept_of new ≡ kept_of old) (root : root_of new ≡ root_of old)
    (written : written_of new ≡ map.insert (written_of old) n bytes) where
  written_beside : (other : ℕ) → 16 ≤ other → map.get (written_of new) other ≡ map.get (written_of old) other
  written_beside other above =
      let apart : other ≢ n = λ same. absurd (omega (arith, below, above, same)) in
      ap (λ (l : Lists). map.get l other) written ∙ map.get-insert nat_cmp_total (written_of old) n bytes other
      ∙ ap (λ (b : Bool). cond b (Some bytes) (map.get (written_of old) other)) (apart_of other n apart)

  pub stored_text : (other : ℕ) (values : BucketMap) → 16 ≤ other → Stored pages old other values → Stored pages new other values
  stored_text other values above is = record {
    bytes = is.bytes;
    loaded = subst (λ (k : Kept). LoadedIs pages other (kept_first k other) (map.get (written_of new) other) is.bytes) (sym kept)
        (subst (λ (o : Option (List ℕ)). LoadedIs pages other (first_of old other) o is.bytes)
        (sym (written_beside other above)) is.loaded);
    spells = subst (λ (r : Root). IsBucket r.buckets (bucket_in other) is.bytes (map.entries values)) (sym root) is.spells;
  }

  pub open_text : (cache : CacheMap) → AreBuckets (bucket_count old) cache → IsOpen pages new → IsOpenWith pages old cache
      → IsOpenWith pages new cache
  open_text cache are opens was = record {
    open_chains = opens;
    had = λ k own there same. stored_text k own.bucket.values (are k own there).0.0 (was.had k own there same);
    origins = λ k own there. origin_same pages old new k own.bucket kept (written_beside k (are k own there).0.0) (was.origins k own there);
  }

  pub match_text : (o : Option Cached) (other : ℕ) (values : BucketMap) → 16 ≤ other
      → MatchOption o (Stored pages old other values) (λ it. it.bucket.values ≡ values)
      → MatchOption o (Stored pages new other values) (λ it. it.bucket.values ≡ values)
  match_text None other values above has = stored_text other values above has
  match_text (Some own) other values above has = has

-- what a transaction has in a bucket stays where no chain of a bucket changes
pub match_like : {D : Type 0} {g : Ghosts D} (o : Option Cached) (pages : List (List ℕ)) (old new : Chains D g) (n : ℕ) (values : BucketMap)
    → kept_of new ≡ kept_of old → written_of new ≡ written_of old → bucket_count new ≡ bucket_count old
    → MatchOption o (Stored pages old n values) (λ it. it.bucket.values ≡ values)
    → MatchOption o (Stored pages new n values) (λ it. it.bucket.values ≡ values)
match_like None pages old new n values kept written count has = stored_like pages old new n values kept written count has
match_like (Some own) pages old new n values kept written count has = has
