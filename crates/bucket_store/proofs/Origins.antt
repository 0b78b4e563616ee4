-- What each bucket was read from stays what its chain has, until the chain is written.
use Rattle.std.proofs.Common.{◌≡◌, ℕ, ◌==◌, Bool, cond, List, Option, Some, None, sym, ap, subst, ◌∙◌, inl, inr}
use Rattle.std.proofs.lemmas.Bool.{ne_eqb}
use Rattle.std.specs.Ordering.{is_eq}
use Rattle.std.specs.declared.cmp.Ordering.{Ordering}
use Rattle.std.specs.FinMap as map
use Rattle.outside.specs.declared.disk.Disk.{Ghosts}
use Rattle.chain_store.specs.declared.chains.Chains.{Chains}
use Rattle.chain_store.specs.declared.kept.Kept.{Kept}
use Rattle.chain_store.specs.Chains.{LoadedIs, first_of, kept_of, written_of}
use Rattle.chain_store.specs.Store.{kept_first}
use Rattle.chain_store.proofs.Times.{same_or}
use Rattle.bucket_records.specs.Held.{HeldBucket}
use Rattle.bucket_records.proofs.MapLaws.{apart_of, equal_of}
use Rattle.bucket_store.specs.Buckets.{HasOrigin, HaveOrigins}
use Rattle.bucket_store.specs.Cache.{CacheMap}
use Rattle.bucket_store.specs.Committing.{after}
use Rattle.bucket_store.specs.declared.cache.Cached.{Cached}
use Rattle.bucket_store.proofs.Caches.{get_less}

no_own : (own : Cached) → None ≡ Some own → ⊥
no_own own same = absurd (cc)

module _ {D : Type 0} {g : Ghosts D} (pages : List (List ℕ)) (old new : Chains D g) where
  pub origin_same : (n : ℕ) (held : HeldBucket) → kept_of new ≡ kept_of old → map.get (written_of new) n ≡ map.get (written_of old) n
      → HasOrigin pages old n held → HasOrigin pages new n held
  origin_same n held kept written is =
      subst (λ (k : Kept). LoadedIs pages n (kept_first k n) (map.get (written_of new) n) held.origin) (sym kept)
      (subst (λ (o : Option (List ℕ)). LoadedIs pages n (first_of old n) o held.origin) (sym written) is)

  -- one bucket is taken out, and its chain may be written
  pub origins_less : (before rest : CacheMap) (n : ℕ) (own : Cached) → rest ≡ map.remove before n → kept_of new ≡ kept_of old
      → ((k : ℕ) → map.get (written_of new) k ≡ after (cond (k == n) (Some own) None) (map.get (written_of old) k))
      → HaveOrigins pages old before → HaveOrigins pages new rest
  origins_less before rest n own less kept written had k other there = elim (same_or k n) [
    | inl same ↦
        let gone = get_less before rest n k less ∙ ap (λ (r : Ordering). cond (is_eq r) None (map.get before k)) (equal_of k n same) in
        absurd (no_own other (sym gone ∙ there))
    | inr apart ↦
        let stays = get_less before rest n k less ∙ ap (λ (b : Bool). cond b None (map.get before k)) (apart_of k n apart) in
        origin_same k other.bucket kept
        (written k ∙ ap (λ (b : Bool). after (cond b (Some own) None) (map.get (written_of old) k)) (ne_eqb k n apart))
        (had k other (sym stays ∙ there))
  ]
