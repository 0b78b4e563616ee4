-- What the chains of buckets are written with.
use Rattle.std.proofs.Common.{◌≡◌, ℕ, Bool, true, false, not, cond, ◌||◌, ◌==◌, List, Option, Some, None, refl, sym, ap, ◌∙◌, inl, inr}
use Rattle.std.proofs.Common.{eq-eqb}
use Rattle.std.proofs.lemmas.Bool.{ne_eqb}
use Rattle.std.specs.Ordering.{nat_cmp, is_eq}
use Rattle.std.specs.declared.cmp.Ordering.{Ordering}
use Rattle.std.specs.Cmp.{nat_cmp_total}
use Rattle.std.specs.FinMap as map
use Rattle.chain_store.proofs.Times.{same_or}
use Rattle.chain_store.specs.Known.{Lists}
use Rattle.bucket_records.specs.Records.{records_bytes}
use Rattle.bucket_records.proofs.MapLaws.{equal_of, apart_of}
use Rattle.bucket_store.specs.Cache.{CacheMap}
use Rattle.bucket_store.specs.Committing.{after}
use Rattle.bucket_store.specs.declared.cache.Cached.{Cached}
use Rattle.bucket_store.proofs.Caches.{get_less}

get_put : (old new : Lists) (n k : ℕ) (bytes : List ℕ) → new ≡ map.insert old n bytes
    → map.get new k ≡ cond (is_eq (nat_cmp k n)) (Some bytes) (map.get old k)
get_put old new n k bytes is = ap (λ (m : Lists). map.get m k) is ∙ map.get-insert nat_cmp_total old n bytes k

-- a changed bucket's chain is written with its bytes
pub written_one : (old new : Lists) (n : ℕ) (own : Cached) (bytes : List ℕ) → new ≡ map.insert old n bytes
    → bytes ≡ records_bytes (map.entries own.bucket.values) → own.changed ≡ true
    → (k : ℕ) → map.get new k ≡ after (cond (k == n) (Some own) None) (map.get old k)
written_one old new n own bytes is bytes-are changed k = elim (same_or k n) [
  | inl same ↦
      get_put old new n k bytes is
      ∙ ap (λ (r : Ordering). cond (is_eq r) (Some bytes) (map.get old k)) (equal_of k n same)
      ∙ ap (λ (l : List ℕ). Some l) bytes-are
      ∙ sym (ap (λ (b : Bool). cond b (Some (records_bytes (map.entries own.bucket.values))) (map.get old k)) changed)
      ∙ sym (ap (λ (b : Bool). after (cond b (Some own) None) (map.get old k)) (eq-eqb k n same))
  | inr apart ↦
      get_put old new n k bytes is
      ∙ ap (λ (b : Bool). cond b (Some bytes) (map.get old k)) (apart_of k n apart)
      ∙ sym (ap (λ (b : Bool). after (cond b (Some own) None) (map.get old k)) (ne_eqb k n apart))
]

-- an unchanged bucket's chain is not
pub written_none : (old : Lists) (n : ℕ) (own : Cached) → own.changed ≡ false
    → (k : ℕ) → map.get old k ≡ after (cond (k == n) (Some own) None) (map.get old k)
written_none old n own unchanged k = elim (same_or k n) [
  | inl same ↦
      sym (ap (λ (b : Bool). cond b (Some (records_bytes (map.entries own.bucket.values))) (map.get old k)) unchanged)
      ∙ sym (ap (λ (b : Bool). after (cond b (Some own) None) (map.get old k)) (eq-eqb k n same))
  | inr apart ↦ sym (ap (λ (b : Bool). after (cond b (Some own) None) (map.get old k)) (ne_eqb k n apart))
]

-- a bucket that is taken out and stored is as good as one that is there
pub after_same : (before rest : CacheMap) (old new : Lists) (n : ℕ) (own : Cached) → map.get before n ≡ Some own
    → rest ≡ map.remove before n
    → ((k : ℕ) → map.get new k ≡ after (cond (k == n) (Some own) None) (map.get old k))
    → (k : ℕ) → after (map.get rest k) (map.get new k) ≡ after (map.get before k) (map.get old k)
after_same before rest old new n own there less written k = elim (same_or k n) [
  | inl same ↦
      let gone : map.get rest k ≡ None =
      get_less before rest n k less ∙ ap (λ (r : Ordering). cond (is_eq r) None (map.get before k)) (equal_of k n same) in
      let here : map.get before k ≡ Some own = ap (λ (j : ℕ). map.get before j) same ∙ there in
      ap (λ (o : Option Cached). after o (map.get new k)) gone ∙ written k
      ∙ ap (λ (b : Bool). after (cond b (Some own) None) (map.get old k)) (eq-eqb k n same)
      ∙ sym (ap (λ (o : Option Cached). after o (map.get old k)) here)
  | inr apart ↦
      let stays : map.get rest k ≡ map.get before k =
      get_less before rest n k less ∙ ap (λ (b : Bool). cond b None (map.get before k)) (apart_of k n apart) in
      ap (λ (o : Option Cached). after o (map.get new k)) stays
      ∙ ap (λ (w : Option (List ℕ)). after (map.get before k) w)
      (written k ∙ ap (λ (b : Bool). after (cond b (Some own) None) (map.get old k)) (ne_eqb k n apart))
]

pub after_none : (cache : CacheMap) (written : Lists) (n : ℕ) → cache ≡ map.empty
    → after (map.get cache n) (map.get written n) ≡ map.get written n
after_none cache written n none =
    ap (λ (o : Option Cached). after o (map.get written n)) (ap (λ (m : CacheMap). map.get m n) none ∙ map.get-empty nat_cmp n)

pub not_false : (b : Bool) → not b ≡ false → b ≡ true
not_false true is = refl
not_false false is = absurd (cc)

pub still_then : (old mid new : Bool) → mid ≡ old → new ≡ (mid || false) → new ≡ old
still_then old true new first second = second ∙ first
still_then old false new first second = second ∙ first
