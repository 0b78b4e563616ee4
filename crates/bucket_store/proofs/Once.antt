-- The buckets of a transaction are those that it has read.
use Rattle.std.proofs.Common.{◌≡◌, ◌⊎◌, inl, inr, ◌+◌, ◌*◌, ◌≤◌, ◌<◌, ℕ, Bool, true, false, cond, Option, Some, None, List, length, refl}
use Rattle.std.proofs.Common.{sym, ap, subst, ◌∙◌, arith}
use Rattle.std.specs.Option.{is_some, IsSome}
use Rattle.std.specs.Ordering.{nat_cmp, is_eq, eq_by_cmp}
use Rattle.std.specs.Cmp.{nat_cmp_total, eq_by_cmp_equiv}
use Rattle.std.specs.FinMap as map
use Rattle.outside.specs.Disk.{DiskView, ReadsAtMost}
use Rattle.outside.specs.declared.disk.Disk.{Ghosts}
use Rattle.page_journal.specs.Journal.{home_count, view_of}
use Rattle.page_journal.specs.declared.journal.Journal.{Journal}
use Rattle.page_journal.proofs.ReadCounts.{reads_more, reads_then}
use Rattle.page_journal.proofs.Sets.{not_equal}
use Rattle.chain_store.specs.Answers.{Looked}
use Rattle.chain_store.specs.Chain.{HasPages}
use Rattle.chain_store.specs.Ends.{ReadsFree}
use Rattle.chain_store.specs.Known.{AreStored, Lists, MayRead}
use Rattle.chain_store.specs.Links.{page_in}
use Rattle.chain_store.specs.Store.{kept_first}
use Rattle.chain_store.specs.declared.kept.Kept.{Kept}
use Rattle.chain_store.specs.declared.layout.TheConstants.{FREE}
use Rattle.chain_store.proofs.Looks.{rests_looked}
use Rattle.chain_store.proofs.Puts.{got_some, some_more}
use Rattle.bucket_store.specs.Buckets.{AreAllRead, AreRead}
use Rattle.bucket_store.specs.Cache.{CacheMap}
use Rattle.bucket_store.specs.declared.cache.Cached.{Cached}
use Rattle.bucket_store.proofs.Caches.{get_less}

none_in : (lists : Lists) (n : ℕ) → lists ≡ map.empty → IsSome (map.get lists n) → ⊥
none_in lists n none some =
    let empty : map.get lists n ≡ None = ap (λ (l : Lists). map.get l n) none ∙ map.get-empty nat_cmp n in
    absurd (cc)

none_cached : (cache : CacheMap) (n : ℕ) → cache ≡ map.empty → IsSome (map.get cache n) → ⊥
none_cached cache n none some =
    let empty : map.get cache n ≡ None = ap (λ (l : CacheMap). map.get l n) none ∙ map.get-empty nat_cmp n in
    absurd (cc)

pub read_none : (read : Lists) (cache : CacheMap) → read ≡ map.empty → cache ≡ map.empty → AreRead read cache
read_none read cache none empty = record {
  there = λ n above some. absurd (none_in read n none some);
  all = λ n some. absurd (none_cached cache n empty some);
}

same_or : (a b : ℕ) → (a ≡ b) ⊎ (a ≡ b → ⊥)
same_or a b = grind arith

equal_here : (a b : ℕ) → a ≡ b → eq_by_cmp nat_cmp a b ≡ true
equal_here a b is = subst (λ (k : ℕ). eq_by_cmp nat_cmp a k ≡ true) is ((eq_by_cmp_equiv nat_cmp_total).refl a)

call_got : (end n : ℕ) (read now : Lists) (old new : DiskView) → MayRead end n read now old new → (k : ℕ) → IsSome (map.get now k)
    → IsSome (map.get read k) ⊎ (k ≡ n)
call_got end n read now old new (inl same) k some = inl (subst (λ (l : Lists). IsSome (map.get l k)) same.0 some)
call_got end n read now old new (inr (none, chain)) k some =
    got_some read n chain.0 k (subst (λ (l : Lists). IsSome (map.get l k)) chain.1 some)

call_kept : (end n : ℕ) (read now : Lists) (old new : DiskView) → MayRead end n read now old new → (k : ℕ) → IsSome (map.get read k)
    → IsSome (map.get now k)
call_kept end n read now old new (inl same) k some = subst (λ (l : Lists). IsSome (map.get l k)) (sym same.0) some
call_kept end n read now old new (inr (none, chain)) k some =
    subst (λ (l : Lists). IsSome (map.get l k)) (sym chain.1) (some_more read n chain.0 k some)

module _ (cache after : CacheMap) (n : ℕ) (own : Cached) (is : after ≡ map.insert cache n own) where
  at : (k : ℕ) → map.get after k ≡ cond (eq_by_cmp nat_cmp k n) (Some own) (map.get cache k)
  at k = ap (λ (m : CacheMap). map.get m k) is ∙ map.get-insert nat_cmp_total cache n own k

  cached_here : (k : ℕ) → k ≡ n → IsSome (map.get after k)
  cached_here k same =
      ap (λ (o : Option Cached). is_some o) (at k ∙ ap (λ (b : Bool). cond b (Some own) (map.get cache k)) (equal_here k n same))

  cached_apart : (k : ℕ) → (k ≡ n → ⊥) → map.get after k ≡ map.get cache k
  cached_apart k other = at k ∙ ap (λ (b : Bool). cond b (Some own) (map.get cache k)) (not_equal k n other)

  cached_more : (k : ℕ) → IsSome (map.get cache k) → IsSome (map.get after k)
  cached_more k some = elim (same_or k n) [
    | inl same ↦ cached_here k same
    | inr other ↦ ap (λ (o : Option Cached). is_some o) (cached_apart k other) ∙ some
  ]

  cached_got : (k : ℕ) → IsSome (map.get after k) → IsSome (map.get cache k) ⊎ (k ≡ n)
  cached_got k some = elim (same_or k n) [
    | inl same ↦ inr same
    | inr other ↦ inl (ap (λ (o : Option Cached). is_some o) (sym (cached_apart k other)) ∙ some)
  ]

  -- a bucket that is there is changed
  pub read_put : (read : Lists) → IsSome (map.get cache n) → AreRead read cache → AreRead read after
  read_put read here are = record {
    there = λ k above some. cached_more k (are.there k above some);
    all = λ k some. elim (cached_got k some) [
      | inl earlier ↦ are.all k earlier
      | inr same ↦ are.all k (subst (λ (q : ℕ). IsSome (map.get cache q)) (sym same) here)
    ];
  }

  -- the chain of a bucket is read, and the bucket is there
  pub read_more : (end : ℕ) (read now : Lists) (old new : DiskView) → MayRead end n read now old new → IsSome (map.get now n)
      → AreRead read cache → AreRead now after
  read_more end read now old new may known are = record {
    there = λ k above some. elim (call_got end n read now old new may k some) [
      | inl earlier ↦ cached_more k (are.there k above earlier)
      | inr same ↦ cached_here k same
    ];
    all = λ k some. elim (cached_got k some) [
      | inl earlier ↦ call_kept end n read now old new may k (are.all k earlier)
      | inr same ↦ subst (λ (q : ℕ). IsSome (map.get now q)) (sym same) known
    ];
  }

-- a string below the buckets is read
pub read_string : (end n : ℕ) (read now : Lists) (cache : CacheMap) (old new : DiskView) → n < 16 → MayRead end n read now old new
    → AreRead read cache
    → AreRead now cache
read_string end n read now cache old new low may are = record {
  there = λ k above some. elim (call_got end n read now old new may k some) [
    | inl earlier ↦ are.there k above earlier
    | inr same ↦ absurd (omega (arith, low, above, same))
  ];
  all = λ k some. call_kept end n read now old new may k (are.all k some);
}

-- a bucket that is not there was not read
pub unread_chain : (read : Lists) (cache : CacheMap) (n : ℕ) → AreRead read cache → 16 ≤ n → map.get cache n ≡ None → map.get read n ≡ None
unread_chain read cache n are above none =
    elim (map.get read n) as (λ (o : Option (List ℕ)). map.get read n ≡ o → o ≡ None) [
      | None ↦ λ is. refl
      | Some ns ↦ λ is. (let there = are.there n above (ap (λ (o : Option (List ℕ)). is_some o) is) in absurd (cc))
    ] refl

-- what was loaded of a chain was read, now or before it was written
pub loaded_read : (end buckets : ℕ) (read now written : Lists) (n : ℕ) (old new : DiskView) → AreStored buckets read written
    → (IsSome (map.get written n) → (now ≡ read) × ReadsAtMost 0 end old new) → (map.get written n ≡ None → IsSome (map.get now n))
    → IsSome (map.get now n)
loaded_read end buckets read now written n old new stored own known =
    elim (map.get written n) as (λ (o : Option (List ℕ)). map.get written n ≡ o → IsSome (map.get now n)) [
      | None ↦ λ is. known is
      | Some bytes ↦ λ is.
          subst (λ (l : Lists). IsSome (map.get l n)) (sym (own (ap (λ (o : Option (List ℕ)). is_some o) is)).0) (stored n bytes is).0
    ] refl

some_less : (o : Option Cached) (b : Bool) → IsSome (cond b None o) → IsSome o
some_less o true some = absurd (cc)
some_less o false some = some

-- a bucket is taken out
pub all_less : (read : Lists) (old new : CacheMap) (n : ℕ) → new ≡ map.remove old n → AreAllRead read old → AreAllRead read new
all_less read old new n is all k some =
    all k (some_less (map.get old k) (is_eq (nat_cmp k n)) (ap (λ (o : Option Cached). is_some o) (sym (get_less old new n k is)) ∙ some))

module _ {D : Type 0} {g : Ghosts D} where
  -- nothing is read, and then the free list
  pub free_later : (old mid new : Journal D g) (kept later : Kept) → Looked old mid → later ≡ kept
      → ReadsAtMost 0 (4096 * home_count old) (view_of old) (view_of mid) → ReadsFree mid later new → ReadsFree old kept new
  free_later old mid new kept later looked same none free = (
    free.0,
    λ pages rests. subst (λ (k : Kept). HasPages (page_in pages) (length pages + 1) FREE (kept_first k FREE) free.0) same
        (free.1 pages (rests_looked pages old mid rests looked)),
    reads_more (0 + length free.0) (length free.0) (4096 * home_count old) (4096 * home_count old) (view_of old).reads (view_of new).reads
        (omega arith) (omega arith)
        (reads_then 0 (length free.0) (4096 * home_count old) (view_of old).reads (view_of mid).reads (view_of new).reads none
        (subst (λ (n : ℕ). ReadsAtMost (length free.0) (4096 * n) (view_of mid) (view_of new)) looked.pages free.2)),
  )
