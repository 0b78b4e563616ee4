-- What calls on keys have read of the buckets of a store.
use Rattle.chain_store.proofs.Counted.{reads_call, reads_wider}
use Rattle.std.proofs.Common.{◌≡◌, ◌⊎◌, inl, inr, ℕ, ◌*◌, Bool, true, false, cond, ◌||◌, List, [], ◌∷◌, ◌++◌, Some, Result, Ok, Err, OnOk}
use Rattle.std.proofs.Common.{refl, sym, ap, subst, ◌∙◌, nat_eq, ◌+◌, ◌%◌, ◌≤◌, arith}
use mathlib.Core.Bool.{false≢true}
use Rattle.std.specs.Prelude.{IsSome, is_err}
use Rattle.std.specs.Cmp.{Equal-is, nat_cmp_total}
use Rattle.std.specs.FinMap as map
use Rattle.std.specs.FinMap.{nat_cmp-IsAntisymmetric}
use Rattle.std.specs.List.{AllByRecursion}
use Rattle.std.specs.Ordering.{eq_by_cmp, nat_cmp}
use Rattle.osm_base.specs.values.Ids.{has}
use Rattle.outside.specs.Disk.{DiskView}
use Rattle.outside.specs.declared.disk.Disk.{Ghosts}
use Rattle.page_journal.specs.Journal.{home_count}
use Rattle.page_journal.specs.declared.fault.StoreFault.{StoreFault}
use Rattle.chain_store.specs.Chains.{OnlyRead, disk_of, journal_of, read_of}
use Rattle.chain_store.specs.Known.{Lists, MayRead}
use Rattle.bucket_store.specs.Buckets.{bucket_count, chain_at}
use Rattle.bucket_store.specs.Transaction.{chains_of, has_refused}
use Rattle.bucket_store.specs.declared.buckets.Buckets.{Buckets}
use Rattle.store_maps.specs.Asked.{May}
use Rattle.store_maps.proofs.IdLists.{or-true, same_as, tied_self}
use Rattle.back_index.specs.Asking.{reads_more}
use Rattle.back_index.specs.Reads.{IsOfKey, HasReadOnly, ReadsBuckets}
use Rattle.back_index.proofs.Chained.{count_same}

from_sixteen : (a b n : ℕ) → n ≡ 16 + a + b → 16 ≤ n
from_sixteen a b n is = omega (arith, is)

clash : (b : Bool) → b ≡ true → b ≡ false → ⊥
clash b is none = false≢true (sym none ∙ is)

-- a chain that was read was read before, or is this one
inserted : (old : Lists) (n : ℕ) (ns : List ℕ) (other : ℕ) → IsSome (map.get (map.insert old n ns) other)
    → IsSome (map.get old other) ⊎ (other ≡ n)
inserted old n ns other there =
    elim (eq_by_cmp nat_cmp other n) as (λ b. eq_by_cmp nat_cmp other n ≡ b → IsSome (cond b (Some ns) (map.get old other))
    → IsSome (map.get old other) ⊎ (other ≡ n)) [
      | true ↦ λ same _. inr (nat_cmp-IsAntisymmetric other n ((Equal-is (nat_cmp other n)).0 same))
      | false ↦ λ _ before. inl before
    ] refl (subst IsSome (map.get-insert nat_cmp_total old n ns other) there)

read_before : (end n : ℕ) (old new : Lists) (before after : DiskView) → MayRead end n old new before after → (other : ℕ)
    → IsSome (map.get new other) → IsSome (map.get old other) ⊎ (other ≡ n)
read_before end n old new before after (inl none) other there = inl (subst (λ (l : Lists). IsSome (map.get l other)) none.0 there)
read_before end n old new before after (inr one) other there =
    inserted old n one.1.0 other (subst (λ (l : Lists). IsSome (map.get l other)) one.1.1 there)

module _ {D : Type 0} {g : Ghosts D} (may : May) where
  pub reads_refused : (new : Buckets D g) → has_refused new ≡ true → HasReadOnly may new
  reads_refused new is = record { each = λ going. absurd (clash (has_refused new) is going) }

  -- a call on a key that may be asked
  module _ (old new : Buckets D g) (which key : ℕ) (goes : has_refused old ≡ false) (allowed : may which key ≡ true)
      (stays : OnlyRead (chains_of old) (chains_of new)) where
    abbrev buckets : ℕ
    buckets = bucket_count (chains_of old)

    abbrev end : ℕ
    end = 4096 * home_count (journal_of (chains_of old))

    abbrev before : DiskView
    before = disk_of (chains_of old)

    abbrev after : DiskView
    after = disk_of (chains_of new)

    one_more : MayRead end (chain_at buckets which key) (read_of (chains_of old)) (read_of (chains_of new)) before after
        → HasReadOnly may old → HasReadOnly may new
    one_more reads only = record {
      each = λ going n from there.
          subst (λ (count : ℕ). IsOfKey may count n) (sym (count_same old new stays))
          (elim (read_before end (chain_at buckets which key) (read_of (chains_of old))
          (read_of (chains_of new)) before after reads n there) [
            | inl was ↦ only.each goes n from was
            | inr is ↦ record { which = which; key = key; allowed = allowed; chain = is }
          ]);
    }

    pub reads_key : {T : Type 0} (result : Result T StoreFault)
        → OnOk result (MayRead end (chain_at buckets which key) (read_of (chains_of old)) (read_of (chains_of new)) before after)
        → has_refused new ≡ is_err result → HasReadOnly may old → HasReadOnly may new
    reads_key (Ok value) reads refused only = one_more reads only
    reads_key (Err fault) reads refused only = reads_refused new refused

module _ {D : Type 0} {g : Ghosts D} where
  module _ (old new : Buckets D g) (which key : ℕ) where
    pub reads_bucket : MayRead (4096 * home_count (journal_of (chains_of old))) (chain_at (bucket_count (chains_of old)) which key)
        (read_of (chains_of old)) (read_of (chains_of new))
        (disk_of (chains_of old)) (disk_of (chains_of new)) → ReadsBuckets old new
    reads_bucket reads =
        let n : ℕ = chain_at (bucket_count (chains_of old)) which key in
        reads_wider (λ k. k ≡ n) (λ k. 16 ≤ k) (chains_of old) (chains_of new)
        (λ k is. from_sixteen (65536 * which) (key % bucket_count (chains_of old)) k is)
        (reads_call (4096 * home_count (journal_of (chains_of old))) n (chains_of old) (chains_of new) reads)

    pub reads_result : {T : Type 0} (result : Result T StoreFault)
        → OnOk result (MayRead (4096 * home_count (journal_of (chains_of old))) (chain_at (bucket_count (chains_of old)) which key)
        (read_of (chains_of old)) (read_of (chains_of new)) (disk_of (chains_of old)) (disk_of (chains_of new)))
        → OnOk result (ReadsBuckets old new)
    reads_result (Ok value) reads = reads_bucket reads
    reads_result (Err fault) reads = tt

  -- a call, and then another one
  pub reads_then : {T : Type 0} (old mid new : Buckets D g) (result : Result T StoreFault) → ReadsBuckets old mid
      → OnOk result (ReadsBuckets mid new) → OnOk result (ReadsBuckets old new)
  reads_then old mid new (Ok value) first second = reads_more old mid new first second
  reads_then old mid new (Err fault) first second = tt

module _ (P : ℕ → Type 0) where
  pub all_has : (ids : List ℕ) (id : ℕ) → AllByRecursion P ids → has ids id ≡ true → P id
  all_has [] id all there = absurd (false≢true there)
  all_has (first ∷ ids) id all there = elim (nat_eq first id) as (λ b. nat_eq first id ≡ b → (b || has ids id) ≡ true → P id) [
    | true ↦ λ same _. subst P (same_as first id same) all.0
    | false ↦ λ _ later. all_has ids id all.1 later
  ] refl there

  each_has : (ids : List ℕ) → ((id : ℕ) → has ids id ≡ true → P id) → AllByRecursion P ids
  each_has [] each = tt
  each_has (id ∷ ids) each = (
    each id (ap (λ b. b || has ids id) (tied_self id)),
    each_has ids (λ other there. each other (ap (λ b. nat_eq id other || b) there ∙ or-true (nat_eq id other))),
  )

  -- ids that are among others
  pub all_among : (ids others : List ℕ) → ((id : ℕ) → has ids id ≡ has others id) → AllByRecursion P others → AllByRecursion P ids
  all_among ids others same all = each_has ids (λ id there. all_has others id all (sym (same id) ∙ there))

  pub all_joined : (ids others : List ℕ) → AllByRecursion P ids → AllByRecursion P others → AllByRecursion P (ids ++ others)
  all_joined [] others one other = other
  all_joined (id ∷ ids) others one other = (one.0, all_joined ids others one.1 other)
