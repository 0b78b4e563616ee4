-- The reads of a transaction, one call after another.
use Rattle.std.proofs.Common.{◌≡◌, ◌⊎◌, inl, inr, ℕ, ◌+◌, cond, List, [], ◌∷◌, length, Some, None, refl, sym, ap, subst, ◌∙◌, arith}
use Rattle.std.specs.Ordering.{nat_cmp, is_eq}
use Rattle.std.specs.declared.cmp.Ordering.{Ordering}
use Rattle.std.specs.declared.cmp.Ordering.TheVariants.{Less, Equal, Greater}
use Rattle.std.specs.Cmp.{nat_cmp_total}
use Rattle.std.specs.FinMap as map
use Rattle.std.specs.FinMap.{find, put}
use Rattle.std.specs.FinMap.Entries.{by_order}
use Rattle.std.specs.Option.{IsSome}
use Rattle.outside.specs.Disk.{DiskView}
use Rattle.outside.specs.declared.disk.Disk.{Ghosts}
use Rattle.chain_store.specs.Chains.{disk_of, read_of}
use Rattle.chain_store.specs.Known.{Lists, MayRead}
use Rattle.chain_store.specs.Reads.{ReadsOnly, ReadsWithin, page_sum, pages_read}
use Rattle.chain_store.specs.declared.chains.Chains.{Chains}
use Rattle.chain_store.proofs.Puts.{got_some}

page_sum-put : (n : ℕ) (ns : List ℕ) (chains : List (ℕ × List ℕ)) → find nat_cmp n chains ≡ None
    → page_sum (put nat_cmp n ns chains) ≡ length ns + page_sum chains
page_sum-put n ns [] none = omega arith
page_sum-put n ns (chain ∷ chains) none =
    elim (nat_cmp n chain.0) as (λ (r : Ordering). cond (is_eq r) (Some chain.1) (find nat_cmp n chains) ≡ None
    → page_sum (by_order r ((n, ns) ∷ chain ∷ chains) ((chain.0, ns) ∷ chains) (chain ∷ put nat_cmp n ns chains)) ≡ length ns
    + page_sum (chain ∷ chains)) [
      | Less ↦ λ apart. omega arith
      | Equal ↦ λ same. absurd (cc)
      | Greater ↦ λ apart. omega (arith, page_sum-put n ns chains apart)
    ] none

-- a chain that is new adds its pages
pages_read-insert : (read : Lists) (n : ℕ) (ns : List ℕ) → map.get read n ≡ None
    → pages_read (map.insert read n ns) ≡ length ns + pages_read read
unfolding pages_read
pages_read-insert read n ns none =
    ap page_sum (map.entries-insert nat_cmp_total read n ns)
    ∙ page_sum-put n ns (map.entries read) (sym (map.get-entries read n) ∙ none)

no_pages : (chains : List (ℕ × List ℕ)) → length chains ≡ 0 → page_sum chains ≡ 0
no_pages [] none = refl
no_pages (chain ∷ chains) none = absurd (omega (arith, none))

pub pages_read-empty : pages_read map.empty ≡ 0
unfolding pages_read
pages_read-empty =
    no_pages (map.entries (map.empty {X = List ℕ} {R = nat_cmp}))
    (sym (map.len-entries (map.empty {X = List ℕ} {R = nat_cmp})) ∙ map.len-empty nat_cmp (List ℕ))

pub within_on : (old mid new : Lists) (before between after : DiskView) → ReadsWithin old mid before between
    → ReadsWithin mid new between after
    → ReadsWithin old new before after
within_on old mid new before between after earlier later first told =
    let one = earlier first told in
    let two = later one.0 one.1 in
    (two.0, two.1, omega (arith, one.2, two.2))

-- a call that reads one chain at most
pub within_call : (end n : ℕ) (old new : Lists) (before after : DiskView) → MayRead end n old new before after
    → ReadsWithin old new before after
within_call end n old new before after (inl same) first told =
    let now = same.1 first told in
    (now.0, now.1, omega (arith, now.2, ap pages_read same.0))
within_call end n old new before after (inr (none, chain)) first told =
    let now = chain.2 first told in
    (now.0, now.1, omega (arith, now.2, ap pages_read chain.1, pages_read-insert old n chain.0 none))

each_call : (end n : ℕ) (old new : Lists) (before after : DiskView) → MayRead end n old new before after → (k : ℕ) → IsSome (map.get new k)
    → IsSome (map.get old k) ⊎ (k ≡ n)
each_call end n old new before after (inl same) k some = inl (subst (λ (l : Lists). IsSome (map.get l k)) same.0 some)
each_call end n old new before after (inr (none, chain)) k some =
    got_some old n chain.0 k (subst (λ (l : Lists). IsSome (map.get l k)) chain.1 some)

module _ {D : Type 0} {g : Ghosts D} where
  pub reads_call : (end n : ℕ) (old new : Chains D g) → MayRead end n (read_of old) (read_of new) (disk_of old) (disk_of new)
      → ReadsOnly (λ k. k ≡ n) old new
  reads_call end n old new may = record {
    within = within_call end n (read_of old) (read_of new) (disk_of old) (disk_of new) may;
    each = each_call end n (read_of old) (read_of new) (disk_of old) (disk_of new) may;
  }

  pub reads_nothing : (P : ℕ → Type 0) (chains : Chains D g) → ReadsOnly P chains chains
  reads_nothing P chains = record { within = λ first told. (first, told, omega arith); each = λ n some. inl some }

  pub reads_on : (P Q : ℕ → Type 0) (old mid new : Chains D g) → ReadsOnly P old mid → ReadsOnly Q mid new
      → ReadsOnly (λ n. P n ⊎ Q n) old new
  reads_on P Q old mid new earlier later = record {
    within = within_on (read_of old) (read_of mid) (read_of new) (disk_of old) (disk_of mid) (disk_of new) earlier.within later.within;
    each = λ n some. elim (later.each n some) [
      | inl between ↦ elim (earlier.each n between) [ inl before ↦ inl before | inr is ↦ inr (inl is) ]
      | inr is ↦ inr (inr is)
    ];
  }

  pub reads_wider : (P Q : ℕ → Type 0) (old new : Chains D g) → ((n : ℕ) → P n → Q n) → ReadsOnly P old new → ReadsOnly Q old new
  reads_wider P Q old new wider reads = record {
    within = reads.within;
    each = λ n some. elim (reads.each n some) [ inl before ↦ inl before | inr is ↦ inr (wider n is) ];
  }
