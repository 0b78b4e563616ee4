-- What one call after another reads, by the keys that they ask for.
use Rattle.std.proofs.Common.{◌≡◌, inl, inr, ◌⊎◌, ℕ, refl, sym, subst, ◌∙◌}
use Rattle.outside.specs.declared.disk.Disk.{Ghosts}
use Rattle.chain_store.specs.Chains.{OnlyRead, disk_of, read_of}
use Rattle.chain_store.specs.Known.{MayRead}
use Rattle.chain_store.specs.Reads.{ReadsOnly}
use Rattle.chain_store.specs.declared.chains.Chains.{Chains}
use Rattle.chain_store.proofs.Counted.{reads_call, reads_nothing, reads_on, reads_wider}
use Rattle.bucket_store.specs.Buckets.{chain_at}
use Rattle.bucket_store.specs.Reads.{IsAskedChain, IsKey, ReadsKeys}
use Rattle.bucket_store.specs.Transaction.{bucket_at, chains_of}
use Rattle.bucket_store.specs.declared.buckets.Buckets.{Buckets}

module _ {D : Type 0} {g : Ghosts D} where
  pub keys_call : (end which key : ℕ) (old new : Buckets D g)
      → MayRead end (bucket_at old which key) (read_of (chains_of old)) (read_of (chains_of new)) (disk_of (chains_of old))
      (disk_of (chains_of new))
      → ReadsKeys (IsKey which key) old new
  keys_call end which key old new may =
      reads_wider (λ n. n ≡ bucket_at old which key) (IsAskedChain (IsKey which key) old) (chains_of old) (chains_of new)
      (λ n same. (which, key, (refl, refl), same)) (reads_call end (bucket_at old which key) (chains_of old) (chains_of new) may)

  pub keys_none : (May : ℕ → ℕ → Type 0) (buckets : Buckets D g) → ReadsKeys May buckets buckets
  keys_none May buckets = reads_nothing (IsAskedChain May buckets) (chains_of buckets)

  -- the chains are as they were
  pub keys_same : (May : ℕ → ℕ → Type 0) (old new : Buckets D g) → chains_of new ≡ chains_of old → ReadsKeys May old new
  keys_same May old new same =
      subst (λ (chains : Chains D g). ReadsOnly (IsAskedChain May old) (chains_of old) chains) (sym same)
      (reads_nothing (IsAskedChain May old) (chains_of old))

  pub keys_wider : (May More : ℕ → ℕ → Type 0) (old new : Buckets D g) → ((which key : ℕ) → May which key → More which key)
      → ReadsKeys May old new
      → ReadsKeys More old new
  keys_wider May More old new wider reads =
      reads_wider (IsAskedChain May old) (IsAskedChain More old) (chains_of old) (chains_of new)
      (λ n asked. (asked.0, asked.1, wider asked.0 asked.1 asked.2, asked.3)) reads

  pub keys_then : (May : ℕ → ℕ → Type 0) (old mid new : Buckets D g) → OnlyRead (chains_of old) (chains_of mid) → ReadsKeys May old mid
      → ReadsKeys May mid new
      → ReadsKeys May old new
  keys_then May old mid new stays first second =
      let back : (n : ℕ) → IsAskedChain May mid n → IsAskedChain May old n = λ n asked.
      (asked.0, asked.1, asked.2, asked.3 ∙ (λ i. chain_at (stays.root i).buckets asked.0 asked.1)) in
      reads_wider (λ n. IsAskedChain May old n ⊎ IsAskedChain May old n) (IsAskedChain May old) (chains_of old) (chains_of new)
      (λ n either. elim either [ inl one ↦ one | inr other ↦ other ])
      (reads_on (IsAskedChain May old) (IsAskedChain May old) (chains_of old) (chains_of mid) (chains_of new) first
      (reads_wider (IsAskedChain May mid) (IsAskedChain May old) (chains_of mid) (chains_of new) back second))
