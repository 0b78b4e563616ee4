-- A key is taken out of its bucket, and the other buckets are as they were.
use Rattle.std.proofs.Common.{ℕ, sym, ap, subst, ◌∙◌, inl, inr}
use Rattle.std.specs.Option.{IsSome}
use Rattle.std.specs.FinMap as map
use Rattle.bucket_records.specs.Records.{BucketMap}
use Rattle.chain_store.specs.Chains.{read_of}
use Rattle.bucket_store.specs.Cache.{CacheMap, changed_to}
use Rattle.bucket_store.specs.Buckets.{AreBuckets, AreRead, bucket_count, bucket_in, chain_at}
use Rattle.bucket_store.specs.Transaction.{IsOpenWith}
use Rattle.bucket_store.specs.declared.cache.Cached.{Cached}
use Rattle.bucket_store.proofs.Once.{read_put}
use Rattle.bucket_store.proofs.Openings.{buckets_more, content_is, content_own, content_apart, content_same, keys_remove, never_changed}
use Rattle.bucket_store.proofs.Openings.{open_more, put_there, taken_own, there_own, took}
use Rattle.std.proofs.Common.{None, refl}
use Rattle.bucket_store.proofs.Holding.{has_bucket, has_changed, some_at}
use Rattle.std.specs.Option.{is_some}
use Rattle.value_bytes.specs.StoreMap.{map_number}
use Rattle.value_bytes.proofs.MapNumbers.{map_number-below}
use Rattle.bucket_store.proofs.buckets.Buckets.unset.Goals as goal

pub chain_of-n-requires : goal.chain_of-n-requires
chain_of-n-requires g c = record { some = some_at c.args.self.now (map_number c.args.map) c.args.key c.requires.there }

pub invariant_of-self : goal.invariant_of-self
invariant_of-self g c =
    let cache = c.args.self.now.cache in
    let n = c.chain_of-n.result in
    let count = bucket_count c.args.self.now.chains in
    let found = there_own (map.get cache n) (subst (λ (k : ℕ). IsSome (map.get cache k))
    (sym c.chain_of-n.ensures.chain) c.requires.there) in
    let own : Cached = changed_to found.0 (map.remove found.0.bucket.values c.args.key) in
    record {
      going = c.args.self.now.going;
      own = elim (took c.in-Ok.was cache c.remove.new.self n own (c.in-Ok.ensures.taken found.0 found.1) c.in-Ok.ensures.none) [
        | inl is ↦ buckets_more count cache c.remove.new.self n own is c.args.self.now.own c.chain_of-n.ensures.is
            (keys_remove count (bucket_in n) found.0.bucket.values c.args.key (c.args.self.now.own n found.0 found.1).1)
        | inr same ↦ subst (λ (m : CacheMap). AreBuckets count m) (sym same.1) c.args.self.now.own
      ];
      once = λ still. elim (took c.in-Ok.was cache c.remove.new.self n own (c.in-Ok.ensures.taken found.0 found.1) c.in-Ok.ensures.none) [
        | inl is ↦ read_put cache c.remove.new.self n own is (read_of c.args.self.now.chains)
            (subst (λ (k : ℕ). IsSome (map.get cache k)) (sym c.chain_of-n.ensures.chain) c.requires.there) (c.args.self.now.once still)
        | inr same ↦ subst (λ (m : CacheMap). AreRead (read_of c.args.self.now.chains) m) (sym same.1) (c.args.self.now.once still)
      ];
    }

pub returns-in-Ok-clause-taken : goal.returns-in-Ok-clause-taken
returns-in-Ok-clause-taken g c pages was values has =
    let cache = c.args.self.now.cache in
    let n = c.chain_of-n.result in
    let at = chain_at (bucket_count c.args.self.now.chains) (map_number c.args.map) c.args.key in
    let found = there_own (map.get cache n) (subst (λ (k : ℕ). IsSome (map.get cache k))
    (sym c.chain_of-n.ensures.chain) c.requires.there) in
    let own : Cached = changed_to found.0 (map.remove found.0.bucket.values c.args.key) in
    let here = ap (λ (k : ℕ). map.get cache k) (sym c.chain_of-n.ensures.chain) ∙ found.1 in
    let before = content_own pages c.args.self.now.chains (map.get cache at) at found.0 values here has in
    let is = c.in-Ok.ensures.was found.0 found.1 in (
      is ∙ ap (λ (m : BucketMap). map.contains_key m c.args.key) before,
      elim (took c.in-Ok.was cache c.remove.new.self n own (c.in-Ok.ensures.taken found.0 found.1) c.in-Ok.ensures.none) [
        | inl taken ↦
            content_is pages c.args.self.now.chains (map.get c.remove.new.self at) at own (map.remove values c.args.key)
            (ap (λ (k : ℕ). map.get c.remove.new.self k) (sym c.chain_of-n.ensures.chain) ∙ put_there cache c.remove.new.self n own taken)
            (ap (λ (m : BucketMap). map.remove m c.args.key) before)
        | inr same ↦
            content_is pages c.args.self.now.chains (map.get c.remove.new.self at) at found.0 (map.remove values c.args.key)
            (ap (λ (m : CacheMap). map.get m at) same.1 ∙ here)
            (taken_own found.0 c.args.key (sym is ∙ same.0) ∙ ap (λ (m : BucketMap). map.remove m c.args.key) before)
      ],
    )

pub returns-in-Ok-clause-others : goal.returns-in-Ok-clause-others
returns-in-Ok-clause-others g c pages was other values apart has =
    let cache = c.args.self.now.cache in
    let n = c.chain_of-n.result in
    let found = there_own (map.get cache n) (subst (λ (k : ℕ). IsSome (map.get cache k))
    (sym c.chain_of-n.ensures.chain) c.requires.there) in
    let own : Cached = changed_to found.0 (map.remove found.0.bucket.values c.args.key) in
    elim (took c.in-Ok.was cache c.remove.new.self n own (c.in-Ok.ensures.taken found.0 found.1) c.in-Ok.ensures.none) [
      | inl is ↦ content_apart pages c.args.self.now.chains cache c.remove.new.self n own other values is
          (λ same. apart (same ∙ c.chain_of-n.ensures.chain)) has
      | inr same ↦ content_same pages c.args.self.now.chains cache c.remove.new.self other values same.1 has
    ]

pub returns-in-Ok-clause-memory : goal.returns-in-Ok-clause-memory
returns-in-Ok-clause-memory g c =
    let cache = c.args.self.now.cache in
    let n = c.chain_of-n.result in
    let found = there_own (map.get cache n) (subst (λ (k : ℕ). IsSome (map.get cache k))
    (sym c.chain_of-n.ensures.chain) c.requires.there) in
    let own : Cached = changed_to found.0 (map.remove found.0.bucket.values c.args.key) in
    record {
      opens = λ pages was. elim (took c.in-Ok.was cache c.remove.new.self n own
          (c.in-Ok.ensures.taken found.0 found.1) c.in-Ok.ensures.none) [
            | inl is ↦ open_more pages c.args.self.now.chains cache c.remove.new.self n own is (λ same. absurd (never_changed same))
                (was.origins n found.0 found.1) was
            | inr same ↦ subst (λ (m : CacheMap). IsOpenWith pages c.args.self.now.chains m) (sym same.1) was
          ];
      chains = refl;
      refused = c.requires.going;
    }

pub returns-in-Ok-clause-has : goal.returns-in-Ok-clause-has
returns-in-Ok-clause-has g c rest now has =
    let own = has_bucket rest now c.args.self.now (map_number c.args.map) c.args.key (map_number-below c.args.map)
    (some_at c.args.self.now (map_number c.args.map) c.args.key c.requires.there) has in (
      (returns-in-Ok-clause-taken g c has.pages has.opens own.0 own.1).0 ∙ ap (λ o. is_some o) own.2,
      has_changed rest now c.args.self.now _ (map_number c.args.map) c.args.key None (map_number-below c.args.map)
          (some_at c.args.self.now (map_number c.args.map) c.args.key c.requires.there) refl refl has.whole
          (returns-in-Ok-clause-memory g c).opens (λ pages was values content. (returns-in-Ok-clause-taken g c pages was values content).1)
          (returns-in-Ok-clause-others g c) has,
    )
