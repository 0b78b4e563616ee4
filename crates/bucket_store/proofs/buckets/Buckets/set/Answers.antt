-- A value is set in the bucket of its key, and the other buckets are as they were.
use Rattle.std.proofs.Common.{◌≡◌, ◌%◌, ℕ, sym, ap, subst, ◌∙◌}
use Rattle.std.specs.Option.{IsSome}
use Rattle.std.specs.FinMap as map
use Rattle.bucket_records.specs.Records.{BucketMap}
use Rattle.bucket_store.specs.Buckets.{bucket_count, bucket_in, chain_at}
use Rattle.bucket_store.specs.Cache.{changed_to}
use Rattle.bucket_store.specs.declared.cache.Cached.{Cached}
use Rattle.bucket_store.proofs.Once.{read_put}
use Rattle.bucket_store.proofs.Openings.{bucket_in-chain_at, buckets_more, content_is, content_own, content_apart, keys_put, never_changed}
use Rattle.bucket_store.proofs.Openings.{open_more, put_there, there_own}
use Rattle.std.proofs.Common.{Some, refl}
use Rattle.bucket_store.proofs.Holding.{has_changed, some_at}
use Rattle.value_bytes.specs.StoreMap.{map_number}
use Rattle.value_bytes.proofs.MapNumbers.{map_number-below}
use Rattle.bucket_store.proofs.buckets.Buckets.set.Goals as goal

pub chain_of-n-requires : goal.chain_of-n-requires
chain_of-n-requires g c = record { some = some_at c.args.self.now (map_number c.args.map) c.args.key c.requires.there }

pub invariant_of-self : goal.invariant_of-self
invariant_of-self g c =
    let cache = c.args.self.now.cache in
    let n = c.chain_of-n.result in
    let count = bucket_count c.args.self.now.chains in
    let found = there_own (map.get cache n) (subst (λ (k : ℕ). IsSome (map.get cache k))
    (sym c.chain_of-n.ensures.chain) c.requires.there) in
    let own : Cached = changed_to found.0 (map.insert found.0.bucket.values c.args.key c.args.value.now) in
    let place : c.args.key % count ≡ bucket_in n =
    sym (bucket_in-chain_at count (map_number c.args.map) c.args.key
    (some_at c.args.self.now (map_number c.args.map) c.args.key c.requires.there) c.args.self.now.chains.few)
    ∙ ap (λ (k : ℕ). bucket_in k) (sym c.chain_of-n.ensures.chain) in
    record {
      going = c.args.self.now.going;
      once = λ still. read_put cache c.put.new.self n own (c.in-Ok.ensures.ok found.0 found.1) _
          (subst (λ (k : ℕ). IsSome (map.get cache k)) (sym c.chain_of-n.ensures.chain) c.requires.there) (c.args.self.now.once still);
      own = buckets_more count cache c.put.new.self n own (c.in-Ok.ensures.ok found.0 found.1) c.args.self.now.own c.chain_of-n.ensures.is
          (keys_put count (bucket_in n) found.0.bucket.values c.args.key c.args.value.now (c.args.self.now.own n found.0 found.1).1 place);
    }

pub returns-in-Ok-clause-put : goal.returns-in-Ok-clause-put
returns-in-Ok-clause-put g c pages was values has =
    let cache = c.args.self.now.cache in
    let n = c.chain_of-n.result in
    let at = chain_at (bucket_count c.args.self.now.chains) (map_number c.args.map) c.args.key in
    let found = there_own (map.get cache n) (subst (λ (k : ℕ). IsSome (map.get cache k))
    (sym c.chain_of-n.ensures.chain) c.requires.there) in
    let own : Cached = changed_to found.0 (map.insert found.0.bucket.values c.args.key c.args.value.now) in
    let here = ap (λ (k : ℕ). map.get cache k) (sym c.chain_of-n.ensures.chain) ∙ found.1 in
    let before = content_own pages c.args.self.now.chains (map.get cache at) at found.0 values here has in
    let there = ap (λ (k : ℕ). map.get c.put.new.self k) (sym c.chain_of-n.ensures.chain)
    ∙ put_there cache c.put.new.self n own (c.in-Ok.ensures.ok found.0 found.1) in
    content_is pages c.args.self.now.chains (map.get c.put.new.self at) at own (map.insert values c.args.key c.args.value.now) there
    (ap (λ (m : BucketMap). map.insert m c.args.key c.args.value.now) before)

pub returns-in-Ok-clause-others : goal.returns-in-Ok-clause-others
returns-in-Ok-clause-others g c pages was other values apart has =
    let cache = c.args.self.now.cache in
    let n = c.chain_of-n.result in
    let found = there_own (map.get cache n) (subst (λ (k : ℕ). IsSome (map.get cache k))
    (sym c.chain_of-n.ensures.chain) c.requires.there) in
    let own : Cached = changed_to found.0 (map.insert found.0.bucket.values c.args.key c.args.value.now) in
    content_apart pages c.args.self.now.chains cache c.put.new.self n own other values (c.in-Ok.ensures.ok found.0 found.1)
    (λ same. apart (same ∙ c.chain_of-n.ensures.chain)) has

pub returns-in-Ok-clause-memory : goal.returns-in-Ok-clause-memory
returns-in-Ok-clause-memory g c =
    let cache = c.args.self.now.cache in
    let n = c.chain_of-n.result in
    let found = there_own (map.get cache n) (subst (λ (k : ℕ). IsSome (map.get cache k))
    (sym c.chain_of-n.ensures.chain) c.requires.there) in
    let own : Cached = changed_to found.0 (map.insert found.0.bucket.values c.args.key c.args.value.now) in
    record {
      opens = λ pages was.
          open_more pages c.args.self.now.chains cache c.put.new.self n own (c.in-Ok.ensures.ok found.0 found.1)
          (λ same. absurd (never_changed same)) (was.origins n found.0 found.1) was;
      chains = refl;
      refused = c.requires.going;
    }

pub returns-in-Ok-clause-has : goal.returns-in-Ok-clause-has
returns-in-Ok-clause-has g c rest now has =
    has_changed rest now c.args.self.now _ (map_number c.args.map) c.args.key
    (Some c.args.value.now) (map_number-below c.args.map)
    (some_at c.args.self.now (map_number c.args.map) c.args.key c.requires.there) refl refl has.whole
    (returns-in-Ok-clause-memory g c).opens (returns-in-Ok-clause-put g c) (returns-in-Ok-clause-others g c) has
