-- A value is set in the bucket of its key where that is there; else all is as it was, and the bucket is read first.
use Rattle.std.proofs.Common.{◌≡◌, ◌≢◌, ◌%◌, ℕ, List, Ok, Some, refl, sym, ap, subst, ◌∙◌, inl, inr}
use Rattle.std.specs.Option.{MatchOption}
use Rattle.std.specs.FinMap as map
use Rattle.bucket_records.specs.Records.{BucketMap}
use Rattle.chain_store.specs.Chains.{read_of}
use Rattle.bucket_store.specs.Buckets.{AreBuckets, AreRead, Stored, bucket_count, bucket_in}
use Rattle.bucket_store.specs.Cache.{CacheMap, changed_to}
use Rattle.bucket_store.specs.declared.cache.Cached.{Cached}
use Rattle.bucket_store.specs.Transaction.{Content, IsOpenStore, bucket_at}
use Rattle.bucket_store.proofs.Caches.{true_is_some}
use Rattle.bucket_store.proofs.Frames.{sets_same, touches_after, touches_none}
use Rattle.bucket_store.proofs.Once.{read_put}
use Rattle.bucket_store.proofs.Openings.{bucket_in-chain_at, buckets_more, content_is, content_own, content_apart, keys_put, never_changed}
use Rattle.bucket_store.proofs.Openings.{open_more, put_there, some_of, there_own}
use Rattle.bucket_store.proofs.Holding.{has_changed}
use Rattle.bucket_store.proofs.Settings.{set_or_same}
use Rattle.value_bytes.specs.StoreMap.{map_number}
use Rattle.value_bytes.proofs.MapNumbers.{map_number-below}
use Rattle.bucket_store.proofs.buckets.Buckets.put.Goals as goal

pub invariant_of-self : goal.invariant_of-self
invariant_of-self g c =
    let cache = c.args.self.now.cache in
    let n = c.chain_of-chain.result in
    let count = bucket_count c.args.self.now.chains in
    let place : c.args.key % count ≡ bucket_in n =
    sym (bucket_in-chain_at count (map_number c.args.map) c.args.key c.requires.ready.some c.args.self.now.chains.few)
    ∙ ap (λ (k : ℕ). bucket_in k) (sym c.chain_of-chain.ensures.chain) in
    let after = set_or_same c.in-Ok.there cache c.put.new.self n c.args.key c.args.value.now c.in-Ok.ensures.there c.in-Ok.ensures.ok
    c.in-Ok.ensures.none in
    record {
      going = c.args.self.now.going;
      own = elim after [
        | inl one ↦ buckets_more count cache c.put.new.self n
            (changed_to one.0 (map.insert one.0.bucket.values c.args.key c.args.value.now)) one.2
            c.args.self.now.own c.chain_of-chain.ensures.is
            (keys_put count (bucket_in n) one.0.bucket.values c.args.key c.args.value.now (c.args.self.now.own n one.0 one.1).1 place)
        | inr same ↦ subst (λ (m : CacheMap). AreBuckets count m) (sym same) c.args.self.now.own
      ];
      once = λ still. elim after [
        | inl one ↦ read_put cache c.put.new.self n (changed_to one.0 (map.insert one.0.bucket.values c.args.key c.args.value.now)) one.2
            (read_of c.args.self.now.chains) (some_of (map.get cache n) one.0 one.1) (c.args.self.now.once still)
        | inr same ↦ subst (λ (m : CacheMap). AreRead (read_of c.args.self.now.chains) m) (sym same) (c.args.self.now.once still)
      ];
    }

pub returns-then-there-clause-value : goal.returns-then-there-clause-value
returns-then-there-clause-value g c =
    let self = c.args.self.now in
    let cache = self.cache in
    let n = c.chain_of-chain.result in
    let at = bucket_at self (map_number c.args.map) c.args.key in
    let found = there_own (map.get cache n) (true_is_some c.in-Ok.there (map.get cache n) c.in-Ok.ensures.there c.if-there.true) in
    let own : Cached = changed_to found.0 (map.insert found.0.bucket.values c.args.key c.args.value.now) in
    let is = c.in-Ok.ensures.ok found.0 found.1 in
    let put : (pages : List (List ℕ)) → IsOpenStore pages self → (values : BucketMap) → Content pages self at values
    → MatchOption (map.get c.put.new.self at) (Stored pages self.chains at (map.insert values c.args.key c.args.value.now))
    (λ it. it.bucket.values ≡ map.insert values c.args.key c.args.value.now) =
    λ pages was values has.
    let here = ap (λ (k : ℕ). map.get cache k) (sym c.chain_of-chain.ensures.chain) ∙ found.1 in
    let before = content_own pages self.chains (map.get cache at) at found.0 values here has in
    let there = ap (λ (k : ℕ). map.get c.put.new.self k) (sym c.chain_of-chain.ensures.chain) ∙ put_there cache c.put.new.self n own is in
    content_is pages self.chains (map.get c.put.new.self at) at own (map.insert values c.args.key c.args.value.now) there
    (ap (λ (m : BucketMap). map.insert m c.args.key c.args.value.now) before) in
    let others : (pages : List (List ℕ)) → IsOpenStore pages self → (other : ℕ) (values : BucketMap) → other ≢ at
    → Content pages self other values
    → MatchOption (map.get c.put.new.self other) (Stored pages self.chains other values) (λ it. it.bucket.values ≡ values) =
    λ pages was other values apart has.
    content_apart pages self.chains cache c.put.new.self n own other values is
    (λ same. apart (same ∙ c.chain_of-chain.ensures.chain)) has in
    record {
      answers = λ pages was. tt;
      here = put;
      others = others;
      has = λ rest now has.
          has_changed rest now self _ (map_number c.args.map) c.args.key (Some c.args.value.now)
          (map_number-below c.args.map) c.requires.ready.some refl refl has.whole
          (λ pages was. open_more pages self.chains cache c.put.new.self n own is (λ same. absurd (never_changed same))
          (was.origins n found.0 found.1) was)
          put others has;
      sound = λ rest now has. tt;
    }

pub returns-then-there-clause-touches : goal.returns-then-there-clause-touches
returns-then-there-clause-touches g c =
    let self = c.args.self.now in
    let n = c.chain_of-chain.result in
    let at = bucket_at self (map_number c.args.map) c.args.key in
    let found = there_own (map.get self.cache n)
    (true_is_some c.in-Ok.there (map.get self.cache n) c.in-Ok.ensures.there c.if-there.true) in
    let own : Cached = changed_to found.0 (map.insert found.0.bucket.values c.args.key c.args.value.now) in
    touches_after at self self _ _ (Ok tt) (touches_none at self at c.requires.ready.going) refl
    (λ pages was.
    open_more pages self.chains self.cache c.put.new.self n own (c.in-Ok.ensures.ok found.0 found.1) (λ same. absurd (never_changed same))
    (was.origins n found.0 found.1) was)
    c.requires.ready.going tt refl

pub returns-else-there-clause-value : goal.returns-else-there-clause-value
returns-else-there-clause-value g c =
    sets_same (map_number c.args.map) c.args.key c.args.value.now c.args.self.now _ c.bring_and_set.new.self c.bring_and_set.result refl
    (c.in-Ok.ensures.none c.if-there.false)
    c.bring_and_set.ensures.value
