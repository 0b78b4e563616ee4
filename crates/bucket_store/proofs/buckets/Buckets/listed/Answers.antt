-- The bucket of a key has its records.
use Rattle.std.proofs.Common.{ℕ, ap, ◌∙◌}
use Rattle.std.specs.FinMap as map
use Rattle.bucket_records.specs.Records.{BucketMap}
use Rattle.bucket_store.specs.Buckets.{bucket_count, chain_at}
use Rattle.bucket_store.proofs.Caches.{if_ok}
use Rattle.bucket_store.proofs.Holding.{has_part, some_at}
use Rattle.bucket_store.proofs.Openings.{content_own, there_own}
use Rattle.value_bytes.specs.StoreMap.{map_number}
use Rattle.value_bytes.proofs.MapNumbers.{map_number-below}
use Rattle.bucket_store.proofs.buckets.Buckets.listed.Goals as goal

pub chain_of-requires : goal.chain_of-requires
chain_of-requires g c = record { some = some_at c.args.self.now (map_number c.args.map) c.args.key c.requires.there }

pub returns-clause-records : goal.returns-clause-records
returns-clause-records g c =
    let self = c.args.self.now in
    let at = chain_at (bucket_count self.chains) (map_number c.args.map) c.args.key in
    let there = there_own (map.get self.cache at) c.requires.there in
    let here = ap (λ (n : ℕ). map.get self.cache n) c.chain_of.ensures.chain ∙ there.1 in
    if_ok c.records.result _ _ c.records.ensures.records (λ records is pages values content.
    is there.0 here ∙ ap (λ (m : BucketMap). map.entries m)
    (content_own pages self.chains (map.get self.cache at) at there.0 values there.1 content))

pub returns-clause-found : goal.returns-clause-found
returns-clause-found g c =
    let self = c.args.self.now in
    let at = chain_at (bucket_count self.chains) (map_number c.args.map) c.args.key in
    let there = there_own (map.get self.cache at) c.requires.there in
    let here = ap (λ (n : ℕ). map.get self.cache n) c.chain_of.ensures.chain ∙ there.1 in
    if_ok c.records.result _ _ c.records.ensures.records (λ records is rest now has.
    let own = has_part rest now self (map_number c.args.map) c.args.key (map_number-below c.args.map)
    (some_at self (map_number c.args.map) c.args.key c.requires.there) has in
    record {
      own = own.0;
      part = own.2;
      are = is there.0 here
          ∙ ap (λ (m : BucketMap). map.entries m) (content_own has.pages self.chains
          (map.get self.cache at) at there.0 own.0 there.1 own.1);
    })
