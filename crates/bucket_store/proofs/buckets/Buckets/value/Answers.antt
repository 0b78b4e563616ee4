-- The bucket of a key has the key's value.
use Rattle.std.proofs.Common.{ℕ, ap, ◌∙◌}
use Rattle.std.specs.FinMap as map
use Rattle.bucket_records.specs.Records.{BucketMap}
use Rattle.bucket_store.specs.Buckets.{bucket_count, chain_at}
use Rattle.bucket_store.proofs.Holding.{found_value, has_bucket, some_at}
use Rattle.bucket_store.proofs.Openings.{content_own, there_own}
use Rattle.value_bytes.specs.StoreMap.{map_number}
use Rattle.value_bytes.proofs.MapNumbers.{map_number-below}
use Rattle.bucket_store.proofs.buckets.Buckets.value.Goals as goal

pub chain_of-requires : goal.chain_of-requires
chain_of-requires g c = record { some = some_at c.args.self.now (map_number c.args.map) c.args.key c.requires.there }

pub returns-clause-found : goal.returns-clause-found
returns-clause-found g c rest now has =
    let self = c.args.self.now in
    let at = chain_at (bucket_count self.chains) (map_number c.args.map) c.args.key in
    let own = has_bucket rest now self (map_number c.args.map) c.args.key (map_number-below c.args.map)
    (some_at self (map_number c.args.map) c.args.key c.requires.there) has in
    let there = there_own (map.get self.cache at) c.requires.there in
    let same = content_own has.pages self.chains (map.get self.cache at) at there.0 own.0 there.1 own.1 in
    found_value c.value.result (λ value. value.now) (map.get there.0.bucket.values c.args.key)
    (map.get (now.maps (map_number c.args.map)) c.args.key)
    (ap (λ (m : BucketMap). map.get m c.args.key) same ∙ own.2)
    (c.value.ensures.value there.0 (ap (λ (n : ℕ). map.get self.cache n) c.chain_of.ensures.chain ∙ there.1))
