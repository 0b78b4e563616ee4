-- The place that was read is put with unknown tags.
use Rattle.chain_store.specs.Chains.{first_of}
use Rattle.bucket_store.specs.Transaction.{chains_of}
use Rattle.bucket_store.specs.Typed.{bucket_at}
use Rattle.value_bytes.specs.Forms.{IsNoValue}
use Rattle.middle_nodes.specs.Old.{IsOldPlace, old_bytes}
use Rattle.value_bytes.specs.StoreMap.{map_number}
use Rattle.value_bytes.specs.declared.store_map.StoreMap.TheVariants.{Nodes}
use Rattle.std.proofs.Common.{◌≡◌}
use Rattle.back_index.specs.Calls.{page_in}
use Rattle.back_index.proofs.Chained.{sound_result}
use Rattle.back_index.proofs.Reading.{on_ok}
use Rattle.update_flow.proofs.Migrations.{once_key, refuses_value, renews_once, value_once}
use Rattle.update_flow.proofs.maps.migrating.renew.Goals as goal

pub returns-in-Ok-clause-renews : goal.returns-in-Ok-clause-renews
returns-in-Ok-clause-renews g c =
    on_ok (Unit {0}) _ _ c.put.result
    (λ has rest now owns. (c.in-Ok.place, c.in-Ok.ensures.place.is, c.in-Ok.ensures.place.bytes_are, has rest now owns))
    c.put.ensures.value.has

pub returns-in-Ok-clause-once : goal.returns-in-Ok-clause-once
returns-in-Ok-clause-once g c =
    renews_once
    (once_key (map_number Nodes) c.args.id c.args.buckets.now c.put.new.buckets c.put.result c.put.ensures.touches)
    (λ rest now owns given.
    sound_result (Unit {0}) (λ at. IsNoValue old_bytes IsOldPlace c.args.bytes.now
    × (at ≡ page_in c.args.buckets.now (map_number Nodes) c.args.id))
    c.put.result
    (c.put.ensures.value.sound rest now owns))

pub returns-in-Err-clause-once : goal.returns-in-Err-clause-once
returns-in-Err-clause-once g c =
    renews_once
    (value_once c.args.buckets.now c.refuse_value.new.buckets
    (first_of (chains_of c.args.buckets.now) (bucket_at c.args.buckets.now (map_number Nodes) c.args.id))
    c.refuse_value.ensures.chains c.refuse_value.ensures.refused c.refuse_value.ensures.same c.in-Err.fault c.refuse_value.result
    c.refuse_value.ensures.refusal)
    (λ rest now owns given.
    refuses_value (IsNoValue old_bytes IsOldPlace c.args.bytes.now)
    (page_in c.args.buckets.now (map_number Nodes) c.args.id) c.in-Err.fault c.refuse_value.result
    c.refuse_value.ensures.refusal c.in-Err.ensures.refused)
