-- What stands in the bucket, once it is brought, stood in it before.
use Rattle.bucket_store.specs.Transaction.{bucket_at, chains_of}
use Rattle.bucket_store.proofs.TypedLaws.{gets_refused, value_found, value_refused, value_unbrought}
use Rattle.chain_store.specs.Chains.{first_of}
use Rattle.value_bytes.specs.Nodes.{record_bytes, IsRecord}
use Rattle.value_bytes.specs.StoreMap.{map_number}
use Rattle.value_bytes.specs.declared.store_map.StoreMap.TheVariants.{Nodes}
use Rattle.middle_nodes.proofs.calls.get.Goals as goal

pub returns-in-Err-clause-value : goal.returns-in-Err-clause-value
returns-in-Err-clause-value g c =
    value_unbrought record_bytes IsRecord (map_number Nodes) c.args.id c.args.buckets.now c.bring.new.self c.in-Err.fault
    c.in-Err.ensures.brings

pub returns-in-Ok-clause-value : goal.returns-in-Ok-clause-value
returns-in-Ok-clause-value g c =
    value_found record_bytes IsRecord (λ bytes. bytes.now) (map_number Nodes) c.args.id c.args.buckets.now c.bring.new.self c.value.result
    c.in_default.ensures.brings
    c.value.ensures.found c.in-Ok.found c.in-Ok.ensures.reads

pub returns-in-Err-read-clause-answers : goal.returns-in-Err-read-clause-answers
returns-in-Err-read-clause-answers g c =
    let done = c.in_default.ensures in
    gets_refused record_bytes IsRecord (λ bytes. bytes.now)
    (map_number Nodes) c.args.id c.args.buckets.now c.bring.new.self c.value.result done.brings
    done.touches.stays c.value.ensures.value c.in-Err-read.fault c.in-Err-read.ensures.reads c.refuse_value.result
    c.refuse_value.ensures.refusal

pub returns-in-Err-read-clause-value : goal.returns-in-Err-read-clause-value
returns-in-Err-read-clause-value g c =
    let refused = c.refuse_value.ensures in
    value_refused record_bytes IsRecord (λ bytes. bytes.now) (map_number Nodes) c.args.id c.args.buckets.now c.bring.new.self c.value.result
    c.in_default.ensures.brings
    c.refuse_value.new.buckets refused.chains refused.cached c.value.ensures.found c.in-Err-read.fault c.in-Err-read.ensures.reads
    c.refuse_value.result (first_of (chains_of c.bring.new.self) (bucket_at c.bring.new.self (map_number Nodes) c.args.id)) refused.refusal
