-- The bucket of a key is there, and then the key is taken out of it.
use Rattle.bucket_store.proofs.Frames.{takes_then}
use Rattle.value_bytes.specs.StoreMap.{map_number}
use Rattle.bucket_store.proofs.buckets.Buckets.remove.Goals as goal

pub returns-in-Ok-clause-value : goal.returns-in-Ok-clause-value
returns-in-Ok-clause-value g c =
    let done = c.in_default.ensures in
    takes_then (map_number c.args.map) c.args.key c.args.self.now c.bring.new.self c.unset.new.self done.touches done.brings c.in-Ok.was
    c.in-Ok.ensures.taken c.in-Ok.ensures.others c.in-Ok.ensures.has
