use Rattle.store_maps.specs.Asked.{row_key}
use Rattle.row_store.specs.Maps.{map_of}
use Rattle.row_store.proofs.TurnCalls.{takes_err, takes_ok}
use Rattle.row_store.proofs.tables.keep_none.Goals as goal

pub returns-in-Ok-clause-bytes : goal.returns-in-Ok-clause-bytes
returns-in-Ok-clause-bytes g c =
    takes_ok (map_of c.args.key.kind) (row_key c.args.key.kind c.args.key.id) c.args.buckets.now c.remove.new.buckets c.in-Ok.field-0
    c.in-Ok.ensures.value

pub returns-in-Err-clause-bytes : goal.returns-in-Err-clause-bytes
returns-in-Err-clause-bytes g c =
    takes_err (map_of c.args.key.kind) (row_key c.args.key.kind c.args.key.id) c.args.buckets.now c.remove.new.buckets c.in-Err.fault
    c.in-Err.ensures.value
