use Rattle.std.proofs.Common.{◌<◌, ◌-◌, ◌%◌}
use Rattle.row_store.specs.Clearing.{Took}
use Rattle.value_bytes.specs.StoreMap.{map_number}
use Rattle.row_store.proofs.clearing.clear_map.Given as goal

-- the buckets so far have nothing
abbrev pub invariant-loop-bucket : goal.invariant-loop-bucket
invariant-loop-bucket g l = Took (map_number l.map) (λ key. key % l.count < l.bucket) l.initial.buckets l.buckets

abbrev pub decreases-loop-bucket : goal.decreases-loop-bucket
decreases-loop-bucket g l = l.count - l.bucket
