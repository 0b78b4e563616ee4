use Rattle.std.proofs.Common.{take}
use Rattle.row_store.specs.Clearing.{Took}
use Rattle.row_store.specs.Loading.{Among}
use Rattle.value_bytes.specs.StoreMap.{map_number}
use Rattle.row_store.proofs.clearing.remove_all.Given as goal

-- the keys of the records so far were taken out
abbrev pub invariant-loop-key : goal.invariant-loop-key
invariant-loop-key g l = Took (map_number l.map) (Among (take l.key-index l.records)) l.initial.buckets l.buckets
