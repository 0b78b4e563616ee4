use Rattle.std.proofs.Common.{◌≡◌, Some, take}
use Rattle.std.specs.FinMap as finite
use Rattle.std.specs.List.{AllByRecursion}
use Rattle.value_bytes.specs.StoreMap.{map_number}
use Rattle.bucket_store.specs.Image.{Has, Image}
use Rattle.store_check.specs.Judged.{IsAmong, SeesRows, Tells, rows_map}
use Rattle.store_check.specs.Values.{NodeMap, ObjectMap}
use Rattle.store_check.specs.Finds.{Saw}
use Rattle.store_check.proofs.row_records.judge_records.Given as goal

-- the rows of the records so far were judged, and the store was only read
abbrev pub invariant-loop-number : goal.invariant-loop-number
invariant-loop-number g l = record {
  saw : Saw l.initial.reading l.reading;
  sees : (rest : Image) → Has rest rest l.initial.reading.buckets.now → (nodes : NodeMap) (ways relations : ObjectMap)
      → Tells l.held rest nodes ways relations
      → AllByRecursion (λ one. finite.get (rest.maps (map_number l.source.map)) one.0 ≡ Some one.1) l.records
      → SeesRows l.style rest nodes ways relations (rows_map l.source.map) (IsAmong l.source.map (take l.number-index l.records)) l.initial.wrong
      l.wrong;
}
