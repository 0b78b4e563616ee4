use Rattle.std.proofs.Common.{◌-◌, ◌<◌, ◌≤◌, ℕ}
use Rattle.object_fold.specs.Listings.{HasIds}
use Rattle.bucket_store.specs.Image.{Has, Image}
use Rattle.value_bytes.specs.StoreMap.{map_number}
use Rattle.value_bytes.specs.declared.store_map.StoreMap.{StoreMap}
use Rattle.store_check.specs.Held.{IsHeldOf}
use Rattle.store_check.specs.Values.{NodeMap, ObjectMap, ReadsObjects, objects_of}
use Rattle.store_check.specs.Wrong.{IsRightIn}
use Rattle.store_check.specs.Finds.{Saw}
use Rattle.store_check.proofs.searching.wrong_behind.Given as goal

-- each value of the maps so far is right, and the store was only read
abbrev pub invariant-loop-map : goal.invariant-loop-map
invariant-loop-map g l = record {
  some : 3 ≤ l.number;
  few : l.number ≤ 8;
  saw : Saw l.initial.reading l.reading;
  right : (rest : Image) → Has rest rest l.initial.reading.buckets.now → (nodes : NodeMap) (ways relations : ObjectMap)
      → ReadsObjects rest nodes ways relations → HasIds (objects_of nodes ways relations) → IsHeldOf nodes ways relations l.held → (map : StoreMap) → 3 ≤ map_number map
      → map_number map < l.number → (key : ℕ) → IsRightIn l.style rest nodes ways relations map key;
}

abbrev pub decreases-loop-map : goal.decreases-loop-map
decreases-loop-map g l = 8 - l.number
