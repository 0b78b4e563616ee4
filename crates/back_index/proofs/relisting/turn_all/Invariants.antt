use Rattle.std.proofs.Common.{map, take}
use Rattle.std.specs.List.{AllByRecursion}
use Rattle.bucket_store.specs.Image.{Has, Image}
use Rattle.bucket_store.specs.Transaction.{IsReady}
use Rattle.value_bytes.specs.StoreMap.{map_number}
use Rattle.store_maps.specs.Asked.{May, MayEach}
use Rattle.back_index.specs.Reads.{HasReadOnly, ReadsBuckets}
use Rattle.back_index.specs.Relisting.{TurnsAt}
use Rattle.back_index.specs.Visits.{IsFine, OnlyMap, visit_of}
use Rattle.back_index.proofs.Chained.{StillAnswers}
use Rattle.back_index.proofs.relisting.turn_all.Given as goal

-- the lists of the ids so far are turned
abbrev pub invariant-loop-id : goal.invariant-loop-id
invariant-loop-id g l = record {
  ready : IsReady l.buckets;
  answers : StillAnswers l.initial.buckets l.buckets;
  reads : ReadsBuckets l.initial.buckets l.buckets;
  within : (may : May) → MayEach may (map_number l.map) l.ids → HasReadOnly may l.initial.buckets → HasReadOnly may l.buckets;
  turns : (rest now : Image) → Has rest now l.initial.buckets
      → (after : Image) × Has rest after l.buckets × OnlyMap (map_number l.map) now after
      × TurnsAt l.own l.old l.new (take l.id-index l.ids) (now.maps (map_number l.map)) (after.maps (map_number l.map));
  fine : (rest now : Image) → Has rest now l.initial.buckets
      → AllByRecursion (IsFine now l.own) (map (visit_of l.map l.old l.new) (take l.id-index l.ids));
}
