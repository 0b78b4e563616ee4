use Rattle.std.proofs.Common.{◌≡◌, List, ℕ, take}
use Rattle.std.specs.List.{AllByRecursion, filter}
use Rattle.std.specs.FinMap as finite
use Rattle.osm_base.specs.values.Key.{IsId}
use Rattle.bucket_store.specs.Image.{Has, Image}
use Rattle.bucket_store.specs.Transaction.{IsReady}
use Rattle.store_maps.specs.Asked.{May, MayEach}
use Rattle.store_maps.specs.Maps.{Maps}
use Rattle.store_maps.specs.Named.{list_it}
use Rattle.back_index.specs.Index.{HasNodes, HoldsWays}
use Rattle.back_index.specs.Reads.{HasReadOnly, ReadsBuckets}
use Rattle.value_bytes.specs.StoreMap.{map_number}
use Rattle.value_bytes.specs.declared.store_map.StoreMap.TheVariants.{Ways}
use Rattle.back_index.proofs.Chained.{StillAnswers}
use Rattle.back_index.proofs.candidates.ways_with.Given as goal

-- of the ways so far those are found that list the node
abbrev pub invariant-loop-way : goal.invariant-loop-way
invariant-loop-way g l = record {
  ready : IsReady l.buckets;
  answers : StillAnswers l.initial.buckets l.buckets;
  has_still : (rest now : Image) → Has rest now l.initial.buckets → Has rest now l.buckets;
  ids : AllByRecursion IsId l.found.items;
  reads : ReadsBuckets l.initial.buckets l.buckets;
  within : (may : May) → MayEach may (map_number Ways) l.ways → HasReadOnly may l.initial.buckets → HasReadOnly may l.buckets;
  fine : (rest now : Image) → Has rest now l.initial.buckets
      → AllByRecursion (λ way. (nodes : List ℕ) × HasNodes (finite.get (now.maps (map_number Ways)) way) nodes) (take l.way-index l.ways);
  filtered : (rest now : Image) → Has rest now l.initial.buckets → (maps : Maps) → HoldsWays now maps
      → l.found.items ≡ filter (list_it maps l.node) (take l.way-index l.ways);
}
