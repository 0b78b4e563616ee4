-- The maps of a store by their numbers in its format.
-- docs/FILES.md, "Buckets, and the eight maps".
use Rattle.std.specs.Prelude.{ℕ}
use Rattle.value_bytes.specs.declared.store_map.StoreMap.{StoreMap}
use Rattle.value_bytes.specs.declared.store_map.StoreMap.TheVariants.{Nodes, Ways, Relations, WaysOfBlocks, RelationsOfNodes}
use Rattle.value_bytes.specs.declared.store_map.StoreMap.TheVariants.{RelationsOfWays, NodeRows, OtherRows}

-- the number of a map
abbrev pub map_number : StoreMap → ℕ
map_number Nodes = 0
map_number Ways = 1
map_number Relations = 2
map_number WaysOfBlocks = 3
map_number RelationsOfNodes = 4
map_number RelationsOfWays = 5
map_number NodeRows = 6
map_number OtherRows = 7
