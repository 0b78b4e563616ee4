-- The maps of a store have the numbers from 0 to 7.
use Rattle.std.proofs.Common.{◌<◌, arith}
use Rattle.value_bytes.specs.StoreMap.{map_number}
use Rattle.value_bytes.specs.declared.store_map.StoreMap.{StoreMap}
use Rattle.value_bytes.specs.declared.store_map.StoreMap.TheVariants.{Nodes, Ways, Relations, WaysOfBlocks, RelationsOfNodes}
use Rattle.value_bytes.specs.declared.store_map.StoreMap.TheVariants.{RelationsOfWays, NodeRows, OtherRows}

pub map_number-below : (map : StoreMap) → map_number map < 8
map_number-below Nodes = omega (arith)
map_number-below Ways = omega (arith)
map_number-below Relations = omega (arith)
map_number-below WaysOfBlocks = omega (arith)
map_number-below RelationsOfNodes = omega (arith)
map_number-below RelationsOfWays = omega (arith)
map_number-below NodeRows = omega (arith)
map_number-below OtherRows = omega (arith)
