-- What is asked of the eight maps of a store: keys, each of one map by its number.
-- docs/FILES.md, "Buckets": the maps and their keys.
use Rattle.std.specs.Prelude.{◌≡◌, ℕ, ◌+◌, ◌*◌, Bool, true, List, Option}
use Rattle.std.specs.List.{AllByRecursion}
use Rattle.osm_base.specs.declared.values.key.Kind.{Kind}
use Rattle.osm_base.specs.declared.values.key.Kind.TheVariants as kinds
use Rattle.osm_base.specs.declared.values.object.Object.{Object}
use Rattle.osm_base.specs.map.Known.{Question, WaysOfNode, RelationsOfNode, RelationsOfWay}
use Rattle.osm_base.specs.map.Listers.{listed}
use Rattle.osm_base.specs.values.Key.{KeyOf}
use Rattle.object_fold.specs.Listing.{listers}
use Rattle.value_bytes.specs.StoreMap.{map_number}
use Rattle.value_bytes.specs.declared.store_map.StoreMap.{StoreMap}
use Rattle.value_bytes.specs.declared.store_map.StoreMap.TheVariants as stored
use Rattle.store_maps.specs.Maps.{Maps, block_of}
use Rattle.store_maps.specs.Turns.{blocks_in, ids_for}

-- of a map and a key whether it may be asked
abbrev pub May : Type 0
May = ℕ → ℕ → Bool

-- a key of a map may be asked
abbrev pub MayKey : May → StoreMap → ℕ → Type 0
MayKey may own key = may (map_number own) key ≡ true

-- the map of the objects of a kind
abbrev pub object_map : Kind → StoreMap
object_map kinds.Node = stored.Nodes
object_map kinds.Way = stored.Ways
object_map kinds.Relation = stored.Relations

-- the map of their rows, and the key of the rows of one of them
abbrev pub row_map : Kind → StoreMap
row_map kinds.Node = stored.NodeRows
row_map kinds.Way = stored.OtherRows
row_map kinds.Relation = stored.OtherRows

abbrev pub row_key : Kind → ℕ → ℕ
row_key kinds.Node id = id
row_key kinds.Way id = 2 * id
row_key kinds.Relation id = 2 * id + 1

abbrev pub MayObject : May → KeyOf → Type 0
MayObject may own = MayKey may (object_map own.kind) own.id

abbrev pub MayRows : May → KeyOf → Type 0
MayRows may own = MayKey may (row_map own.kind) (row_key own.kind own.id)

-- each of these keys of a map
abbrev pub MayEach : May → ℕ → List ℕ → Type 0
MayEach may number keys = AllByRecursion (λ key. may number key ≡ true) keys

-- who lists what the object of a key lists
pub record MayList (may : May) (own : KeyOf) (object : Option Object) : Type 0 where
  pub ways_of_blocks : MayEach may (map_number stored.WaysOfBlocks) (ids_for kinds.Way blocks_in own.kind object)
  pub relations_of_nodes : MayEach may (map_number stored.RelationsOfNodes) (ids_for kinds.Relation (listed kinds.Node) own.kind object)
  pub relations_of_ways : MayEach may (map_number stored.RelationsOfWays) (ids_for kinds.Relation (listed kinds.Way) own.kind object)

-- what answers a question to the index: of the ways that list a node all those that list one of its block
abbrev pub MayAnswer : May → Maps → Question → Type 0
MayAnswer may maps (WaysOfNode id) = MayKey may stored.WaysOfBlocks (block_of id)
    × MayEach may (map_number stored.Ways) (listers maps.ways_of_blocks (block_of id))
MayAnswer may maps (RelationsOfNode id) = MayKey may stored.RelationsOfNodes id
MayAnswer may maps (RelationsOfWay id) = MayKey may stored.RelationsOfWays id
