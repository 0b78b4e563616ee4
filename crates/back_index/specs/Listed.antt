-- What an object lists in each map of the index: a way the blocks of its nodes, and a relation its nodes and its ways.
use Rattle.std.specs.Prelude.{ℕ, List, []}
use Rattle.osm_base.specs.declared.values.key.Kind.{Kind}
use Rattle.osm_base.specs.declared.values.key.Kind.TheVariants as kinds
use Rattle.osm_base.specs.declared.values.object.Entry.{Entry}
use Rattle.osm_base.specs.declared.values.object.Object.{Object}
use Rattle.osm_base.specs.map.Listers.{listed}
use Rattle.store_maps.specs.Filling.{entries_tell}
use Rattle.store_maps.specs.Turns.{Told, blocks_in, ids_for}
use Rattle.value_bytes.specs.declared.store_map.StoreMap.{StoreMap}
use Rattle.value_bytes.specs.declared.store_map.StoreMap.TheVariants.{WaysOfBlocks, RelationsOfNodes, RelationsOfWays}

-- the ids that are listed; in another map none are
abbrev pub ids_in : StoreMap → Object → List ℕ
ids_in WaysOfBlocks = blocks_in
ids_in RelationsOfNodes = listed kinds.Node
ids_in RelationsOfWays = listed kinds.Way
ids_in _ = λ object. []

-- of which kind those are that list them
abbrev pub lister_in : StoreMap → Kind
lister_in WaysOfBlocks = kinds.Way
lister_in _ = kinds.Relation

-- what the map is told of the object of an entry, and of the objects of all entries
abbrev pub entry_ids : StoreMap → Entry → List ℕ
entry_ids own entry = ids_for (lister_in own) (ids_in own) entry.key.kind entry.object

abbrev pub map_told : StoreMap → List Entry → Told
map_told own entries = entries_tell (lister_in own) (ids_in own) entries
