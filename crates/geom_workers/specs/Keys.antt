-- The keys that wait, by number: the nodes, then the ways, then the relations, each by rising id.
use Rattle.std.specs.Prelude.{ℕ, List, ◌++◌, map, slice_index_or}
use Rattle.osm_base.specs.map.Pending.{PendingOf}
use Rattle.osm_base.specs.values.Key.{KeyOf, node_key, relation_key, way_key}

abbrev pub keys_of : PendingOf → List KeyOf
keys_of pending = map node_key pending.nodes ++ (map way_key pending.ways ++ map relation_key pending.relations)

-- the key with a number
abbrev pub key_at : PendingOf → ℕ → KeyOf
key_at pending number = slice_index_or (keys_of pending) number (node_key 0)
