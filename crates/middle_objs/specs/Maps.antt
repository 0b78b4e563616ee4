-- Which map of a store has the objects of a kind: one the ways, and one the relations. Nodes are kept elsewhere.
use Rattle.std.specs.Prelude.{ℕ}
use Rattle.osm_base.specs.declared.values.key.Kind.{Kind}
use Rattle.osm_base.specs.declared.values.key.Kind.TheVariants as kinds
use Rattle.value_bytes.specs.StoreMap.{map_number}
use Rattle.value_bytes.specs.declared.store_map.StoreMap.{StoreMap}
use Rattle.value_bytes.specs.declared.store_map.StoreMap.TheVariants.{Ways, Relations}

abbrev pub object_map : Kind → StoreMap
object_map kinds.Way = Ways
object_map _ = Relations

-- and its number
abbrev pub map_of : Kind → ℕ
map_of kind = map_number (object_map kind)
