-- Where a store keeps the rows of an object: those of nodes in a map of their own, by their ids; those of ways and
-- relations in another, by twice the id of a way, and twice the id of a relation and 1.
use Rattle.std.specs.Prelude.{ℕ}
use Rattle.osm_base.specs.declared.values.key.Kind.{Kind}
use Rattle.value_bytes.specs.StoreMap.{map_number}
use Rattle.store_maps.specs.Asked.{row_map}

-- the number of the map
abbrev pub map_of : Kind → ℕ
map_of kind = map_number (row_map kind)
