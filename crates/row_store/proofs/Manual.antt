-- The maps and the numbers in them that the description of the store's file names.
use Rattle.std.proofs.Common.{◌≡◌, refl}
use Rattle.osm_base.specs.declared.values.key.Kind.TheVariants as kinds
use Rattle.row_store.specs.Maps.{map_of}
use Rattle.store_maps.specs.Asked.{row_key}

-- the rows of nodes are in map 6
pub map_of-node : map_of kinds.Node ≡ 6
map_of-node = refl

-- those of ways and of relations in map 7
pub map_of-way : map_of kinds.Way ≡ 7
map_of-way = refl

pub map_of-relation : map_of kinds.Relation ≡ 7
map_of-relation = refl

-- node 5 has the number 5 there, way 5 has 10, and relation 5 has 11
pub row_key-node : row_key kinds.Node 5 ≡ 5
row_key-node = refl

pub row_key-way : row_key kinds.Way 5 ≡ 10
row_key-way = refl

pub row_key-relation : row_key kinds.Relation 5 ≡ 11
row_key-relation = refl
