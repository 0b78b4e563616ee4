-- The maps that the description of the store's file names.
use Rattle.std.proofs.Common.{◌≡◌, refl}
use Rattle.osm_base.specs.declared.values.key.Kind.TheVariants as kinds
use Rattle.middle_objs.specs.Maps.{map_of}

-- ways are in map 1
pub map_of-way : map_of kinds.Way ≡ 1
map_of-way = refl

-- relations are in map 2
pub map_of-relation : map_of kinds.Relation ≡ 2
map_of-relation = refl
