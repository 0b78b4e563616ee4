-- What the maps of a store know of the objects of a map, and who they say lists a node or a way.
-- osm2pgsql manual, "Updating an Existing Database": what lists a changed object is processed again.
use Rattle.std.specs.Prelude.{◌≡◌, ℕ, true, Bool, Option, None, Some, IsSome}
use Rattle.std.specs.FinMap as finite
use Rattle.std.specs.List.{filter}
use Rattle.osm_base.specs.declared.values.key.Kind.TheVariants as kinds
use Rattle.osm_base.specs.map.Known.{Index, Known}
use Rattle.osm_base.specs.map.Listers.{lists}
use Rattle.osm_base.specs.values.Place.{PlaceOf}
use Rattle.value_bytes.specs.declared.nodes.NodeRecord.{NodeRecord}
use Rattle.object_fold.specs.Listing.{is_listed, listers}
use Rattle.store_maps.specs.Maps.{Maps, block_of, object_in}

-- the place of a node
abbrev pub place_in : Option NodeRecord → Option PlaceOf
place_in None = None
place_in (Some kept) = kept.place

-- what the maps know: of a node with unknown tags its place, and no object
abbrev pub known_on : Maps → Known
known_on maps = record {
  place = λ id. place_in (finite.get maps.nodes id);
  object = λ own. object_in maps own.kind own.id;
  relations_of_way = listers maps.relations_of_ways;
  relations_of_node = listers maps.relations_of_nodes;
}

-- whether a way lists a node
abbrev pub list_it : Maps → ℕ → ℕ → Bool
list_it maps id way = lists kinds.Node id (finite.get maps.ways way)

-- who lists what: of the ways that list a node of the block those that list the node itself
abbrev pub index_on : Maps → Index
index_on maps = record {
  ways_of_node = λ id. filter (list_it maps id) (listers maps.ways_of_blocks (block_of id));
  relations_of_node = listers maps.relations_of_nodes;
  relations_of_way = listers maps.relations_of_ways;
}

-- each way that is said to list a node of a block is there
abbrev pub WaysAreThere : Maps → Type 0
WaysAreThere maps = (block way : ℕ) → is_listed maps.ways_of_blocks block way ≡ true → IsSome (finite.get maps.ways way)
