-- The relations that a change replaces, as they were.
-- osm2pgsql manual, "The Flex Output", "Stages": what a relation selected before the change is processed again too.
use Rattle.std.specs.Prelude.{if◌then◌else◌}
use Rattle.osm_base.specs.declared.values.key.Kind.TheVariants as kinds
use Rattle.osm_base.specs.declared.values.object.Entry.{Entry}
use Rattle.osm_base.specs.map.Listers.{is_kind}
use Rattle.osm_base.specs.map.Objects.{ObjectSet, with_object}
use Rattle.store_maps.specs.Maps.{Maps, way_or_relation_in}

-- with the relation of an entry's key, as the maps have it
abbrev pub with_old : Maps → ObjectSet → Entry → ObjectSet
with_old maps objects entry =
    if is_kind kinds.Relation entry.key.kind then with_object objects entry.key (way_or_relation_in maps entry.key.kind entry.key.id)
    else objects
