-- What an object is, and the tags that it has.
-- osmium manual, "OSM Data": nodes, ways and relations have tags.
use Rattle.std.specs.Prelude.{Bool}
use Rattle.osm_base.specs.declared.values.key.Kind.{Kind}
use Rattle.osm_base.specs.declared.values.key.Kind.TheVariants as kinds
use Rattle.osm_base.specs.declared.values.object.Object.{Object}
use Rattle.osm_base.specs.declared.values.object.Object.TheVariants.{Node, Way, Relation}
use Rattle.osm_base.specs.map.Listers.{is_kind}
use Rattle.osm_base.specs.values.Tags.{TagMap}

-- the tags of an object
abbrev pub tags_of : Object → TagMap
tags_of (Node place tags) = tags
tags_of (Way nodes tags) = tags
tags_of (Relation members tags) = tags

-- the kind of an object
abbrev pub kind_of : Object → Kind
kind_of (Node place tags) = kinds.Node
kind_of (Way nodes tags) = kinds.Way
kind_of (Relation members tags) = kinds.Relation

-- whether an object is of a kind
abbrev pub is_of_kind : Kind → Object → Bool
is_of_kind kind object = is_kind kind (kind_of object)
