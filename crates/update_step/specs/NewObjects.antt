-- The objects that a change makes of a map without any.
-- osm2pgsql manual, "Preparing OSM Data": the objects of a file come in order, nodes first, then ways, then relations, each by rising id.
use Rattle.std.specs.Prelude.{List, fold, if◌then◌else◌}
use Rattle.std.specs.FinMap as finite
use Rattle.osm_base.specs.declared.values.key.Kind.TheVariants.{Relation}
use Rattle.osm_base.specs.declared.values.object.Entry.{Entry}
use Rattle.osm_base.specs.map.Listers.{is_kind}
use Rattle.osm_base.specs.map.Objects.{ObjectSet, folded}

-- what an entry of a relation makes of objects
abbrev pub relation_folded : ObjectSet → Entry → ObjectSet
relation_folded objects entry = if is_kind Relation entry.key.kind then folded objects entry else objects

-- the relations among what the entries make
abbrev pub relations_folded : List Entry → ObjectSet
relations_folded entries = fold relation_folded finite.empty entries
