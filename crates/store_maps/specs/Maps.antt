-- The eight finite maps of a store, their values read.
-- osm2pgsql manual, "Slim mode": what is kept between a run and the next is nodes, ways and relations, and who lists what; beside them
-- stand
-- the rows of the tables.
use Rattle.std.specs.Prelude.{ℕ, ◌+◌, ◌*◌, ◌/◌, List, [], ◌∷◌, Option, None, Some}
use Rattle.std.specs.FinMap as finite
use Rattle.std.specs.Option.{option_map}
use Rattle.std.specs.Ordering.{nat_cmp}
use Rattle.osm_base.specs.declared.values.key.Kind.{Kind}
use Rattle.osm_base.specs.declared.values.key.Kind.TheVariants as kinds
use Rattle.osm_base.specs.declared.values.object.Object.{Object}
use Rattle.osm_base.specs.declared.values.object.Object.TheVariants.{Node}
use Rattle.osm_base.specs.declared.values.row.TableRow.{TableRow}
use Rattle.osm_base.specs.values.Key.{KeyOf}
use Rattle.value_bytes.specs.declared.nodes.NodeRecord.{NodeRecord}
use Rattle.object_fold.specs.Listing.{ListingOf}
use Rattle.store_maps.specs.declared.store.TheConstants.{BLOCK}

-- the rows of objects by a number for each
abbrev pub RowMap : Type 0
RowMap = finite.FinMap nat_cmp (List TableRow)

-- what is kept of nodes, the ways and the relations, each by id; the ids of the ways that list a node of a block, those of the relations
-- that
-- have a node as a member, and those that have a way; the rows of nodes, and the rows of ways and relations
pub record Maps : Type 0 where
  pub nodes : finite.FinMap nat_cmp NodeRecord
  pub ways : finite.FinMap nat_cmp Object
  pub relations : finite.FinMap nat_cmp Object
  pub ways_of_blocks : ListingOf
  pub relations_of_nodes : ListingOf
  pub relations_of_ways : ListingOf
  pub node_rows : RowMap
  pub other_rows : RowMap

-- no value in any map
abbrev pub empty_maps : Maps
empty_maps = record {
  nodes = finite.empty;
  ways = finite.empty;
  relations = finite.empty;
  ways_of_blocks = finite.empty;
  relations_of_nodes = finite.empty;
  relations_of_ways = finite.empty;
  node_rows = finite.empty;
  other_rows = finite.empty;
}

-- the value of a key is now this one, or there is none
abbrev pub set : {X : Type 0} → finite.FinMap nat_cmp X → ℕ → Option X → finite.FinMap nat_cmp X
set values key None = finite.remove values key
set values key (Some value) = finite.insert values key value

-- the block of a node
abbrev pub block_of : ℕ → ℕ
block_of id = id / BLOCK

-- what is kept of an object that is a node
abbrev pub record_of : Object → Option NodeRecord
record_of (Node place tags) = Some (record { place = place; tags = Some tags })
record_of _ = None

abbrev pub node_record : Option Object → Option NodeRecord
node_record None = None
node_record (Some object) = record_of object

-- the node that is kept so, where its tags are known
abbrev pub node_in : Option NodeRecord → Option Object
node_in None = None
node_in (Some kept) = option_map (λ tags. Node kept.place tags) kept.tags

-- the object of a key; of a node with unknown tags none
abbrev pub object_in : Maps → Kind → ℕ → Option Object
object_in maps kinds.Node id = node_in (finite.get maps.nodes id)
object_in maps kinds.Way id = finite.get maps.ways id
object_in maps kinds.Relation id = finite.get maps.relations id

-- the way or the relation of a key; of a node none
abbrev pub way_or_relation_in : Maps → Kind → ℕ → Option Object
way_or_relation_in maps kinds.Node id = None
way_or_relation_in maps kinds.Way id = finite.get maps.ways id
way_or_relation_in maps kinds.Relation id = finite.get maps.relations id

-- the object of a key is now this one, or there is none
abbrev pub set_object : Maps → Kind → ℕ → Option Object → Maps
set_object maps kinds.Node id object = record maps { nodes = set maps.nodes id (node_record object) }
set_object maps kinds.Way id object = record maps { ways = set maps.ways id object }
set_object maps kinds.Relation id object = record maps { relations = set maps.relations id object }

-- the rows of a key: a node's by its id, a way's by twice its id, a relation's by one more than that
abbrev pub rows_at : Maps → Kind → ℕ → Option (List TableRow)
rows_at maps kinds.Node id = finite.get maps.node_rows id
rows_at maps kinds.Way id = finite.get maps.other_rows (2 * id)
rows_at maps kinds.Relation id = finite.get maps.other_rows (2 * id + 1)

-- these, if there is at least one
abbrev pub unless_empty : {X : Type 0} → List X → Option (List X)
unless_empty [] = None
unless_empty (first ∷ rest) = Some (first ∷ rest)

-- a key has these rows now
abbrev pub set_rows : Maps → Kind → ℕ → List TableRow → Maps
set_rows maps kinds.Node id rows = record maps { node_rows = set maps.node_rows id (unless_empty rows) }
set_rows maps kinds.Way id rows = record maps { other_rows = set maps.other_rows (2 * id) (unless_empty rows) }
set_rows maps kinds.Relation id rows = record maps { other_rows = set maps.other_rows (2 * id + 1) (unless_empty rows) }

-- all rows of a key
abbrev pub kept_rows : Option (List TableRow) → List TableRow
kept_rows None = []
kept_rows (Some rows) = rows

abbrev pub all_kept : Maps → KeyOf → List TableRow
all_kept maps own = kept_rows (rows_at maps own.kind own.id)
