-- What the maps of a store stand for.
-- osm2pgsql manual, "Slim mode" and "Updating an Existing Database": the middle tables hold the objects as the last change left them, and
-- the
-- tables of the output what an import of these objects would make.
use Rattle.std.specs.Prelude.{◌≡◌, ℕ, Bool, false, List, Option, None, Some, IfSome}
use Rattle.std.specs.FinMap as finite
use Rattle.osm_base.specs.declared.values.key.Kind.{Kind}
use Rattle.osm_base.specs.declared.values.key.Kind.TheVariants as kinds
use Rattle.osm_base.specs.declared.values.object.Object.{Object}
use Rattle.osm_base.specs.declared.values.object.Object.TheVariants.{Node}
use Rattle.osm_base.specs.declared.values.row.TableRow.{TableRow}
use Rattle.osm_base.specs.map.Listers.{listed}
use Rattle.osm_base.specs.map.Objects.{ObjectSet}
use Rattle.osm_base.specs.values.Key.{KeyOf, node_key, relation_key, way_key}
use Rattle.osm_base.specs.values.Tags.{TagMap}
use Rattle.style_read.specs.Style.{StyleOf}
use Rattle.value_bytes.specs.declared.nodes.NodeRecord.{NodeRecord}
use Rattle.object_fold.specs.Change.{IsOfKind}
use Rattle.row_rules.specs.Condition.{reaches_nodes}
use Rattle.row_rules.specs.Rows.{rows_in}
use Rattle.store_maps.specs.Maps.{Maps, rows_at, unless_empty}
use Rattle.store_maps.specs.Turns.{IsListing, blocks_in, told_by}

-- the tags are known, or nobody asks for them: selections do not reach nodes
abbrev pub HoldsTags : Bool → Option TagMap → TagMap → Type 0
HoldsTags reaches None tags = reaches ≡ false
HoldsTags reaches (Some known) tags = known ≡ tags

-- what is kept of a node is that of the object
abbrev pub HoldsNode : Bool → Option NodeRecord → Option Object → Type 0
HoldsNode reaches None None = Unit {0}
HoldsNode reaches (Some kept) (Some (Node place tags)) = (kept.place ≡ place) × HoldsTags reaches kept.tags tags
HoldsNode reaches _ _ = ⊥

-- each object is of its key's kind
pub record AreProper (objects : ObjectSet) : Type 0 where
  pub kinds : (own : KeyOf) → IfSome (finite.get objects own) (λ object. IsOfKind own.kind object)

-- the nodes, the ways and the relations are those of the objects
pub record HoldsObjects (reaches : Bool) (maps : Maps) (objects : ObjectSet) : Type 0 where
  pub nodes : (id : ℕ) → HoldsNode reaches (finite.get maps.nodes id) (finite.get objects (node_key id))
  pub ways : (id : ℕ) → finite.get maps.ways id ≡ finite.get objects (way_key id)
  pub relations : (id : ℕ) → finite.get maps.relations id ≡ finite.get objects (relation_key id)

-- who lists what is what the objects list
pub record HoldsIndex (maps : Maps) (objects : ObjectSet) : Type 0 where
  pub ways_of_blocks : IsListing maps.ways_of_blocks (told_by kinds.Way blocks_in objects)
  pub relations_of_nodes : IsListing maps.relations_of_nodes (told_by kinds.Relation (listed kinds.Node) objects)
  pub relations_of_ways : IsListing maps.relations_of_ways (told_by kinds.Relation (listed kinds.Way) objects)

-- all maps but those of rows stand for these objects
pub record StandsOn (reaches : Bool) (maps : Maps) (own : ObjectSet) : Type 0 where
  pub objects : HoldsObjects reaches maps own
  pub index : HoldsIndex maps own
  pub proper : AreProper own

-- each key has these rows
pub record HoldsRows (maps : Maps) (rows : KeyOf → List TableRow) : Type 0 where
  pub at : (kind : Kind) (id : ℕ) → rows_at maps kind id ≡ unless_empty (rows (record { kind = kind; id = id }))

-- the maps stand for these objects under a style: its rows are those that an import of the objects makes
pub record Stands (style : StyleOf) (maps : Maps) (objects : ObjectSet) : Type 0 where
  pub on : StandsOn (reaches_nodes style) maps objects
  pub rows : HoldsRows maps (rows_in style objects)
