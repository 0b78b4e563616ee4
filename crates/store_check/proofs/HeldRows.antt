-- The rows of a key out of what is held are those of an import of the objects.
use Rattle.std.proofs.Common.{◌≡◌, ℕ, List, [], ◌∷◌, length, Option, Some, None, refl, sym, ap, ◌∙◌}
use Rattle.std.specs.FinMap as finite
use Rattle.std.specs.List.{filter_map}
use Rattle.std.specs.Option.{option_map}
use Rattle.osm_base.specs.declared.values.key.Kind.{Kind}
use Rattle.osm_base.specs.declared.values.key.Kind.TheVariants as kinds
use Rattle.osm_base.specs.declared.values.object.Object.{Object}
use Rattle.osm_base.specs.declared.values.object.Object.TheVariants.{Node, Way, Relation}
use Rattle.osm_base.specs.map.Known.{Known}
use Rattle.osm_base.specs.map.Listers.{ids_of, known_of, lists}
use Rattle.osm_base.specs.map.Objects.{ObjectSet, place_in}
use Rattle.osm_base.specs.values.Key.{KeyOf, node_key, way_key, relation_key}
use Rattle.style_read.specs.Style.{StyleOf}
use Rattle.object_fold.proofs.IndexOf.{ids_of-rise}
use Rattle.object_fold.proofs.Listers.{has-ids_of}
use Rattle.object_fold.proofs.SortedIds.{same_rising}
use Rattle.row_rules.specs.Agree.{IsSameWay, SameNodes, SamePlaces, SameWays, Suffices}
use Rattle.row_rules.specs.Material.{Material, material_known, material_of, relations_with, selecting_among, selecting_tags}
use Rattle.row_rules.specs.Rows.{rows_below, rows_in, rows_known}
use Rattle.row_rules.proofs.Locality.{row_from-suffices}
use Rattle.style_read.specs.declared.style.TableDef.{TableDef}
use Rattle.std.specs.List.{slice_get}
use Rattle.value_bytes.specs.declared.nodes.NodeRecord.{NodeRecord}
use Rattle.store_check.specs.Held.{HeldOf, IsHeldOf, held_known}
use Rattle.store_check.specs.Judged.{known_with}
use Rattle.store_check.specs.Values.{NodeMap, ObjectMap, bare, objects_of}
use Rattle.store_check.proofs.ObjectSets.{get_node, get_way, get_relation}
use Rattle.store_check.proofs.SameRows.{all_ways}

-- this is known of the objects: the places of the nodes, the ways, the relations, and who lists what
pub record KnowsAll (known : Known) (objects : ObjectSet) : Type 0 where
  pub places : (id : ℕ) → known.place id ≡ place_in (finite.get objects (node_key id))
  pub ways : (id : ℕ) → known.object (way_key id) ≡ finite.get objects (way_key id)
  pub relations : (id : ℕ) → known.object (relation_key id) ≡ finite.get objects (relation_key id)
  pub of_way : (id : ℕ) → known.relations_of_way id ≡ ids_of kinds.Relation kinds.Way id objects
  pub of_node : (id : ℕ) → known.relations_of_node id ≡ ids_of kinds.Relation kinds.Node id objects

module _ (style : StyleOf) (known : Known) (objects : ObjectSet) (knows : KnowsAll known objects) (key : KeyOf)
    (own : known.object key ≡ finite.get objects key) where
  abbrev from : Material
  from = material_known style known key

  abbrev to : Material
  to = material_of style objects key

  same_places : (nodes : List ℕ) → SamePlaces from to nodes
  same_places [] = tt
  same_places (id ∷ nodes) = (knows.places id, same_places nodes)

  same_nodes : (object : Option Object) → SameNodes from to object
  same_nodes None = tt
  same_nodes (Some (Node place tags)) = tt
  same_nodes (Some (Way nodes tags)) = same_places nodes
  same_nodes (Some (Relation members tags)) = tt

  same_way : (id : ℕ) → IsSameWay from to (way_key id)
  same_way id = record { object = knows.ways id; nodes = same_nodes (known.object (way_key id)) }

  same_ways : (object : Option Object) → SameWays from to object
  same_ways None = tt
  same_ways (Some (Node place tags)) = tt
  same_ways (Some (Way nodes tags)) = tt
  same_ways (Some (Relation members tags)) = all_ways (IsSameWay from to) same_way members [] tt

  same_with : (kind : Kind) (id : ℕ)
      → relations_with known (record { kind = kind; id = id }) ≡ relations_with (known_of objects) (record { kind = kind; id = id })
  same_with kinds.Node id = knows.of_node id
  same_with kinds.Way id = knows.of_way id
  same_with kinds.Relation id = refl

  same_selecting : (number : ℕ) → from.selecting number ≡ to.selecting number
  same_selecting number =
      (λ i. selecting_among style.selections known.object (same_with key.kind key.id i) number)
      ∙ (λ i. filter_map (λ id. selecting_tags style.selections number (knows.relations id i)) (relations_with (known_of objects) key))

  suffices : (table : ℕ) (found : Option TableDef) → slice_get style.tables table ≡ found → Suffices style table key known objects
  suffices table None there = subst_none there
    where
      subst_none : slice_get style.tables table ≡ None → Suffices style table key known objects
      subst_none is = rw (is) tt
  suffices table (Some definition) there = rw (there) (record {
    object = own;
    nodes = same_nodes (known.object key);
    ways = same_ways (known.object key);
    selecting = λ names number. same_selecting number;
  })

  pub rows_same : rows_known style known key ≡ rows_in style objects key
  unfolding rows_known rows_in
  rows_same = λ i. rows_below
      (λ table. row_from-suffices style table key known objects (suffices table (slice_get style.tables table) refl) i) (length style.tables)

-- so it is with what is held
module _ (nodes : NodeMap) (ways relations : ObjectMap) (own : HeldOf) (held : IsHeldOf nodes ways relations own) where
  abbrev objects : ObjectSet
  objects = objects_of nodes ways relations

  pub way_held : (id : ℕ) → finite.get own.ways id ≡ finite.get objects (way_key id)
  way_held id = ap (λ (all : ObjectMap). finite.get all id) held.ways_are ∙ sym (get_way nodes ways relations id)

  relation_there : (id : ℕ) → finite.get own.members (relation_key id) ≡ finite.get objects (relation_key id)
  relation_there id = held.members_are id ∙ sym (get_relation nodes ways relations id)

  pub relation_held : (id : ℕ) → finite.get own.relations id ≡ finite.get objects (relation_key id)
  relation_held id = ap (λ (all : ObjectMap). finite.get all id) held.relations_are ∙ sym (get_relation nodes ways relations id)

  same_lists : (kind : Kind) (id : ℕ) → ids_of kinds.Relation kind id own.members ≡ ids_of kinds.Relation kind id objects
  same_lists kind id =
      same_rising (ids_of kinds.Relation kind id own.members) (ids_of kinds.Relation kind id objects)
      (ids_of-rise own.members kinds.Relation kind id) (ids_of-rise objects kinds.Relation kind id) (λ by.
      has-ids_of own.members kinds.Relation kind id by ∙ ap (lists kind id) (relation_there by)
      ∙ sym (has-ids_of objects kinds.Relation kind id by))

  held_knows : KnowsAll (held_known own) objects
  held_knows = record {
    places = λ id. held.places_are id ∙ ap place_in (sym (get_node nodes ways relations id));
    ways = way_held;
    relations = relation_there;
    of_way = same_lists kinds.Way;
    of_node = same_lists kinds.Node;
  }

  with_knows : (own_node : Option Object) → KnowsAll (known_with own own_node) objects
  with_knows own_node = record {
    places = held_knows.places;
    ways = way_held;
    relations = relation_there;
    of_way = held_knows.of_way;
    of_node = held_knows.of_node;
  }

  pub way_rows : (style : StyleOf) (id : ℕ)
      → rows_known style (held_known own) (way_key id) ≡ rows_in style objects (way_key id)
  way_rows style id = rows_same style (held_known own) objects held_knows (way_key id) (way_held id)

  pub relation_rows : (style : StyleOf) (id : ℕ)
      → rows_known style (held_known own) (relation_key id) ≡ rows_in style objects (relation_key id)
  relation_rows style id = rows_same style (held_known own) objects held_knows (relation_key id) (relation_there id)

  pub node_rows : (style : StyleOf) (id : ℕ) (node : NodeRecord) → finite.get nodes id ≡ Some node
      → rows_known style (known_with own (Some (bare node))) (node_key id) ≡ rows_in style objects (node_key id)
  node_rows style id node there = rows_same style (known_with own (Some (bare node))) objects (with_knows (Some (bare node))) (node_key id)
      (sym (get_node nodes ways relations id ∙ ap (option_map bare) there))
