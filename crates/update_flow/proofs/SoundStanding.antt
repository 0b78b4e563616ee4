-- What stands for a state is a sound store.
use Rattle.std.proofs.Common.{◌≡◌, inl, inr, ℕ, Bool, List, [], ◌∷◌, Option, Some, None, refl, sym, ap, subst, ◌∙◌}
use Rattle.std.specs.Prelude.{IsSome}
use Rattle.std.specs.FinMap as finite
use Rattle.std.specs.List.{AllByRecursion}
use Rattle.std.specs.Option.{option_map, unwrap_or}
use Rattle.osm_base.specs.declared.values.key.Kind.{Kind}
use Rattle.osm_base.specs.declared.values.key.Kind.TheVariants as kinds
use Rattle.osm_base.specs.declared.values.object.Object.{Object}
use Rattle.osm_base.specs.declared.values.object.Object.TheVariants.{Node, Way, Relation}
use Rattle.osm_base.specs.declared.values.row.TableRow.{TableRow}
use Rattle.osm_base.specs.map.Listers.{listed}
use Rattle.osm_base.specs.map.Objects.{ObjectSet, place_in}
use Rattle.osm_base.specs.values.Ids.{has}
use Rattle.osm_base.specs.values.Key.{IsId, KeyOf, node_key, way_key, relation_key}
use Rattle.osm_base.specs.values.Tags.{TagMap}
use Rattle.style_read.specs.Style.{StyleOf}
use Rattle.object_fold.specs.Listings.{HasIds}
use Rattle.row_rules.specs.Condition.{reaches_nodes}
use Rattle.row_rules.specs.Rows.{rows_in}
use Rattle.value_bytes.specs.declared.nodes.NodeRecord.{NodeRecord}
use Rattle.bucket_store.specs.Image.{Image}
use Rattle.store_maps.specs.Maps.{Maps, kept_rows, rows_at, unless_empty}
use Rattle.store_maps.specs.Stands.{HoldsNode, HoldsTags, Stands, StandsOn}
use Rattle.store_maps.specs.Turns.{blocks_in, listed_by, told_by}
use Rattle.store_maps.proofs.Listings.{retold}
use Rattle.store_check.specs.Kept.{HoldsMaps}
use Rattle.update_flow.specs.Stands.{IsImported, StandsFor}
use Rattle.update_flow.specs.State.{Holding, formatted, imported}
use Rattle.store_check.specs.Maps.{HasSoundMapsOf}
use Rattle.update_flow.specs.Sound.{IsSound, IsSoundImport}
use Rattle.store_check.specs.Values.{AreRightRows, ByTags, IfUnknown, IsPlaced, bare, objects_of}
use Rattle.store_check.proofs.ObjectSets.{get_node, get_way, get_relation}
use Rattle.store_check.proofs.Right.{holds_node, proper_at}
use Rattle.store_check.proofs.SameRows.{rows_placed, same_rows}
use Rattle.store_check.proofs.Sound.{known_at, node_there}

-- a node, and what is kept of it

place_kept : (reaches : Bool) (found : Option NodeRecord) (object : Option Object) → HoldsNode reaches found object
    → place_in object ≡ place_in (option_map bare found)
place_kept reaches None None holds = refl
place_kept reaches None (Some object) holds = absurd holds
place_kept reaches (Some own) None holds = absurd holds
place_kept reaches (Some own) (Some (Node place tags)) holds = sym holds.0
place_kept reaches (Some own) (Some (Way nodes tags)) holds = absurd holds
place_kept reaches (Some own) (Some (Relation members tags)) holds = absurd holds

pub none_kept : (reaches : Bool) (object : Option Object) → HoldsNode reaches None object → object ≡ None
none_kept reaches None holds = refl
none_kept reaches (Some object) holds = absurd holds

tags_kept : (reaches : Bool) (kept : Option TagMap) (known tags : TagMap) → kept ≡ Some known → HoldsTags reaches kept tags
    → tags ≡ unwrap_or kept finite.empty
tags_kept reaches None known tags is holds = absurd (cc)
tags_kept reaches (Some kept) known tags is holds = sym holds

pub known_kept : (reaches : Bool) (own : NodeRecord) (known : TagMap) (object : Option Object) → own.tags ≡ Some known
    → HoldsNode reaches (Some own) object → object ≡ Some (bare own)
known_kept reaches own known None is holds = absurd holds
known_kept reaches own known (Some (Way nodes tags)) is holds = absurd holds
known_kept reaches own known (Some (Relation members tags)) is holds = absurd holds
known_kept reaches own known (Some (Node place tags)) is holds =
    λ i. Some (Node (sym holds.0 i) (tags_kept reaches own.tags known tags is holds.1 i))

node_kept : (reaches : Bool) (own : NodeRecord) (object : Option Object) → HoldsNode reaches (Some own) object
    → (tags : TagMap) × (object ≡ Some (Node own.place tags))
node_kept reaches own None holds = absurd holds
node_kept reaches own (Some (Way nodes tags)) holds = absurd holds
node_kept reaches own (Some (Relation members tags)) holds = absurd holds
node_kept reaches own (Some (Node place tags)) holds = (tags, λ i. Some (Node (sym holds.0 i) tags))

some_kept : (reaches : Bool) (found : Option NodeRecord) (object : Option Object) → HoldsNode reaches found object
    → IsSome (option_map bare found) → IsSome object
some_kept reaches None object holds some = absurd (cc)
some_kept reaches (Some own) object holds some = node_there reaches own object holds

kept_again : (rows : List TableRow) → kept_rows (unless_empty rows) ≡ rows
kept_again [] = refl
kept_again (row ∷ rows) = refl

module _ (style : StyleOf) (image : Image) (objects : ObjectSet) (maps : Maps) (kept : HoldsMaps style.tables image.maps maps)
    (stand : Stands style maps objects) where
  abbrev reaches : Bool
  reaches = reaches_nodes style

  abbrev own : ObjectSet
  own = objects_of maps.nodes maps.ways maps.relations

  abbrev holds : (id : ℕ) → HoldsNode reaches (finite.get maps.nodes id) (finite.get objects (node_key id))
  holds = stand.on.objects.nodes

  nodes_own : (id : ℕ) → finite.get own (node_key id) ≡ option_map bare (finite.get maps.nodes id)
  nodes_own = get_node maps.nodes maps.ways maps.relations

  places : (id : ℕ) → place_in (finite.get objects (node_key id)) ≡ place_in (finite.get own (node_key id))
  places id = place_kept reaches (finite.get maps.nodes id) (finite.get objects (node_key id)) (holds id) ∙ ap place_in (sym (nodes_own id))

  ways : (id : ℕ) → finite.get objects (way_key id) ≡ finite.get own (way_key id)
  ways id = sym (stand.on.objects.ways id) ∙ sym (get_way maps.nodes maps.ways maps.relations id)

  relations : (id : ℕ) → finite.get objects (relation_key id) ≡ finite.get own (relation_key id)
  relations id = sym (stand.on.objects.relations id) ∙ sym (get_relation maps.nodes maps.ways maps.relations id)

  same_key : (key : KeyOf) → finite.get objects key ≡ finite.get own key → rows_in style objects key ≡ rows_in style own key
  same_key = same_rows style objects own places ways relations

  on_own : StandsOn reaches maps own
  on_own = record {
    objects = record {
      nodes = λ id. subst (λ (found : Option Object). HoldsNode reaches (finite.get maps.nodes id) found) (sym (nodes_own id))
          (holds_node reaches (finite.get maps.nodes id)
          (known_at style (finite.get maps.nodes id) (finite.get objects (node_key id)) (holds id)));
      ways = λ id. sym (get_way maps.nodes maps.ways maps.relations id);
      relations = λ id. sym (get_relation maps.nodes maps.ways maps.relations id);
    };
    index = record {
      ways_of_blocks = retold maps.ways_of_blocks (told_by kinds.Way blocks_in objects) (told_by kinds.Way blocks_in own)
          (λ id by. ap (λ found. has (listed_by blocks_in found) id) (ways by)) stand.on.index.ways_of_blocks;
      relations_of_nodes = retold maps.relations_of_nodes (told_by kinds.Relation (listed kinds.Node) objects)
          (told_by kinds.Relation (listed kinds.Node) own)
          (λ id by. ap (λ found. has (listed_by (listed kinds.Node) found) id) (relations by))
          stand.on.index.relations_of_nodes;
      relations_of_ways = retold maps.relations_of_ways (told_by kinds.Relation (listed kinds.Way) objects)
          (told_by kinds.Relation (listed kinds.Way) own)
          (λ id by. ap (λ found. has (listed_by (listed kinds.Way) found) id) (relations by))
          stand.on.index.relations_of_ways;
    };
    proper = record { kinds = λ key. proper_at image maps.nodes maps.ways maps.relations kept.ways kept.relations key.kind key.id };
  }

  as_own : (key : KeyOf) → finite.get objects key ≡ finite.get own key
      → rows_at maps key.kind key.id ≡ unless_empty (rows_in style own key)
  as_own key same = stand.rows.at key.kind key.id ∙ ap unless_empty (same_key key same)

  module _ (id : ℕ) where
    abbrev rows : Option (List TableRow)
    rows = rows_at maps kinds.Node id

    abbrev Here : Option NodeRecord → Type 0
    Here found = IfUnknown found (λ place. AllByRecursion (IsPlaced style.tables place) (kept_rows rows))
        (rows ≡ unless_empty (rows_in style own (node_key id)))

    placed : (found : NodeRecord) → HoldsNode reaches (Some found) (finite.get objects (node_key id))
        → AllByRecursion (IsPlaced style.tables found.place) (kept_rows rows)
    placed found is =
        let node = node_kept reaches found (finite.get objects (node_key id)) is in
        subst (AllByRecursion (IsPlaced style.tables found.place))
        (sym (ap kept_rows (stand.rows.at kinds.Node id) ∙ kept_again (rows_in style objects (node_key id))))
        (rows_placed style objects id found.place node.0 node.1)

    node_rows : (found : Option NodeRecord) → finite.get maps.nodes id ≡ found → HoldsNode reaches found (finite.get objects (node_key id))
        → Here found
    node_rows None there is =
        as_own (node_key id) (none_kept reaches (finite.get objects (node_key id)) is ∙ sym (nodes_own id ∙ ap (option_map bare) there))
    node_rows (Some found) there is =
        elim found.tags as (λ tags. found.tags ≡ tags → ByTags tags (AllByRecursion (IsPlaced style.tables found.place) (kept_rows rows))
        (rows ≡ unless_empty (rows_in style own (node_key id)))) [
          | None ↦ λ none. placed found is
          | Some tags ↦ λ known. as_own (node_key id) (known_kept reaches found tags (finite.get objects (node_key id)) known is
              ∙ sym (nodes_own id ∙ ap (option_map bare) there))
        ] refl

  rows_own : (kind : Kind) (id : ℕ) → AreRightRows style maps.nodes own (record { kind = kind; id = id }) (rows_at maps kind id)
  rows_own kinds.Node id = node_rows id (finite.get maps.nodes id) refl (holds id)
  rows_own kinds.Way id = as_own (way_key id) (ways id)
  rows_own kinds.Relation id = as_own (relation_key id) (relations id)

  sound_maps : HasSoundMapsOf style own image
  sound_maps = record { maps = maps; kept = kept; own = refl; on = on_own; rows = rows_own }

  module _ (ids : HasIds objects) where
    id_at : (kind : Kind) (id : ℕ) → IsSome (finite.get own (record { kind = kind; id = id })) → IsId id
    id_at kinds.Node id there = ids (node_key id)
        (some_kept reaches (finite.get maps.nodes id) (finite.get objects (node_key id)) (holds id)
        (subst IsSome (nodes_own id) there))
    id_at kinds.Way id there = ids (way_key id) (subst IsSome (sym (ways id)) there)
    id_at kinds.Relation id there = ids (relation_key id) (subst IsSome (sym (relations id)) there)

    ids_own : HasIds own
    ids_own key there = id_at key.kind key.id there

-- a store that was only made

-- an imported one holds the objects of its maps: of a node whose tags nobody knows the one without tags
abbrev pub own_of : (held : Holding) (image : Image) → IsImported held image → Holding
own_of held image is = record held { objects = objects_of is.maps.maps.nodes is.maps.maps.ways is.maps.maps.relations }

pub import_sound : (image : Image) (held : Holding) (is : IsImported held image) → IsSoundImport (own_of held image is) image
import_sound image held is =
    let maps = is.maps in
    record {
      root = is.root;
      counted = is.counted;
      some = is.some;
      power = is.power;
      few = is.few;
      style_text = is.style_text;
      style = is.style;
      due = is.due;
      others = is.others;
      ids = ids_own held.style image held.objects maps.maps maps.kept maps.stand is.ids;
      maps = sound_maps held.style image held.objects maps.maps maps.kept maps.stand;
    }

-- whatever stands for a store that was made, or for an imported one
pub blank_is_sound : (bytes : List ℕ) → StandsFor bytes formatted → IsSound bytes
unfolding StandsFor
blank_is_sound bytes stands = record { image = stands.0; has = stands.2; is = inl stands.1 }

pub import_is_sound : (bytes : List ℕ) (held : Holding) → StandsFor bytes (imported held) → IsSound bytes
unfolding StandsFor
import_is_sound bytes held stands = record { image = stands.0; has = stands.2; is = inr (own_of held stands.0 stands.1, import_sound stands.0 held stands.1) }
