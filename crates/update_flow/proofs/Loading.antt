-- The rows that are read of a store's maps are those of the tables.
use Rattle.std.proofs.Common.{◌≡◌, ℕ, List, [], Option, Some, None, refl, sym, ap, subst, ◌∙◌}
use Rattle.std.specs.Prelude.{if◌then◌else◌}
use Rattle.std.specs.List.{AllByRecursion}
use Rattle.std.specs.Option.{IsSome, option_map}
use Rattle.std.specs.FinMap as map
use Rattle.osm_base.proofs.SpotOrder.{spot_cmp_total, spot_cmp-IsAntisymmetric}
use Rattle.osm_base.specs.declared.values.key.Kind.{Kind}
use Rattle.osm_base.specs.declared.values.key.Kind.TheVariants as kinds
use Rattle.osm_base.specs.declared.values.row.Row.{Row}
use Rattle.osm_base.specs.declared.values.row.Row.{Row}
use Rattle.osm_base.specs.declared.values.row.TableRow.{TableRow}
use Rattle.osm_base.specs.map.Listers.{known_of}
use Rattle.osm_base.specs.map.Objects.{ObjectSet}
use Rattle.osm_base.specs.map.Spots.{TableMap}
use Rattle.osm_base.specs.values.Key.{IsId, KeyOf, node_key, relation_key, way_key}
use Rattle.style_read.specs.Style.{StyleOf}
use Rattle.row_rules.specs.Row.{tables}
use Rattle.row_rules.specs.Rows.{rows_in, rows_known}
use Rattle.row_rules.proofs.TableRows.{rows_known-none}
use Rattle.object_fold.specs.Listings.{HasIds}
use Rattle.value_bytes.specs.Maps.{HoldsMap}
use Rattle.bucket_records.specs.Records.{BucketMap}
use Rattle.row_store.specs.Loading.{AreTold, Fills, is_wanted}
use Rattle.row_store.specs.Rows.{AreRows, rows_bytes}
use Rattle.row_store.proofs.MapTables.{loaded_at, nodes_told, others_told, wanted_row}
use Rattle.store_maps.specs.Maps.{Maps, kept_rows, rows_at, unless_empty}
use Rattle.store_maps.specs.Stands.{HoldsRows}
use Rattle.store_maps.proofs.KeptRows.{kept_row-tables}
use Rattle.value_bytes.specs.declared.nodes.NodeRecord.{NodeRecord}
use Rattle.bucket_store.specs.Image.{Image}
use Rattle.store_check.specs.Maps.{HasSoundMapsOf}
use Rattle.store_check.specs.Values.{IfUnknown, IsPlaced, NodeMap, ObjectMap, bare, objects_of}
use Rattle.store_check.proofs.ObjectSets.{get_node}
use Rattle.update_flow.specs.Stands.{IsImported}
use Rattle.update_flow.specs.State.{Holding}
use Rattle.update_flow.specs.Within.{wanted_of}
use Rattle.update_flow.proofs.OneTable.{wanted_get}

-- rows are those of an object, whose key has an id
rows_in-none : (style : StyleOf) (objects : ObjectSet) (key : KeyOf) → map.get objects key ≡ None → rows_in style objects key ≡ []
unfolding rows_known rows_in
rows_in-none style objects key none = rows_known-none style (known_of objects) key none

some_of : {X : Type 0} (found : Option X) → (found ≡ None → ⊥) → IsSome found
some_of None not = absurd (not refl)
some_of (Some x) not = refl

id_of : (style : StyleOf) (objects : ObjectSet) → HasIds objects → (key : KeyOf) (found : Option (List TableRow)) (own : List TableRow)
    → found ≡ unless_empty (rows_in style objects key) → found ≡ Some own → IsId key.id
id_of style objects ids key found own right is =
    ids key (some_of (map.get objects key) (λ none.
    absurd (let empty : found ≡ None = right ∙ ap (λ (rows : List TableRow). unless_empty rows) (rows_in-none style objects key none) in
    cc (is, empty))))

pub rows_id : (style : StyleOf) (maps : Maps) (objects : ObjectSet) → HoldsRows maps (rows_in style objects) → HasIds objects
    → (kind : Kind) (id : ℕ)
    (own : List TableRow) → rows_at maps kind id ≡ Some own → IsId id
rows_id style maps objects holds ids kind id own is =
    id_of style objects ids (record { kind = kind; id = id }) (rows_at maps kind id) own (holds.at kind id) is

-- so has each in a sound store: a node whose tags nobody knows is one of its objects
some_bare : (found : Option NodeRecord) → IsSome found → IsSome (option_map bare found)
some_bare None there = absurd (cc)
some_bare (Some own) there = refl

known_node : (nodes : NodeMap) (ways relations : ObjectMap) (id : ℕ) → IsSome (map.get nodes id)
    → IsSome (map.get (objects_of nodes ways relations) (node_key id))
known_node nodes ways relations id there = subst IsSome (sym (get_node nodes ways relations id)) (some_bare (map.get nodes id) there)

module _ (style : StyleOf) (objects : ObjectSet) (image : Image) (sound : HasSoundMapsOf style objects image) (ids : HasIds objects) where
  own_node : (id : ℕ) → IsSome (map.get sound.maps.nodes id) → IsSome (map.get objects (node_key id))
  own_node id there = subst (λ (all : ObjectSet). IsSome (map.get all (node_key id))) (sym sound.own)
      (known_node sound.maps.nodes sound.maps.ways sound.maps.relations id there)

  at_node : (id : ℕ) (own : List TableRow) (found : Option NodeRecord) → map.get sound.maps.nodes id ≡ found
      → IfUnknown found (λ place. AllByRecursion (IsPlaced style.tables place) (kept_rows (rows_at sound.maps kinds.Node id)))
      (rows_at sound.maps kinds.Node id ≡ unless_empty (rows_in style objects (node_key id)))
      → rows_at sound.maps kinds.Node id ≡ Some own → IsId id
  at_node id own None there right is = id_of style objects ids (node_key id) (rows_at sound.maps kinds.Node id) own right is
  at_node id own (Some node) there right is = ids (node_key id) (own_node id (subst IsSome (sym there) refl))

  pub sound_id : (kind : Kind) (id : ℕ) (own : List TableRow) → rows_at sound.maps kind id ≡ Some own → IsId id
  sound_id kinds.Node id own is = at_node id own (map.get sound.maps.nodes id) refl (sound.rows kinds.Node id) is
  sound_id kinds.Way id own is = id_of style objects ids (way_key id) (rows_at sound.maps kinds.Way id) own (sound.rows kinds.Way id) is
  sound_id kinds.Relation id own is =
      id_of style objects ids (relation_key id) (rows_at sound.maps kinds.Relation id) own (sound.rows kinds.Relation id) is

-- all rows are there, and no other
module _ (style : StyleOf) (wanted : Option ℕ) (kept : ℕ → BucketMap) (maps : Maps) (objects : ObjectSet) (new : TableMap)
    (holds : HoldsRows maps (rows_in style objects))
    (nodes : HoldsMap rows_bytes (AreRows style.tables) (kept 6) maps.node_rows)
    (others : HoldsMap rows_bytes (AreRows style.tables) (kept 7) maps.other_rows)
    (first : Fills 6 (wanted_row wanted maps) (λ n. IsSome (map.get (kept 6) n)) map.empty new)
    (second : Fills 7 (wanted_row wanted maps) (λ n. IsSome (map.get (kept 7) n)) map.empty new) where
  pub all_loaded : new ≡ wanted_of wanted (tables style objects)
  all_loaded =
      map.same_map spot_cmp_total spot_cmp-IsAntisymmetric new (wanted_of wanted (tables style objects))
      (λ spot.
      loaded_at style.tables wanted kept maps new nodes others first second spot.table spot.key.kind spot.key.id
      ∙ ap (λ (found : Option Row). if is_wanted wanted spot.table then found else None) (kept_row-tables style maps objects holds spot)
      ∙ sym (wanted_get wanted (tables style objects) spot))

-- what the two maps of rows tell of an imported store
pub told_nodes : (style : StyleOf) (wanted : Option ℕ) (image : Image) (held : Holding) → (is : IsImported held image) → held.style ≡ style
    → AreTold style.tables wanted 6 (wanted_row wanted is.maps.maps) (image.maps 6)
told_nodes style wanted image held is same =
    subst (λ (s : StyleOf). AreTold s.tables wanted 6 (wanted_row wanted is.maps.maps) (image.maps 6)) same
    (nodes_told held.style.tables wanted image.maps is.maps.maps
    (rows_id held.style is.maps.maps held.objects is.maps.stand.rows is.ids) is.maps.kept.node_rows)

pub told_others : (style : StyleOf) (wanted : Option ℕ) (image : Image) (held : Holding) → (is : IsImported held image) → held.style ≡ style
    → AreTold style.tables wanted 7 (wanted_row wanted is.maps.maps) (image.maps 7)
told_others style wanted image held is same =
    subst (λ (s : StyleOf). AreTold s.tables wanted 7 (wanted_row wanted is.maps.maps) (image.maps 7)) same
    (others_told held.style.tables wanted image.maps is.maps.maps
    (rows_id held.style is.maps.maps held.objects is.maps.stand.rows is.ids) is.maps.kept.other_rows)
