-- Where the maps are those of a sound store, each value of each map is right.
use Rattle.std.proofs.Common.{◌≡◌, ◌≢◌, ℕ, Bool, ◌+◌, ◌*◌, ◌/◌, ◌%◌, true, false, List, [], ◌∷◌, Option, Some, None, refl, sym, ap}
use Rattle.std.proofs.Common.{subst, ◌∙◌, arith, nat_eq, if◌then◌else◌}
use Rattle.std.specs.Prelude.{IfSome, IsSome}
use Rattle.std.specs.FinMap as finite
use Rattle.std.specs.FinMap.{nat_cmp-IsAntisymmetric}
use Rattle.std.specs.Cmp.{nat_cmp_total}
use Rattle.std.specs.Option.{unwrap_or}
use Rattle.osm_base.specs.declared.values.key.Kind.TheVariants as kinds
use Rattle.osm_base.specs.declared.values.key.Kind.{Kind}
use Rattle.osm_base.specs.declared.values.object.Object.{Object}
use Rattle.osm_base.specs.declared.values.object.Object.TheVariants.{Node, Way, Relation}
use Rattle.osm_base.specs.map.Listers.{listed}
use Rattle.osm_base.specs.map.Objects.{ObjectSet}
use Rattle.osm_base.specs.values.Ids.{AreRisingIds}
use Rattle.osm_base.specs.values.Key.{IsId, KeyOf, node_key, way_key, relation_key}
use Rattle.style_read.specs.Style.{StyleOf}
use Rattle.object_fold.specs.Listings.{HasIds}
use Rattle.row_rules.specs.Condition.{reaches_nodes}
use Rattle.object_fold.specs.Listing.{ListingOf, listers}
use Rattle.value_bytes.specs.Maps.{Decodes, HoldsMap}
use Rattle.value_bytes.proofs.MapLaws.{read_one}
use Rattle.value_bytes.specs.StoreMap.{map_number}
use Rattle.value_bytes.specs.declared.store_map.StoreMap.{StoreMap}
use Rattle.value_bytes.specs.declared.store_map.StoreMap.TheVariants as stored
use Rattle.bucket_records.specs.Records.{BucketMap}
use Rattle.bucket_store.specs.Image.{Image}
use Rattle.value_bytes.specs.Nodes.{record_bytes, IsRecord}
use Rattle.value_bytes.specs.declared.nodes.NodeRecord.{NodeRecord}
use Rattle.value_bytes.specs.Objects.{object_bytes, IsStored}
use Rattle.row_store.specs.Rows.{rows_bytes, AreRows}
use Rattle.row_store.specs.Loading.{key_of}
use Rattle.store_maps.specs.Maps.{Maps, RowMap}
use Rattle.store_maps.specs.Stands.{HoldsNode, HoldsTags}
use Rattle.store_maps.specs.Turns.{IsListing, Told, blocks_in, told_by}
use Rattle.store_maps.proofs.IdLists.{same_as}
use Rattle.back_index.specs.Filling.{IsKeptAt}
use Rattle.back_index.specs.Ids.{ids_bytes, AreListed}
use Rattle.back_index.specs.Relisting.{kept_list}
use Rattle.back_index.proofs.Held.{no_ids}
use Rattle.store_check.specs.Maps.{HasSoundMapsOf}
use Rattle.store_check.specs.Values.{AreRight, AreRightRows, HasRightBytes, IsKnownRecord, IsRight, IsSpelledAt, NodeMap, ObjectMap}
use Rattle.store_check.specs.Values.{ReadsObjects, objects_of}

-- lists

some_kept : (found : Option (List ℕ)) (value : Option (List ℕ)) → Decodes ids_bytes AreListed found value → value ≢ Some []
    → found ≡ kept_list (unwrap_or value [])
some_kept None None is some = refl
some_kept None (Some ids) is some = absurd is
some_kept (Some bytes) None is some = absurd is
some_kept (Some bytes) (Some []) is some = absurd (some refl)
some_kept (Some bytes) (Some (first ∷ ids)) is some = ap Some is.1

rise_kept : (found : Option (List ℕ)) (value : Option (List ℕ)) → Decodes ids_bytes AreListed found value
    → AreRisingIds (unwrap_or value [])
rise_kept None None is = no_ids
rise_kept None (Some ids) is = absurd is
rise_kept (Some bytes) None is = absurd is
rise_kept (Some bytes) (Some ids) is = is.0.rising

kept_at : (told : Told) (kept : BucketMap) (listing : ListingOf) → HoldsMap ids_bytes AreListed kept listing → IsListing listing told
    → (id : ℕ) → IsKeptAt told kept id
kept_at told kept listing held is id = record {
  ids = listers listing id;
  rising = rise_kept (finite.get kept id) (finite.get listing id) (held id);
  same = is.answers id;
  list = some_kept (finite.get kept id) (finite.get listing id) (held id) (is.some id);
}

-- rows

module _ (style : StyleOf) (image : Image) (nodes : NodeMap) (objects : ObjectSet) (map : StoreMap) (rows : RowMap)
    (held : HoldsMap rows_bytes (AreRows style.tables) (image.maps (map_number map)) rows) where
  abbrev IsRightAt : ℕ → KeyOf → Type 0
  IsRightAt number own = AreRightRows style nodes objects own (finite.get rows number)

  by_parity : (number : ℕ) → IsRightAt (2 * (number / 2)) (record { kind = kinds.Way; id = number / 2 })
      → IsRightAt (2 * (number / 2) + 1) (record { kind = kinds.Relation; id = number / 2 }) → IsRightAt number (key_of 7 number)
  by_parity number even odd =
      elim (nat_eq (number % 2) 0) as (λ b. nat_eq (number % 2) 0 ≡ b → IsRightAt number
      (if b then record { kind = kinds.Way; id = number / 2 } else record { kind = kinds.Relation; id = number / 2 })) [
        | true ↦ λ is.
            let zero_left : number % 2 ≡ 0 = same_as (number % 2) 0 is in
            subst (λ (own : ℕ). IsRightAt own (record { kind = kinds.Way; id = number / 2 })) (omega (arith, zero_left)) even
        | false ↦ λ is.
            let one_left : number % 2 ≢ 0 = λ zero_left.
            let wrong : true ≡ false = ap (λ (own : ℕ). nat_eq own 0) (sym zero_left) ∙ is in cc in
            subst (λ (own : ℕ). IsRightAt own (record { kind = kinds.Relation; id = number / 2 })) (omega (arith, one_left)) odd
      ] refl

  rows_of_sound : (number : ℕ) → IsRightAt number (key_of (map_number map) number) → HasRightBytes style image nodes objects map number
  rows_of_sound number right = record { rows = finite.get rows number; read = held number; right = right }

-- objects

some_tags : (reaches : Bool) (own : NodeRecord) (object : Option Object) → HoldsNode reaches (Some own) object → reaches ≡ true
    → own.tags ≢ None
some_tags reaches own None holds asks none = absurd holds
some_tags reaches own (Some (Way nodes tags)) holds asks none = absurd holds
some_tags reaches own (Some (Relation members tags)) holds asks none = absurd holds
some_tags reaches own (Some (Node place tags)) holds asks none =
    let unasked : reaches ≡ false = subst (λ known. HoldsTags reaches known tags) none holds.1 in cc

pub node_there : (reaches : Bool) (own : NodeRecord) (object : Option Object) → HoldsNode reaches (Some own) object → IsSome object
node_there reaches own None holds = absurd holds
node_there reaches own (Some object) holds = refl

pub known_at : (style : StyleOf) (found : Option NodeRecord) (object : Option Object) → HoldsNode (reaches_nodes style) found object
    → IfSome found (λ own. reaches_nodes style ≡ true → own.tags ≢ None)
known_at style None object holds = tt
known_at style (Some own) object holds = some_tags (reaches_nodes style) own object holds

node_right : (style : StyleOf) (key : ℕ) (bytes : Option (List ℕ)) (found : Option NodeRecord) (object : Option Object)
    → Decodes record_bytes IsRecord bytes found → HoldsNode (reaches_nodes style) found object → (IsSome object → IsId key)
    → IsSpelledAt record_bytes (IsKnownRecord style) bytes key
node_right style key None found object is holds id = tt
node_right style key (Some bytes) None object is holds id = absurd is
node_right style key (Some bytes) (Some own) object is holds id = (
  id (node_there (reaches_nodes style) own object holds),
  (own, record { is = is.0; known = some_tags (reaches_nodes style) own object holds }, is.1),
)

object_right : (kind : Kind) (key : ℕ) (bytes : Option (List ℕ)) (found : Option Object) → Decodes object_bytes (IsStored kind) bytes found
    → (IsSome found → IsId key) → IsSpelledAt object_bytes (IsStored kind) bytes key
object_right kind key None found is id = tt
object_right kind key (Some bytes) None is id = absurd is
object_right kind key (Some bytes) (Some own) is id = (id refl, (own, is.0, is.1))

-- each value is right, of what the maps have

module _ (style : StyleOf) (image : Image) (objects : ObjectSet) (sound : HasSoundMapsOf style objects image) (ids : HasIds objects) where
  abbrev maps : Maps
  maps = sound.maps

  way_id : (id : ℕ) → IsSome (finite.get maps.ways id) → IsId id
  way_id id there = ids (way_key id) (subst IsSome (sound.on.objects.ways id) there)

  relation_id : (id : ℕ) → IsSome (finite.get maps.relations id) → IsId id
  relation_id id there = ids (relation_key id) (subst IsSome (sound.on.objects.relations id) there)

  pub all_right : AreRight style image maps.nodes objects
  all_right stored.Nodes key = node_right style key (finite.get (image.maps 0) key) (finite.get maps.nodes key)
      (finite.get objects (node_key key))
      (sound.kept.nodes key) (sound.on.objects.nodes key) (ids (node_key key))
  all_right stored.Ways key = object_right kinds.Way key (finite.get (image.maps 1) key) (finite.get maps.ways key) (sound.kept.ways key)
      (way_id key)
  all_right stored.Relations key = object_right kinds.Relation key (finite.get (image.maps 2) key) (finite.get maps.relations key)
      (sound.kept.relations key) (relation_id key)
  all_right stored.WaysOfBlocks key =
      kept_at (told_by kinds.Way blocks_in objects) (image.maps 3) maps.ways_of_blocks sound.kept.ways_of_blocks
      sound.on.index.ways_of_blocks key
  all_right stored.RelationsOfNodes key =
      kept_at (told_by kinds.Relation (listed kinds.Node) objects) (image.maps 4) maps.relations_of_nodes
      sound.kept.relations_of_nodes sound.on.index.relations_of_nodes key
  all_right stored.RelationsOfWays key =
      kept_at (told_by kinds.Relation (listed kinds.Way) objects) (image.maps 5) maps.relations_of_ways
      sound.kept.relations_of_ways sound.on.index.relations_of_ways key
  all_right stored.NodeRows key = rows_of_sound style image maps.nodes objects stored.NodeRows maps.node_rows sound.kept.node_rows key
      (sound.rows kinds.Node key)
  all_right stored.OtherRows key = rows_of_sound style image maps.nodes objects stored.OtherRows maps.other_rows sound.kept.other_rows key
      (by_parity style image maps.nodes objects stored.OtherRows maps.other_rows sound.kept.other_rows key
      (sound.rows kinds.Way (key / 2)) (sound.rows kinds.Relation (key / 2)))

  -- and of whatever was read
  module _ (nodes : NodeMap) (ways relations : ObjectMap) (read : ReadsObjects image nodes ways relations) where
    same_nodes : nodes ≡ maps.nodes
    same_nodes = finite.same_map nat_cmp_total nat_cmp-IsAntisymmetric nodes maps.nodes (λ id.
        read_one record_bytes IsRecord (finite.get (image.maps 0) id) (finite.get nodes id) (finite.get maps.nodes id)
        (read.nodes_read id) (sound.kept.nodes id))

    same_ways : ways ≡ maps.ways
    same_ways = finite.same_map nat_cmp_total nat_cmp-IsAntisymmetric ways maps.ways (λ id.
        read_one object_bytes (IsStored kinds.Way) (finite.get (image.maps 1) id) (finite.get ways id) (finite.get maps.ways id)
        (read.ways_read id) (sound.kept.ways id))

    same_relations : relations ≡ maps.relations
    same_relations = finite.same_map nat_cmp_total nat_cmp-IsAntisymmetric relations maps.relations (λ id.
        read_one object_bytes (IsStored kinds.Relation) (finite.get (image.maps 2) id) (finite.get relations id)
        (finite.get maps.relations id) (read.relations_read id) (sound.kept.relations id))

    same_objects : objects ≡ objects_of nodes ways relations
    same_objects = sound.own ∙ (λ i. objects_of (sym same_nodes i) (sym same_ways i) (sym same_relations i))

    pub sound_is_right : AreRight style image nodes (objects_of nodes ways relations)
    sound_is_right map key =
        subst (λ (own : NodeMap × ObjectSet). IsRight style image own.0 own.1 map key) (λ i. (sym same_nodes i, same_objects i))
        (all_right map key)
