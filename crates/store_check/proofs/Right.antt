-- Where each value of each map is right, the maps are those of a sound store.
use Rattle.std.proofs.Common.{◌≡◌, ◌≢◌, ℕ, ◌+◌, ◌*◌, ◌/◌, ◌%◌, Bool, true, false, List, [], ◌∷◌, Option, Some, None, refl, sym, subst}
use Rattle.std.proofs.Common.{◌∙◌, ◌<◌, arith}
use Rattle.std.specs.Prelude.{IfSome, IsSome}
use Rattle.std.specs.FinMap as finite
use Rattle.std.specs.Option.{option_map, unwrap_or}
use Rattle.osm_base.specs.declared.values.key.Kind.{Kind}
use Rattle.osm_base.specs.declared.values.key.Kind.TheVariants as kinds
use Rattle.osm_base.specs.declared.values.object.Object.{Object}
use Rattle.osm_base.specs.declared.values.object.Object.TheVariants.{Node, Way, Relation}
use Rattle.osm_base.specs.declared.values.row.TableRow.{TableRow}
use Rattle.osm_base.specs.map.Listers.{listed}
use Rattle.osm_base.specs.map.Objects.{ObjectSet}
use Rattle.osm_base.specs.values.Ids.{AreRisingIds, IsRising, has}
use Rattle.osm_base.specs.values.Key.{IsId, KeyOf, way_key, relation_key}
use Rattle.osm_base.specs.values.Tags.{TagMap}
use Rattle.style_read.specs.Style.{StyleOf}
use Rattle.object_fold.specs.Change.{IsOfKind}
use Rattle.object_fold.specs.Listings.{HasIds}
use Rattle.object_fold.specs.Listing.{ListingOf}
use Rattle.object_fold.proofs.SortedIds.{none-rise}
use Rattle.value_bytes.specs.Nodes.{record_bytes, IsRecord}
use Rattle.value_bytes.specs.Maps.{Decodes, HoldsMap, ReadAs}
use Rattle.value_bytes.specs.StoreMap.{map_number}
use Rattle.value_bytes.specs.declared.store_map.StoreMap.{StoreMap}
use Rattle.value_bytes.specs.declared.store_map.StoreMap.TheVariants as stored
use Rattle.bucket_records.specs.Records.{BucketMap}
use Rattle.bucket_store.specs.Image.{Image}
use Rattle.value_bytes.specs.declared.nodes.NodeRecord.{NodeRecord}
use Rattle.value_bytes.specs.Objects.{object_bytes, IsStored}
use Rattle.row_store.specs.Rows.{rows_bytes, AreRows}
use Rattle.row_store.specs.Loading.{key_of}
use Rattle.row_rules.specs.Condition.{reaches_nodes}
use Rattle.store_maps.specs.Maps.{Maps, RowMap, rows_at}
use Rattle.store_maps.specs.Stands.{HoldsNode, HoldsTags, StandsOn}
use Rattle.store_maps.specs.Turns.{IsListing, Told, blocks_in, told_by}
use Rattle.back_index.specs.Filling.{AreKept}
use Rattle.back_index.specs.Ids.{ids_bytes, AreListed}
use Rattle.back_index.specs.Relisting.{kept_list}
use Rattle.store_check.specs.Maps.{HasSoundMapsOf}
use Rattle.store_check.specs.Values.{AreRight, AreRightRows, HasRightBytes, IsKnownRecord, IsRight, IsSpelledAt, NodeMap, ObjectMap}
use Rattle.store_check.specs.Values.{ReadsObjects, bare, objects_of}
use Rattle.store_check.proofs.Exist.{Pair, values_exist}
use Rattle.store_check.proofs.ObjectSets.{get_node, get_way, get_relation}

-- nodes

abbrev IsKnown : Bool → NodeRecord → Type 0
IsKnown reaches own = reaches ≡ true → own.tags ≢ None

holds_tags : (reaches : Bool) (tags : Option TagMap) → (reaches ≡ true → tags ≢ None) → HoldsTags reaches tags (unwrap_or tags finite.empty)
holds_tags true None known = absurd (known refl refl)
holds_tags false None known = refl
holds_tags reaches (Some tags) known = refl

pub holds_node : (reaches : Bool) (own : Option NodeRecord) → IfSome own (IsKnown reaches) → HoldsNode reaches own (option_map bare own)
holds_node reaches None known = tt
holds_node reaches (Some own) known = (refl, holds_tags reaches own.tags known)

node_proper : (own : Option NodeRecord) → IfSome (option_map bare own) (IsOfKind kinds.Node)
node_proper None = tt
node_proper (Some own) = tt

-- ways and relations

stored_way : (object : Object) → IsStored kinds.Way object → IsOfKind kinds.Way object
unfolding IsStored
stored_way (Node place tags) is = absurd is
stored_way (Way nodes tags) is = is.0.ids
stored_way (Relation members tags) is = absurd is

stored_relation : (object : Object) → IsStored kinds.Relation object → IsOfKind kinds.Relation object
unfolding IsStored
stored_relation (Node place tags) is = absurd is
stored_relation (Way nodes tags) is = absurd is
stored_relation (Relation members tags) is = tt

if_decoded : {V : Type 0} (spell : V → List ℕ) (Is P : V → Type 0) → ((value : V) → Is value → P value)
    → (bytes : Option (List ℕ)) (value : Option V) → Decodes spell Is bytes value → IfSome value P
if_decoded spell Is P weaker None None is = tt
if_decoded spell Is P weaker None (Some value) is = absurd is
if_decoded spell Is P weaker (Some bytes) None is = absurd is
if_decoded spell Is P weaker (Some bytes) (Some value) is = weaker value is.0

-- lists of who lists what

record IsList (told : Told) (id : ℕ) (bytes ids : List ℕ) : Type 0 where
  bytes_are : bytes ≡ ids_bytes ids
  listed : AreListed ids
  same : (by : ℕ) → has ids by ≡ told id by

some_list : (told : Told) (id : ℕ) (bytes ids : List ℕ) → AreRisingIds ids → ((by : ℕ) → has ids by ≡ told id by)
    → kept_list ids ≡ Some bytes → (list : List ℕ) × IsList told id bytes list
some_list told id bytes [] rising same list = absurd (cc)
some_list told id bytes (first ∷ ids) rising same list =
    (first ∷ ids, record { bytes_are = (cc); listed = record { some = omega arith; rising = rising }; same = same })

none_told : (told : Told) (id : ℕ) (ids : List ℕ) → ((by : ℕ) → has ids by ≡ told id by) → kept_list ids ≡ None → (by : ℕ)
    → false ≡ told id by
none_told told id [] same none by = same by
none_told told id (first ∷ ids) same none by = absurd (cc)

module _ (told : Told) (kept : BucketMap) (are : AreKept told kept) where
  lists : (listing : ListingOf) × ((id : ℕ) → Pair (IsList told) id (finite.get kept id) (finite.get listing id))
  lists = values_exist (IsList told) kept
      (λ id bytes found. let own = are id in some_list told id bytes own.ids own.rising own.same (sym own.list ∙ found))

  abbrev listing : ListingOf
  listing = lists.0

  decoded : (id : ℕ) (bytes ids : Option (List ℕ)) → Pair (IsList told) id bytes ids → Decodes ids_bytes AreListed bytes ids
  decoded id None None is = tt
  decoded id None (Some ids) is = absurd is
  decoded id (Some bytes) None is = absurd is
  decoded id (Some bytes) (Some ids) is = (is.listed, is.bytes_are)

  held_lists : HoldsMap ids_bytes AreListed kept listing
  held_lists id = decoded id (finite.get kept id) (finite.get listing id) (lists.1 id)

  answers_at : (id by : ℕ) (bytes ids : Option (List ℕ)) → Pair (IsList told) id bytes ids → finite.get kept id ≡ bytes
      → has (unwrap_or ids []) by ≡ told id by
  answers_at id by None None is found = let own = are id in none_told told id own.ids own.same (sym own.list ∙ found) by
  answers_at id by None (Some ids) is found = absurd is
  answers_at id by (Some bytes) None is found = absurd is
  answers_at id by (Some bytes) (Some ids) is found = is.same by

  rising_at : (id : ℕ) (bytes ids : Option (List ℕ)) → Pair (IsList told) id bytes ids → IsRising (unwrap_or ids [])
  rising_at id None None is = none-rise
  rising_at id None (Some ids) is = absurd is
  rising_at id (Some bytes) None is = absurd is
  rising_at id (Some bytes) (Some ids) is = is.listed.rising.0

  some_at : (id : ℕ) (bytes ids : Option (List ℕ)) → Pair (IsList told) id bytes ids → ids ≢ Some []
  some_at id None None is none = absurd (cc)
  some_at id None (Some ids) is none = absurd is
  some_at id (Some bytes) None is none = absurd is
  some_at id (Some bytes) (Some []) is none = absurd (let some = is.listed.some in omega (arith, some))
  some_at id (Some bytes) (Some (first ∷ ids)) is none = absurd (cc)

  is_listing : IsListing listing told
  is_listing = record {
    answers = λ id by. answers_at id by (finite.get kept id) (finite.get listing id) (lists.1 id) refl;
    rising = λ id. rising_at id (finite.get kept id) (finite.get listing id) (lists.1 id);
    some = λ id. some_at id (finite.get kept id) (finite.get listing id) (lists.1 id);
  }

-- rows

module _ (style : StyleOf) (image : Image) (nodes : NodeMap) (objects : ObjectSet) (map : StoreMap)
    (right : (number : ℕ) → HasRightBytes style image nodes objects map number) where
  abbrev kept : BucketMap
  kept = image.maps (map_number map)

  abbrev AreRightAt : ℕ → Option (List TableRow) → Type 0
  AreRightAt number rows = AreRightRows style nodes objects (key_of (map_number map) number) rows

  record AreRowsAt (number : ℕ) (bytes : List ℕ) (rows : List TableRow) : Type 0 where
    is : AreRows style.tables rows
    bytes_are : bytes ≡ rows_bytes rows
    own : AreRightAt number (Some rows)

  abbrev Read : Option (List ℕ) → Option (List TableRow) → Type 0
  Read bytes rows = Decodes rows_bytes (AreRows style.tables) bytes rows

  rows_there : (number : ℕ) (bytes : List ℕ) (rows : Option (List TableRow)) → Read (Some bytes) rows → AreRightAt number rows
      → (list : List TableRow) × AreRowsAt number bytes list
  rows_there number bytes None is own = absurd is
  rows_there number bytes (Some rows) is own = (rows, record { is = is.0; bytes_are = is.1; own = own })

  row_lists : (rows : RowMap) × ((number : ℕ) → Pair AreRowsAt number (finite.get kept number) (finite.get rows number))
  row_lists = values_exist AreRowsAt kept (λ number bytes found. let own = right number in
      rows_there number bytes own.rows (subst (λ (o : Option (List ℕ)). Read o own.rows) found own.read) own.right)

  rows_decoded : (number : ℕ) (bytes : Option (List ℕ)) (rows : Option (List TableRow)) → Pair AreRowsAt number bytes rows → Read bytes rows
  rows_decoded number None None is = tt
  rows_decoded number None (Some rows) is = absurd is
  rows_decoded number (Some bytes) None is = absurd is
  rows_decoded number (Some bytes) (Some rows) is = (is.is, is.bytes_are)

  held_rows : HoldsMap rows_bytes (AreRows style.tables) kept row_lists.0
  held_rows number = rows_decoded number (finite.get kept number) (finite.get row_lists.0 number) (row_lists.1 number)

  none_right : (number : ℕ) (rows : Option (List TableRow)) → Read None rows → AreRightAt number rows → AreRightAt number None
  none_right number None is own = own
  none_right number (Some rows) is own = absurd is

  rows_right_at : (number : ℕ) (bytes : Option (List ℕ)) (rows : Option (List TableRow)) → Pair AreRowsAt number bytes rows
      → finite.get kept number ≡ bytes → AreRightAt number rows
  rows_right_at number None None is found =
      let own = right number in
      none_right number own.rows (subst (λ (o : Option (List ℕ)). Read o own.rows) found own.read) own.right
  rows_right_at number None (Some rows) is found = absurd is
  rows_right_at number (Some bytes) None is found = absurd is
  rows_right_at number (Some bytes) (Some rows) is found = is.own

  rows_right : (number : ℕ) → AreRightAt number (finite.get row_lists.0 number)
  rows_right number = rows_right_at number (finite.get kept number) (finite.get row_lists.0 number) (row_lists.1 number) refl

way_number : (id : ℕ) → key_of 7 (2 * id) ≡ way_key id
way_number id =
    let even : 2 * id % 2 ≡ 0 = omega arith in
    let half : 2 * id / 2 ≡ id = omega arith in
    rw (even, half) refl

relation_number : (id : ℕ) → key_of 7 (2 * id + 1) ≡ relation_key id
relation_number id =
    let odd : (2 * id + 1) % 2 ≡ 1 = omega arith in
    let half : (2 * id + 1) / 2 ≡ id = omega arith in
    rw (odd, half) refl

-- all maps

module _ (image : Image) (nodes : NodeMap) (ways relations : ObjectMap)
    (held_ways : HoldsMap object_bytes (IsStored kinds.Way) (image.maps (map_number stored.Ways)) ways)
    (held_relations : HoldsMap object_bytes (IsStored kinds.Relation) (image.maps (map_number stored.Relations)) relations) where
  abbrev objects : ObjectSet
  objects = objects_of nodes ways relations

  pub proper_at : (kind : Kind) (id : ℕ) → IfSome (finite.get objects (record { kind = kind; id = id })) (IsOfKind kind)
  proper_at kinds.Node id =
      subst (λ found. IfSome found (IsOfKind kinds.Node)) (sym (get_node nodes ways relations id)) (node_proper (finite.get nodes id))
  proper_at kinds.Way id = subst (λ found. IfSome found (IsOfKind kinds.Way)) (sym (get_way nodes ways relations id))
      (if_decoded object_bytes (IsStored kinds.Way) (IsOfKind kinds.Way) stored_way (finite.get (image.maps (map_number stored.Ways)) id)
      (finite.get ways id) (held_ways id))
  proper_at kinds.Relation id = subst (λ found. IfSome found (IsOfKind kinds.Relation)) (sym (get_relation nodes ways relations id))
      (if_decoded object_bytes (IsStored kinds.Relation) (IsOfKind kinds.Relation) stored_relation
      (finite.get (image.maps (map_number stored.Relations)) id) (finite.get relations id) (held_relations id))

  module _ (style : StyleOf) (held_nodes : HoldsMap record_bytes IsRecord (image.maps (map_number stored.Nodes)) nodes)
      (known : (id : ℕ) → IfSome (finite.get nodes id) (IsKnown (reaches_nodes style))) (right : AreRight style image nodes objects) where
    abbrev blocks : Told
    blocks = told_by kinds.Way blocks_in objects

    abbrev by_nodes : Told
    by_nodes = told_by kinds.Relation (listed kinds.Node) objects

    abbrev by_ways : Told
    by_ways = told_by kinds.Relation (listed kinds.Way) objects

    abbrev node_lists : RowMap
    node_lists = (row_lists style image nodes objects stored.NodeRows (right stored.NodeRows)).0

    abbrev other_lists : RowMap
    other_lists = (row_lists style image nodes objects stored.OtherRows (right stored.OtherRows)).0

    all_maps : Maps
    all_maps = record {
      nodes = nodes;
      ways = ways;
      relations = relations;
      ways_of_blocks = listing blocks (image.maps (map_number stored.WaysOfBlocks)) (right stored.WaysOfBlocks);
      relations_of_nodes = listing by_nodes (image.maps (map_number stored.RelationsOfNodes)) (right stored.RelationsOfNodes);
      relations_of_ways = listing by_ways (image.maps (map_number stored.RelationsOfWays)) (right stored.RelationsOfWays);
      node_rows = node_lists;
      other_rows = other_lists;
    }

    stand_on : StandsOn (reaches_nodes style) all_maps objects
    unfolding all_maps
    stand_on = record {
      objects = record {
        nodes = λ id. subst (λ found. HoldsNode (reaches_nodes style) (finite.get nodes id) found) (sym (get_node nodes ways relations id))
            (holds_node (reaches_nodes style) (finite.get nodes id) (known id));
        ways = λ id. sym (get_way nodes ways relations id);
        relations = λ id. sym (get_relation nodes ways relations id);
      };
      index = record {
        ways_of_blocks = is_listing blocks (image.maps (map_number stored.WaysOfBlocks)) (right stored.WaysOfBlocks);
        relations_of_nodes = is_listing by_nodes (image.maps (map_number stored.RelationsOfNodes)) (right stored.RelationsOfNodes);
        relations_of_ways = is_listing by_ways (image.maps (map_number stored.RelationsOfWays)) (right stored.RelationsOfWays);
      };
      proper = record { kinds = λ own. proper_at own.kind own.id };
    }

    right_at : (kind : Kind) (id : ℕ)
        → AreRightRows style nodes objects (record { kind = kind; id = id }) (rows_at all_maps kind id)
    unfolding all_maps
    right_at kinds.Node id = rows_right style image nodes objects stored.NodeRows (right stored.NodeRows) id
    right_at kinds.Way id = subst (λ (own : KeyOf). AreRightRows style nodes objects own (finite.get other_lists (2 * id)))
        (way_number id) (rows_right style image nodes objects stored.OtherRows (right stored.OtherRows) (2 * id))
    right_at kinds.Relation id = subst (λ (own : KeyOf). AreRightRows style nodes objects own (finite.get other_lists (2 * id + 1)))
        (relation_number id) (rows_right style image nodes objects stored.OtherRows (right stored.OtherRows) (2 * id + 1))

    -- where all values are right the maps are those of a sound store
    sound_maps : HasSoundMapsOf style objects image
    unfolding all_maps
    sound_maps = record {
      maps = all_maps;
      kept = record {
        nodes = held_nodes;
        ways = held_ways;
        relations = held_relations;
        ways_of_blocks = held_lists blocks (image.maps (map_number stored.WaysOfBlocks)) (right stored.WaysOfBlocks);
        relations_of_nodes = held_lists by_nodes (image.maps (map_number stored.RelationsOfNodes)) (right stored.RelationsOfNodes);
        relations_of_ways = held_lists by_ways (image.maps (map_number stored.RelationsOfWays)) (right stored.RelationsOfWays);
        node_rows = held_rows style image nodes objects stored.NodeRows (right stored.NodeRows);
        other_rows = held_rows style image nodes objects stored.OtherRows (right stored.OtherRows);
      };
      own = refl;
      on = stand_on;
      rows = right_at;
    }

-- what was read

held_one : {V : Type 0} (spell : V → List ℕ) (Is : V → Type 0) (bytes : Option (List ℕ)) (found : Option V) → ReadAs spell Is bytes found
    → Decodes spell Is bytes found
held_one spell Is None None read = tt
held_one spell Is None (Some value) read = absurd read
held_one spell Is (Some bytes) None read = absurd read
held_one spell Is (Some bytes) (Some value) read = (read.is, read.bytes_are)

known_one : (style : StyleOf) (key : ℕ) (bytes : Option (List ℕ)) (found : Option NodeRecord) → ReadAs record_bytes IsRecord bytes found
    → IsSpelledAt record_bytes (IsKnownRecord style) bytes key → IfSome found (IsKnown (reaches_nodes style))
known_one style key None None read right = tt
known_one style key None (Some own) read right = absurd read
known_one style key (Some bytes) None read right = tt
known_one style key (Some bytes) (Some own) read right = λ asks.
    subst (λ (kept : NodeRecord). kept.tags ≢ None) (read.alone right.1.0 right.1.1.is right.1.2) (right.1.1.known asks)

id_one : {V : Type 0} (spell : V → List ℕ) (Is Right : V → Type 0) (key : ℕ) (bytes : Option (List ℕ)) (found : Option V)
    → ReadAs spell Is bytes found → IsSpelledAt spell Right bytes key → IsSome found → IsId key
id_one spell Is Right key None None read right there = absurd (cc)
id_one spell Is Right key None (Some value) read right there = absurd read
id_one spell Is Right key (Some bytes) None read right there = absurd read
id_one spell Is Right key (Some bytes) (Some value) read right there = right.0

bare_there : (found : Option NodeRecord) → IsSome (option_map bare found) → IsSome found
bare_there None there = there
bare_there (Some own) there = refl

-- where the values of maps 0 to 2 are right their keys are ids
module _ (style : StyleOf) (image : Image) (nodes : NodeMap) (ways relations : ObjectMap) (read : ReadsObjects image nodes ways relations)
    (right : (map : StoreMap) → map_number map < 3 → (key : ℕ) → IsRight style image nodes (objects_of nodes ways relations) map key) where
  id_at : (kind : Kind) (id : ℕ) → IsSome (finite.get (objects_of nodes ways relations) (record { kind = kind; id = id })) → IsId id
  id_at kinds.Node id there = id_one record_bytes IsRecord (IsKnownRecord style) id (finite.get (image.maps 0) id) (finite.get nodes id)
      (read.nodes_read id) (right stored.Nodes (omega arith) id)
      (bare_there (finite.get nodes id) (subst IsSome (get_node nodes ways relations id) there))
  id_at kinds.Way id there = id_one object_bytes (IsStored kinds.Way) (IsStored kinds.Way) id (finite.get (image.maps 1) id)
      (finite.get ways id) (read.ways_read id) (right stored.Ways (omega arith) id) (subst IsSome (get_way nodes ways relations id) there)
  id_at kinds.Relation id there = id_one object_bytes (IsStored kinds.Relation) (IsStored kinds.Relation) id (finite.get (image.maps 2) id)
      (finite.get relations id) (read.relations_read id) (right stored.Relations (omega arith) id)
      (subst IsSome (get_relation nodes ways relations id) there)

  pub objects_have_ids : HasIds (objects_of nodes ways relations)
  objects_have_ids key there = id_at key.kind key.id there

module _ (style : StyleOf) (image : Image) (nodes : NodeMap) (ways relations : ObjectMap) (read : ReadsObjects image nodes ways relations)
    (right : AreRight style image nodes (objects_of nodes ways relations)) where
  pub right_is_sound : HasSoundMapsOf style (objects_of nodes ways relations) image
  right_is_sound = sound_maps image nodes ways relations
      (λ id. held_one object_bytes (IsStored kinds.Way) (finite.get (image.maps 1) id) (finite.get ways id) (read.ways_read id))
      (λ id. held_one object_bytes (IsStored kinds.Relation) (finite.get (image.maps 2) id) (finite.get relations id)
      (read.relations_read id)) style
      (λ id. held_one record_bytes IsRecord (finite.get (image.maps 0) id) (finite.get nodes id) (read.nodes_read id))
      (λ id. known_one style id (finite.get (image.maps 0) id) (finite.get nodes id) (read.nodes_read id) (right stored.Nodes id)) right

  pub right_has_ids : HasIds (objects_of nodes ways relations)
  right_has_ids = objects_have_ids style image nodes ways relations read (λ map low key. right map key)
