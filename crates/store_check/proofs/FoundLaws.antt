-- What was judged of maps 0 to 2 is what reading them finds.
use Rattle.std.proofs.Common.{Bool, ◌≡◌, inl, ◌<◌, ℕ, List, Option, Some, None, refl, sym, ap, subst, ◌∙◌, arith}
use Rattle.std.specs.FinMap as finite
use Rattle.std.specs.Ordering.{nat_cmp}
use Rattle.osm_base.specs.declared.values.key.Kind.{Kind}
use Rattle.osm_base.specs.declared.values.key.Kind.TheVariants as kinds
use Rattle.osm_base.specs.map.Objects.{ObjectSet, place_in}
use Rattle.osm_base.specs.values.Key.{relation_key}
use Rattle.osm_base.specs.values.KeyOrder.{key_cmp}
use Rattle.osm_base.specs.values.Place.{PlaceOf}
use Rattle.row_rules.specs.Condition.{reaches_nodes}
use Rattle.std.specs.Option.{option_map}
use Rattle.style_read.specs.Style.{StyleOf}
use Rattle.value_bytes.specs.Forms.{Spells}
use Rattle.value_bytes.specs.Maps.{ReadAs}
use Rattle.value_bytes.specs.Nodes.{record_bytes, IsRecord}
use Rattle.value_bytes.specs.StoreMap.{map_number}
use Rattle.value_bytes.specs.declared.nodes.NodeRecord.{NodeRecord}
use Rattle.value_bytes.specs.declared.store_map.StoreMap.{StoreMap}
use Rattle.value_bytes.specs.declared.store_map.StoreMap.TheVariants as stored
use Rattle.bucket_store.specs.Image.{Image}
use Rattle.store_check.specs.declared.wrong.Wrong.{Wrong}
use Rattle.store_check.specs.Held.{HeldOf, nothing_held}
use Rattle.store_check.specs.Judging.{HasPlaceOf, IsAbsentAt, IsFirstOf, IsKnownIf, IsPartOf, IsRightOf, Judges, JudgesAll, bytes_in}
use Rattle.store_check.specs.Judging.{map_for}
use Rattle.store_check.specs.Objects.{HoldsObjects}
use Rattle.store_check.specs.Values.{IsKnownRecord, IsRight, IsSpelledAt, NodeMap, bare, objects_of}
use Rattle.store_check.specs.Wrong.{IsFirstWrong, IsRightIn}
use Rattle.store_check.proofs.Exist.{Pair, values_exist}

-- maps 0 to 2 are those of the three kinds
low_map : (kind : Kind) → map_number (map_for kind) < 3
low_map kinds.Node = omega arith
low_map kinds.Way = omega arith
low_map kinds.Relation = omega arith

of_map : (P : StoreMap → Type 0) → ((kind : Kind) → P (map_for kind)) → (map : StoreMap) → map_number map < 3 → P map
of_map P each stored.Nodes low = each kinds.Node
of_map P each stored.Ways low = each kinds.Way
of_map P each stored.Relations low = each kinds.Relation
of_map P each stored.WaysOfBlocks low = absurd (omega (arith, low))
of_map P each stored.RelationsOfNodes low = absurd (omega (arith, low))
of_map P each stored.RelationsOfWays low = absurd (omega (arith, low))
of_map P each stored.NodeRows low = absurd (omega (arith, low))
of_map P each stored.OtherRows low = absurd (omega (arith, low))

-- a value that spells a record is one read
node_read : (bytes : Option (List ℕ)) (place : Option PlaceOf) (own : List ℕ) → bytes ≡ Some own → HasPlaceOf bytes place
    → (value : NodeRecord) × Spells record_bytes IsRecord own value
node_read bytes place own is held =
    elim held.found as (λ o. ReadAs record_bytes IsRecord (Some own) o → (value : NodeRecord) × Spells record_bytes IsRecord own value) [
      | None ↦ λ none. absurd none
      | Some value ↦ λ read. (value, read)
    ] (subst (λ (o : Option (List ℕ)). ReadAs record_bytes IsRecord o held.found) is held.read)

pair_read : (key : ℕ) (bytes : Option (List ℕ)) (found : Option NodeRecord)
    → Pair (λ id own value. Spells record_bytes IsRecord own value) key bytes found → ReadAs record_bytes IsRecord bytes found
pair_read key None None are = tt
pair_read key (Some bytes) (Some value) are = are
pair_read key None (Some value) are = absurd are
pair_read key (Some bytes) None are = absurd are

one_read : (bytes : Option (List ℕ)) (one other : Option NodeRecord) → ReadAs record_bytes IsRecord bytes one
    → ReadAs record_bytes IsRecord bytes other → one ≡ other
one_read None None None first second = refl
one_read None None (Some other) first second = absurd second
one_read None (Some one) other first second = absurd first
one_read (Some bytes) None other first second = absurd first
one_read (Some bytes) (Some one) None first second = absurd second
one_read (Some bytes) (Some one) (Some other) first second =
    ap (λ (value : NodeRecord). Some value) (second.alone one first.is first.bytes_are)

module _ (style : StyleOf) (image : Image) where
  known : (bytes : Option (List ℕ)) (key : ℕ) → IsSpelledAt record_bytes (IsKnownIf (reaches_nodes style)) bytes key
      → IsSpelledAt record_bytes (IsKnownRecord style) bytes key
  known None key right = tt
  known (Some bytes) key right =
      (right.0, (right.1.0, record { is = right.1.1.is; known = right.1.1.known }, right.1.2))

  known_if : (bytes : Option (List ℕ)) (key : ℕ) → IsSpelledAt record_bytes (IsKnownRecord style) bytes key
      → IsSpelledAt record_bytes (IsKnownIf (reaches_nodes style)) bytes key
  known_if None key right = tt
  known_if (Some bytes) key right =
      (right.0, (right.1.0, record { is = right.1.1.is; known = right.1.1.known }, right.1.2))

  module _ (nodes : NodeMap) (objects : ObjectSet) where
    right_in : (kind : Kind) (key : ℕ) → IsRightOf (reaches_nodes style) image kind key → IsRight style image nodes objects (map_for kind) key
    right_in kinds.Node key right = known (bytes_in image kinds.Node key) key right
    right_in kinds.Way key right = right
    right_in kinds.Relation key right = right

    right_back : (kind : Kind) (key : ℕ) → IsRight style image nodes objects (map_for kind) key
        → IsRightOf (reaches_nodes style) image kind key
    right_back kinds.Node key right = known_if (bytes_in image kinds.Node key) key right
    right_back kinds.Way key right = right
    right_back kinds.Relation key right = right

  nothing_held_at : (kind : Kind) (key : ℕ) → IsAbsentAt kind key nothing_held
  nothing_held_at kinds.Node key = finite.get-empty nat_cmp key
  nothing_held_at kinds.Way key = finite.get-empty nat_cmp key
  nothing_held_at kinds.Relation key = finite.get-empty nat_cmp key

  nothing_part : IsPartOf image nothing_held
  nothing_part = record {
    each = λ kind key. inl (nothing_held_at kind key);
    members = λ id. finite.get-empty key_cmp (relation_key id) ∙ sym (finite.get-empty nat_cmp id);
  }

  -- all values are right
  pub all_found : (own : HeldOf) → JudgesAll (reaches_nodes style) image nothing_held own → HoldsObjects style image own
  all_found own all =
      let held = all.held nothing_part in
      let part = all.part_of nothing_part in
      let exist = values_exist (λ id bytes value. Spells record_bytes IsRecord bytes value) (image.maps 0)
      (λ key bytes is. node_read (finite.get (image.maps 0) key) (finite.get own.places key) bytes is (held kinds.Node key)) in
      let reads = λ (key : ℕ). pair_read key (finite.get (image.maps 0) key) (finite.get exist.0 key) (exist.1 key) in
      record {
        nodes = exist.0;
        ways = own.ways;
        relations = own.relations;
        read = record { nodes_read = reads; ways_read = held kinds.Way; relations_read = held kinds.Relation };
        held = record {
          places_are = λ id. let at = held kinds.Node id in
              at.place_is ∙ ap (λ (found : Option NodeRecord). place_in (option_map bare found))
              (one_read (finite.get (image.maps 0) id) at.found (finite.get exist.0 id) at.read (reads id));
          ways_are = refl;
          relations_are = refl;
          members_are = part.members;
        };
        right = of_map (λ map. (key : ℕ) → IsRightIn style image exist.0 own.ways own.relations map key)
            (λ kind key. right_in exist.0 (objects_of exist.0 own.ways own.relations) kind key (all.right kind key));
      }

  -- or one is not
  pub first_found : (own : Wrong) → IsFirstOf (reaches_nodes style) image own → IsFirstWrong style image own.map own.key
  first_found own first =
      let kind = first.kind in
      let objects = objects_of finite.empty finite.empty finite.empty in
      subst (λ (map : StoreMap). IsFirstWrong style image map own.key) (sym first.map_is) (record {
        nodes = finite.empty;
        ways = finite.empty;
        relations = finite.empty;
        read = λ behind. absurd (omega (arith, behind, low_map kind));
        least = record {
          maps_before = λ other less. of_map (λ map. map_number map < map_number (map_for kind) → (key : ℕ)
              → IsRight style image finite.empty objects map key)
              (λ before lower key. right_in finite.empty objects before key (first.maps_before before lower key)) other
              (omega (arith, less, low_map kind)) less;
          keys_before = λ key less. right_in finite.empty objects kind key (first.keys_before key less);
          wrong = λ right. first.wrong (right_back finite.empty objects kind own.key right);
        };
      })

  -- whatever was asked, and whatever was there
  pub all_found_so : (asked : Bool) (old own : HeldOf) (found : Option Wrong) → asked ≡ reaches_nodes style → old ≡ nothing_held
      → found ≡ None → Judges asked image old own found → HoldsObjects style image own
  all_found_so asked old own found asks nothing none judges =
      all_found own (subst (λ (own_old : HeldOf). JudgesAll (reaches_nodes style) image own_old own) nothing
      (subst (λ (own_asked : Bool). JudgesAll own_asked image old own) asks
      (subst (λ (o : Option Wrong). Judges asked image old own o) none judges)))

  pub first_found_so : (asked : Bool) (old own : HeldOf) (found : Option Wrong) (wrong : Wrong) → asked ≡ reaches_nodes style
      → found ≡ Some wrong → Judges asked image old own found → IsFirstWrong style image wrong.map wrong.key
  first_found_so asked old own found wrong asks is judges =
      first_found wrong (subst (λ (own_asked : Bool). IsFirstOf own_asked image wrong) asks
      (subst (λ (o : Option Wrong). Judges asked image old own o) is judges))
