-- Rows that are kept under a key are wrong where the key has no object.
use Rattle.std.proofs.Common.{◌≡◌, ◌≢◌, arith, ◌%◌, ◌/◌, ℕ, nat_eq, Bool, true, false, List, Option, Some, None, refl, sym, ap, subst, ◌∙◌}
use Rattle.std.specs.Prelude.{IsSome, is_some, if◌then◌else◌}
use Rattle.std.specs.FinMap as finite
use Rattle.std.proofs.lemmas.Bool.Decides.{nat_tests}
use Rattle.std.specs.Option.{option_map}
use Rattle.osm_base.specs.declared.values.object.Object.{Object}
use Rattle.osm_base.specs.map.Objects.{ObjectSet}
use Rattle.osm_base.specs.declared.values.key.Kind.{Kind}
use Rattle.osm_base.specs.declared.values.key.Kind.TheVariants as kinds
use Rattle.osm_base.specs.values.Key.{IsId, node_key, way_key, relation_key}
use Rattle.style_read.specs.Style.{StyleOf}
use Rattle.value_bytes.specs.Maps.{ReadAs}
use Rattle.value_bytes.specs.Objects.{object_bytes, IsStored}
use Rattle.value_bytes.specs.StoreMap.{map_number}
use Rattle.store_maps.specs.Asked.{object_map}
use Rattle.value_bytes.specs.Nodes.{record_bytes, IsRecord}
use Rattle.value_bytes.specs.declared.nodes.NodeRecord.{NodeRecord}
use Rattle.value_bytes.specs.declared.store_map.StoreMap.TheVariants as stored
use Rattle.bucket_store.specs.Image.{Image}
use Rattle.row_store.specs.Loading.{key_of}
use Rattle.store_check.specs.Held.{HeldOf}
use Rattle.store_check.specs.Judged.{Tells, other_at}
use Rattle.store_check.specs.Values.{IfUnknown, NodeMap, ObjectMap, bare, objects_of, record_at}
use Rattle.store_check.specs.Wrong.{IsRightIn}
use Rattle.store_check.proofs.HeldRows.{relation_held, way_held}
use Rattle.store_check.proofs.ObjectSets.{get_node, get_way, get_relation}
use Rattle.store_check.proofs.RowRight.{none_at, some_wrong}

pub even_is : (n : ℕ) → n ≡ 0 → nat_eq n 0 ≡ true
even_is n is = grind (arith, nat_tests)

pub odd_is : (n : ℕ) → n ≢ 0 → nat_eq n 0 ≡ false
odd_is n is = grind (arith, nat_tests)

module _ (style : StyleOf) (image : Image) (nodes : NodeMap) (ways relations : ObjectMap) (own : HeldOf)
    (tells : Tells own image nodes ways relations) where
  abbrev objects : ObjectSet
  objects = objects_of nodes ways relations

  read_there : (bytes : List ℕ) (found : Option NodeRecord) → ReadAs record_bytes IsRecord (Some bytes) found
      → option_map bare found ≡ None → ⊥
  read_there bytes None read none = read
  read_there bytes (Some node) read none = cc

  pub node_there : (id : ℕ) (bytes : List ℕ) → Some bytes ≡ finite.get (image.maps 0) id → finite.get objects (node_key id) ≡ None → ⊥
  node_there id bytes there none =
      read_there bytes (finite.get nodes id)
      (subst (λ (kept : Option (List ℕ)). ReadAs record_bytes IsRecord kept (finite.get nodes id)) (sym there) (tells.read.nodes_read id))
      (sym (get_node nodes ways relations id) ∙ none)

  pub node_missing : (id : ℕ) (bytes : List ℕ) → finite.get (image.maps 6) id ≡ Some bytes → None ≡ finite.get (image.maps 0) id
      → ¬ IsRightIn style image nodes ways relations stored.NodeRows id
  node_missing id bytes kept none =
      let absent : finite.get nodes id ≡ None = none_at record_bytes IsRecord (finite.get (image.maps 0) id) (finite.get nodes id)
      (tells.read.nodes_read id) (sym none) in
      some_wrong style image nodes objects stored.NodeRows id (node_key id) refl (finite.get (image.maps 6) id) refl
      (subst (λ (found : Option NodeRecord). IfUnknown found (λ place. ⊥) (Unit {0})) (sym absent) tt)
      (get_node nodes ways relations id ∙ ap (option_map bare) absent) bytes kept

  module _ (number : ℕ) where
    other_of : (b : Bool) → (if b then finite.get own.ways (number / 2) else finite.get own.relations (number / 2))
        ≡ finite.get objects (if b then way_key (number / 2) else relation_key (number / 2))
    other_of true = way_held nodes ways relations own tells.held (number / 2)
    other_of false = relation_held nodes ways relations own tells.held (number / 2)

    other_is : other_at own number ≡ finite.get objects (key_of 7 number)
    other_is = other_of (nat_eq (number % 2) 0)

    knows : (b : Bool) → IfUnknown (record_at nodes (if b then way_key (number / 2) else relation_key (number / 2))) (λ place. ⊥) (Unit {0})
    knows true = tt
    knows false = tt

    is_there : (found : Option Object) → is_some found ≡ true → found ≡ None → ⊥
    is_there found some none = cc

    is_none : (found : Option Object) → is_some found ≡ false → found ≡ None
    is_none None none = refl
    is_none (Some object) none = absurd (cc)

    pub other_there : is_some (other_at own number) ≡ true → finite.get objects (key_of 7 number) ≡ None → ⊥
    other_there some none = is_there (other_at own number) some (other_is ∙ none)

    pub other_missing : (bytes : List ℕ) → finite.get (image.maps 7) number ≡ Some bytes → is_some (other_at own number) ≡ false
        → ¬ IsRightIn style image nodes ways relations stored.OtherRows number
    other_missing bytes kept none =
        some_wrong style image nodes objects stored.OtherRows number (key_of 7 number) refl (finite.get (image.maps 7) number) refl
        (knows (nat_eq (number % 2) 0)) (sym other_is ∙ is_none (other_at own number) none) bytes kept

  -- what is kept of an object is kept under an id
  way_read : (kind : Kind) (bytes : List ℕ) (found : Option Object) → ReadAs object_bytes (IsStored kind) (Some bytes) found → IsSome found
  way_read kind bytes None read = absurd read
  way_read kind bytes (Some object) read = refl

  node_read : (bytes : List ℕ) (found : Option NodeRecord) → ReadAs record_bytes IsRecord (Some bytes) found → IsSome (option_map bare found)
  node_read bytes None read = absurd read
  node_read bytes (Some node) read = refl

  pub kept_has_id : (kind : Kind) (id : ℕ) (bytes : List ℕ) → finite.get (image.maps (map_number (object_map kind))) id ≡ Some bytes → IsId id
  kept_has_id kinds.Node id bytes there = tells.ids (node_key id) (subst IsSome (sym (get_node nodes ways relations id))
      (node_read bytes (finite.get nodes id)
      (subst (λ (kept : Option (List ℕ)). ReadAs record_bytes IsRecord kept (finite.get nodes id)) there (tells.read.nodes_read id))))
  kept_has_id kinds.Way id bytes there = tells.ids (way_key id) (subst IsSome (sym (get_way nodes ways relations id))
      (way_read kinds.Way bytes (finite.get ways id)
      (subst (λ (kept : Option (List ℕ)). ReadAs object_bytes (IsStored kinds.Way) kept (finite.get ways id)) there
      (tells.read.ways_read id))))
  kept_has_id kinds.Relation id bytes there = tells.ids (relation_key id) (subst IsSome (sym (get_relation nodes ways relations id))
      (way_read kinds.Relation bytes (finite.get relations id)
      (subst (λ (kept : Option (List ℕ)). ReadAs object_bytes (IsStored kinds.Relation) kept (finite.get relations id)) there
      (tells.read.relations_read id))))
