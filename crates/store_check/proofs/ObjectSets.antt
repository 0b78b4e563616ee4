-- The objects of what maps 0 to 2 read as.
use Rattle.std.proofs.Common.{◌≡◌, ℕ, Bool, true, false, ◌&&◌, cond, List, [], ◌∷◌, Option, Some, None, refl, sym, ap, ◌∙◌}
use Rattle.std.specs.FinMap as finite
use Rattle.std.specs.FinMap.{find}
use Rattle.std.specs.Option.{option_map, option_or}
use Rattle.std.specs.Ordering.{eq_by_cmp, nat_cmp}
use Rattle.osm_base.specs.declared.values.key.Kind.{Kind}
use Rattle.osm_base.specs.declared.values.key.Kind.TheVariants as kinds
use Rattle.osm_base.specs.declared.values.object.Object.{Object}
use Rattle.osm_base.specs.map.Listers.{is_kind}
use Rattle.osm_base.specs.map.Objects.{ObjectSet}
use Rattle.osm_base.specs.values.Key.{KeyOf, node_key, way_key, relation_key}
use Rattle.osm_base.specs.values.KeyOrder.{key_cmp}
use Rattle.osm_base.proofs.KeyLaws.{key_cmp_total}
use Rattle.value_bytes.specs.declared.nodes.NodeRecord.{NodeRecord}
use Rattle.store_check.specs.Values.{bare, itself, objects_of, put_all}

abbrev pub key : Kind → ℕ → KeyOf
key kind id = record { kind = kind; id = id }

tied : (kind other : Kind) (id own : ℕ) → eq_by_cmp key_cmp (key kind id) (key other own) ≡ (is_kind kind other && eq_by_cmp nat_cmp id own)
tied kinds.Node kinds.Node id own = refl
tied kinds.Node kinds.Way id own = refl
tied kinds.Node kinds.Relation id own = refl
tied kinds.Way kinds.Node id own = refl
tied kinds.Way kinds.Way id own = refl
tied kinds.Way kinds.Relation id own = refl
tied kinds.Relation kinds.Node id own = refl
tied kinds.Relation kinds.Way id own = refl
tied kinds.Relation kinds.Relation id own = refl

kind_itself : (kind : Kind) → is_kind kind kind ≡ true
kind_itself kinds.Node = refl
kind_itself kinds.Way = refl
kind_itself kinds.Relation = refl

module _ {X : Type 0} (kind : Kind) (form : X → Object) (rest : ObjectSet) where
  first_or : (b : Bool) (value : X) (found : Option X) (other : Option Object)
      → cond b (Some (form value)) (option_or (option_map form found) other) ≡ option_or (option_map form (cond b (Some value) found)) other
  first_or true value found other = refl
  first_or false value found other = refl

  here : (es : List (ℕ × X)) (id : ℕ) → finite.get (put_all kind form rest es) (key kind id)
      ≡ option_or (option_map form (find nat_cmp id es)) (finite.get rest (key kind id))
  here [] id = refl
  here (one ∷ es) id =
      finite.get-insert key_cmp_total (put_all kind form rest es) (key kind one.0) (form one.1) (key kind id)
      ∙ ap (λ b. cond b (Some (form one.1)) (finite.get (put_all kind form rest es) (key kind id)))
      (tied kind kind id one.0 ∙ ap (λ b. b && eq_by_cmp nat_cmp id one.0) (kind_itself kind))
      ∙ ap (λ found. cond (eq_by_cmp nat_cmp id one.0) (Some (form one.1)) found) (here es id)
      ∙ first_or (eq_by_cmp nat_cmp id one.0) one.1 (find nat_cmp id es) (finite.get rest (key kind id))

  beside : (other : Kind) → is_kind other kind ≡ false → (es : List (ℕ × X)) (id : ℕ)
      → finite.get (put_all kind form rest es) (key other id) ≡ finite.get rest (key other id)
  beside other apart [] id = refl
  beside other apart (one ∷ es) id =
      finite.get-insert key_cmp_total (put_all kind form rest es) (key kind one.0) (form one.1) (key other id)
      ∙ ap (λ b. cond b (Some (form one.1)) (finite.get (put_all kind form rest es) (key other id)))
      (tied other kind id one.0 ∙ ap (λ b. b && eq_by_cmp nat_cmp id one.0) apart)
      ∙ beside other apart es id

or_none : (found : Option Object) → option_or found None ≡ found
or_none None = refl
or_none (Some object) = refl

map_itself : (found : Option Object) → option_map itself found ≡ found
map_itself None = refl
map_itself (Some object) = refl

no_object : (own : KeyOf) → finite.get {R = key_cmp} (finite.empty {X = Object}) own ≡ None
no_object own = finite.get-empty key_cmp own

module _ (nodes : finite.FinMap nat_cmp NodeRecord) (ways relations : finite.FinMap nat_cmp Object) where
  abbrev relations_set : ObjectSet
  relations_set = put_all kinds.Relation itself finite.empty (finite.entries relations)

  abbrev ways_set : ObjectSet
  ways_set = put_all kinds.Way itself relations_set (finite.entries ways)

  pub get_node : (id : ℕ) → finite.get (objects_of nodes ways relations) (node_key id) ≡ option_map bare (finite.get nodes id)
  unfolding objects_of
  get_node id =
      here kinds.Node bare ways_set (finite.entries nodes) id
      ∙ ap (λ other. option_or (option_map bare (find nat_cmp id (finite.entries nodes))) other)
      (beside kinds.Way itself relations_set kinds.Node refl (finite.entries ways) id
      ∙ beside kinds.Relation itself finite.empty kinds.Node refl (finite.entries relations) id ∙ no_object (node_key id))
      ∙ or_none (option_map bare (find nat_cmp id (finite.entries nodes)))
      ∙ ap (option_map bare) (sym (finite.get-entries nodes id))

  pub get_way : (id : ℕ) → finite.get (objects_of nodes ways relations) (way_key id) ≡ finite.get ways id
  unfolding objects_of
  get_way id =
      beside kinds.Node bare ways_set kinds.Way refl (finite.entries nodes) id
      ∙ here kinds.Way itself relations_set (finite.entries ways) id
      ∙ ap (λ other. option_or (option_map itself (find nat_cmp id (finite.entries ways))) other)
      (beside kinds.Relation itself finite.empty kinds.Way refl (finite.entries relations) id ∙ no_object (way_key id))
      ∙ or_none (option_map itself (find nat_cmp id (finite.entries ways)))
      ∙ map_itself (find nat_cmp id (finite.entries ways))
      ∙ sym (finite.get-entries ways id)

  pub get_relation : (id : ℕ) → finite.get (objects_of nodes ways relations) (relation_key id) ≡ finite.get relations id
  unfolding objects_of
  get_relation id =
      beside kinds.Node bare ways_set kinds.Relation refl (finite.entries nodes) id
      ∙ beside kinds.Way itself relations_set kinds.Relation refl (finite.entries ways) id
      ∙ here kinds.Relation itself finite.empty (finite.entries relations) id
      ∙ ap (λ other. option_or (option_map itself (find nat_cmp id (finite.entries relations))) other) (no_object (relation_key id))
      ∙ or_none (option_map itself (find nat_cmp id (finite.entries relations)))
      ∙ map_itself (find nat_cmp id (finite.entries relations))
      ∙ sym (finite.get-entries relations id)
