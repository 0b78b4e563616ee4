-- Objects of which some nodes are known by their places: what is found, what an entry makes of them, and their index.
use Rattle.std.proofs.Common.{◌≡◌, ℕ, Bool, true, false, cond, List, [], ◌∷◌, Option, Some, None, Result, Ok, Err, IfOk, IfSome, OnOk, refl}
use Rattle.std.proofs.Common.{sym, ap, subst, ◌∙◌}
use Rattle.std.specs.Cmp.{nat_cmp_total}
use Rattle.std.specs.FinMap as finite
use Rattle.std.specs.Option.{option_map, option_or}
use Rattle.std.specs.Ordering.{nat_cmp, eq_by_cmp}
use Rattle.osm_base.specs.declared.values.key.Kind.{Kind}
use Rattle.osm_base.specs.declared.values.key.Kind.TheVariants.{Node, Way, Relation}
use Rattle.osm_base.specs.declared.bounds.memory.OutOfMemory.{OutOfMemory}
use Rattle.osm_base.specs.declared.values.object.Entry.{Entry}
use Rattle.osm_base.specs.declared.values.object.Object.{Object}
use Rattle.osm_base.specs.declared.values.object.Object.TheVariants as objects
use Rattle.osm_base.specs.map.Listers.{ids_of, index_of, is_kind, known_of, lists}
use Rattle.osm_base.specs.map.Objects.{ObjectSet, folded, place_in, with_object}
use Rattle.osm_base.specs.values.Key.{KeyOf, node_key}
use Rattle.osm_base.specs.values.KeyOrder.{key_cmp}
use Rattle.osm_base.specs.values.Place.{PlaceOf}
use Rattle.osm_base.specs.values.Tags.{TagMap}
use Rattle.osm_base.proofs.KeyLaws.{key_cmp_total, key_cmp-IsAntisymmetric}
use Rattle.object_fold.proofs.FoldLaws.{get-with_object}
use Rattle.object_fold.proofs.IndexOf.{ids_of-rise}
use Rattle.object_fold.proofs.Listers.{key, has-ids_of, kind_same, untied-kinds}
use Rattle.object_fold.proofs.SortedIds.{same_rising}
use Rattle.placed_objects.specs.NodePlaces.{PlaceMap}
use Rattle.placed_objects.specs.Objects.{joined_objects, plain, with_nodes}

-- what is found of a node that may be known by its place
abbrev pub node_found : Option PlaceOf → Option Object → Option Object
node_found place object = option_or (option_map plain place) object

node_or : (b : Bool) (place : PlaceOf) (rest : Option PlaceOf) (object : Option Object)
    → cond b (Some (plain place)) (node_found rest object) ≡ node_found (cond b (Some place) rest) object
node_or true place rest object = refl
node_or false place rest object = refl

get-node-with : (nodes : List (ℕ × PlaceOf)) (objects : ObjectSet) (id : ℕ)
    → finite.get (with_nodes nodes objects) (node_key id) ≡ node_found (finite.find nat_cmp id nodes) (finite.get objects (node_key id))
get-node-with [] objects id = refl
get-node-with (node ∷ nodes) objects id =
    finite.get-insert key_cmp_total (with_nodes nodes objects) (node_key node.0) (plain node.1) (node_key id)
    ∙ ap (cond (eq_by_cmp nat_cmp id node.0) (Some (plain node.1))) (get-node-with nodes objects id)
    ∙ node_or (eq_by_cmp nat_cmp id node.0) node.1 (finite.find nat_cmp id nodes) (finite.get objects (node_key id))

pub get-node : (places : PlaceMap) (objects : ObjectSet) (id : ℕ)
    → finite.get (joined_objects places objects) (node_key id) ≡ node_found (finite.get places id) (finite.get objects (node_key id))
unfolding joined_objects
get-node places objects id =
    get-node-with (finite.entries places) objects id
    ∙ ap (λ place. node_found place (finite.get objects (node_key id))) (sym (finite.get-entries places id))

get-other-with : (nodes : List (ℕ × PlaceOf)) (objects : ObjectSet) (kind : Kind) (id : ℕ) → is_kind kind Node ≡ false
    → finite.get (with_nodes nodes objects) (key kind id) ≡ finite.get objects (key kind id)
get-other-with [] objects kind id other = refl
get-other-with (node ∷ nodes) objects kind id other =
    finite.get-insert key_cmp_total (with_nodes nodes objects) (node_key node.0) (plain node.1) (key kind id)
    ∙ ap (λ b. cond b (Some (plain node.1)) (finite.get (with_nodes nodes objects) (key kind id))) (untied-kinds kind Node id node.0 other)
    ∙ get-other-with nodes objects kind id other

pub get-other : (places : PlaceMap) (objects : ObjectSet) (kind : Kind) (id : ℕ) → is_kind kind Node ≡ false
    → finite.get (joined_objects places objects) (key kind id) ≡ finite.get objects (key kind id)
unfolding joined_objects
get-other places objects kind id other = get-other-with (finite.entries places) objects kind id other

by_kind : (P : KeyOf → Type 0) → ((id : ℕ) → P (node_key id)) → ((kind : Kind) (id : ℕ) → is_kind kind Node ≡ false → P (key kind id))
    → (kind : Kind) (id : ℕ) → P (key kind id)
by_kind P nodes others Node id = nodes id
by_kind P nodes others Way id = others Way id refl
by_kind P nodes others Relation id = others Relation id refl

same_objects : (one other : ObjectSet) → ((id : ℕ) → finite.get one (node_key id) ≡ finite.get other (node_key id))
    → ((kind : Kind) (id : ℕ) → is_kind kind Node ≡ false → finite.get one (key kind id) ≡ finite.get other (key kind id)) → one ≡ other
same_objects one other nodes others =
    finite.same_map key_cmp_total key_cmp-IsAntisymmetric one other
    (λ own. by_kind (λ at. finite.get one at ≡ finite.get other at) nodes others own.kind own.id)

-- no place and no object
pub joined_objects-empty : (places : PlaceMap) (objects : ObjectSet) → places ≡ finite.empty → objects ≡ finite.empty
    → joined_objects places objects ≡ finite.empty
joined_objects-empty places objects no_place no_object = same_objects (joined_objects places objects) finite.empty
    (λ id. get-node places objects id
    ∙ ap (λ (own : PlaceMap). node_found (finite.get own id) (finite.get objects (node_key id))) no_place
    ∙ ap (λ place. node_found place (finite.get objects (node_key id))) (finite.get-empty nat_cmp id)
    ∙ ap (λ (own : ObjectSet). finite.get own (node_key id)) no_object)
    (λ kind id other. get-other places objects kind id other ∙ ap (λ (own : ObjectSet). finite.get own (key kind id)) no_object)

chosen : (b : Bool) (place : Option PlaceOf) (object own : Option Object)
    → node_found (cond b None place) (cond b object own) ≡ cond b object (node_found place own)
chosen true place object own = refl
chosen false place object own = refl

-- an entry of a node that is put among the objects, and no longer known by its place
joined_objects-node : (places : PlaceMap) (objects : ObjectSet) (id : ℕ) (object : Option Object)
    → joined_objects (finite.remove places id) (with_object objects (node_key id) object) ≡ with_object (joined_objects places objects) (node_key id) object
joined_objects-node places objects id object = same_objects (joined_objects (finite.remove places id) (with_object objects (node_key id) object))
    (with_object (joined_objects places objects) (node_key id) object)
    (λ own.
    get-node (finite.remove places id) (with_object objects (node_key id) object) own
    ∙ ap (λ place. node_found place (finite.get (with_object objects (node_key id) object) (node_key own)))
    (finite.get-remove nat_cmp_total places id own)
    ∙ ap (node_found (cond (eq_by_cmp nat_cmp own id) None (finite.get places own)))
    (get-with_object objects (node_key id) object (node_key own))
    ∙ chosen (eq_by_cmp nat_cmp own id) (finite.get places own) object (finite.get objects (node_key own))
    ∙ ap (cond (eq_by_cmp nat_cmp own id) object) (sym (get-node places objects own))
    ∙ sym (get-with_object (joined_objects places objects) (node_key id) object (node_key own)))
    (λ kind own other.
    get-other (finite.remove places id) (with_object objects (node_key id) object) kind own other
    ∙ get-with_object objects (node_key id) object (key kind own)
    ∙ ap (cond (eq_by_cmp key_cmp (key kind own) (node_key id)) object) (sym (get-other places objects kind own other))
    ∙ sym (get-with_object (joined_objects places objects) (node_key id) object (key kind own)))

-- a place more
pub joined_objects-place : (places : PlaceMap) (objects : ObjectSet) (id : ℕ) (place : PlaceOf)
    → joined_objects (finite.insert places id place) objects ≡ finite.insert (joined_objects places objects) (node_key id) (plain place)
joined_objects-place places objects id place = same_objects (joined_objects (finite.insert places id place) objects)
    (finite.insert (joined_objects places objects) (node_key id) (plain place))
    (λ own.
    get-node (finite.insert places id place) objects own
    ∙ ap (λ found. node_found found (finite.get objects (node_key own))) (finite.get-insert nat_cmp_total places id place own)
    ∙ sym (node_or (eq_by_cmp nat_cmp own id) place (finite.get places own) (finite.get objects (node_key own)))
    ∙ ap (cond (eq_by_cmp nat_cmp own id) (Some (plain place))) (sym (get-node places objects own))
    ∙ sym (finite.get-insert key_cmp_total (joined_objects places objects) (node_key id) (plain place) (node_key own)))
    (λ kind own other.
    get-other (finite.insert places id place) objects kind own other
    ∙ sym (finite.get-insert key_cmp_total (joined_objects places objects) (node_key id) (plain place) (key kind own)
    ∙ ap (λ b. cond b (Some (plain place)) (finite.get (joined_objects places objects) (key kind own))) (untied-kinds kind Node own id other)
    ∙ get-other places objects kind own other))

untied-node : (kind : Kind) (id own : ℕ) → is_kind kind Node ≡ false → eq_by_cmp key_cmp (node_key own) (key kind id) ≡ false
untied-node Node id own other = absurd (cc)
untied-node Way id own other = refl
untied-node Relation id own other = refl

-- an entry of a way or a relation
pub joined_objects-object : (places : PlaceMap) (objects : ObjectSet) (kind : Kind) (id : ℕ) (object : Option Object) → is_kind kind Node ≡ false
    → joined_objects places (with_object objects (key kind id) object) ≡ with_object (joined_objects places objects) (key kind id) object
joined_objects-object places objects kind id object other =
    same_objects (joined_objects places (with_object objects (key kind id) object)) (with_object (joined_objects places objects) (key kind id) object)
    (λ own.
    get-node places (with_object objects (key kind id) object) own
    ∙ ap (node_found (finite.get places own))
    (get-with_object objects (key kind id) object (node_key own)
    ∙ ap (λ b. cond b object (finite.get objects (node_key own))) (untied-node kind id own other))
    ∙ sym (get-with_object (joined_objects places objects) (key kind id) object (node_key own)
    ∙ ap (λ b. cond b object (finite.get (joined_objects places objects) (node_key own))) (untied-node kind id own other)
    ∙ get-node places objects own))
    (λ own_kind own apart.
    get-other places (with_object objects (key kind id) object) own_kind own apart
    ∙ get-with_object objects (key kind id) object (key own_kind own)
    ∙ ap (cond (eq_by_cmp key_cmp (key own_kind own) (key kind id)) object) (sym (get-other places objects own_kind own apart))
    ∙ sym (get-with_object (joined_objects places objects) (key kind id) object (key own_kind own)))

place_found : (place : Option PlaceOf) (object : Option Object) → place_in (node_found place object) ≡ option_or place (place_in object)
place_found None object = refl
place_found (Some place) object = refl

-- the place of a node
pub joined_objects-known : (places : PlaceMap) (objects : ObjectSet) (id : ℕ)
    → (known_of (joined_objects places objects)).place id ≡ option_or (finite.get places id) ((known_of objects).place id)
joined_objects-known places objects id = ap place_in (get-node places objects id)
    ∙ place_found (finite.get places id) (finite.get objects (node_key id))

-- who lists what
pub joined_objects-lists : (places : PlaceMap) (objects : ObjectSet) (by kind : Kind) (id : ℕ) → is_kind by Node ≡ false
    → ids_of by kind id (joined_objects places objects) ≡ ids_of by kind id objects
joined_objects-lists places objects by kind id other =
    same_rising (ids_of by kind id (joined_objects places objects)) (ids_of by kind id objects) (ids_of-rise (joined_objects places objects) by kind id)
    (ids_of-rise objects by kind id)
    (λ own. has-ids_of (joined_objects places objects) by kind id own ∙ ap (lists kind id) (get-other places objects by own other)
    ∙ sym (has-ids_of objects by kind id own))

pub joined_objects-index : (places : PlaceMap) (objects : ObjectSet) → index_of (joined_objects places objects) ≡ index_of objects
joined_objects-index places objects = λ i. record {
  ways_of_node = λ id. joined_objects-lists places objects Way Node id refl i;
  relations_of_node = λ id. joined_objects-lists places objects Relation Node id refl i;
  relations_of_way = λ id. joined_objects-lists places objects Relation Way id refl i;
}

pub on_ok : {A E : Type 0} (result : Result A E) {P Q : Type 0} → (P → Q) → OnOk result P → OnOk result Q
on_ok (Ok value) f p = f p
on_ok (Err why) f p = tt

-- the object of a node without a tag
pub plain-of : (object : Option Object) (place : Option PlaceOf) (tags : TagMap) → object ≡ Some (objects.Node place tags)
    → finite.len tags ≡ 0 → IfSome place (λ own. object ≡ Some (plain own))
plain-of object None tags is none = tt
plain-of object (Some place) tags is none = is ∙ ap (λ own. Some (objects.Node (Some place) own)) (finite.empty_of_len tags none)

module _ (entry : Entry) (node : is_kind entry.key.kind Node ≡ true) (id : ℕ) (same : id ≡ entry.key.id) where
  own_key : node_key id ≡ entry.key
  own_key = λ i. record { kind = sym (kind_same entry.key.kind Node node) i; id = same i }

  -- an entry of a node that was put among the places, or was not
  pub put-answer : (old new : PlaceMap) (put : Result Bool OutOfMemory) (place : PlaceOf) → entry.object ≡ Some (plain place)
      → IfOk put (λ own. new ≡ cond own (finite.insert old id place) old)
      → IfOk put (λ own. (others : ObjectSet) → joined_objects new others ≡ cond own (folded (joined_objects old others) entry) (joined_objects old others))
  put-answer old new (Ok true) place object is = λ others.
      ap (λ own. joined_objects own others) is ∙ joined_objects-place old others id place
      ∙ λ i. with_object (joined_objects old others) (own_key i) (sym object i)
  put-answer old new (Ok false) place object is = λ others. ap (λ own. joined_objects own others) is
  put-answer old new (Err why) place object is = tt

  -- and one that was put among the other objects
  pub joined_objects-entry : (places : PlaceMap) (others : ObjectSet)
      → joined_objects (finite.remove places id) (folded others entry) ≡ folded (joined_objects places others) entry
  joined_objects-entry places others =
      subst (λ (at : KeyOf). joined_objects (finite.remove places id) (with_object others at entry.object)
      ≡ with_object (joined_objects places others) at entry.object) own_key
      (joined_objects-node places others id entry.object)
