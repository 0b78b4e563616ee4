-- The listings follow the objects: one is set, one is taken away, or setting one fails.
use Rattle.std.proofs.Common.{◌≡◌, ℕ, Bool, true, false, not, ◌&&◌, ◌||◌, cond, List, [], Option, Some, None, refl, sym, ap, subst, ◌∙◌}
use mathlib.Core.Bool.{false≢true}
use Rattle.std.specs.Option.{IsSome}
use Rattle.std.specs.Cmp.{Equal-is}
use Rattle.std.specs.FinMap as finite
use Rattle.osm_base.specs.declared.values.key.Kind.{Kind}
use Rattle.osm_base.specs.declared.values.key.Kind.TheVariants.{Node, Way}
use Rattle.osm_base.specs.declared.values.object.Object.{Object}
use Rattle.osm_base.specs.values.Key.{KeyOf, IsId}
use Rattle.osm_base.specs.values.KeyOrder.{key_cmp}
use Rattle.osm_base.proofs.KeyLaws.{key_cmp_total, key_cmp-IsAntisymmetric}
use Rattle.object_fold.specs.declared.listed.Listed.{Listed}
use Rattle.object_fold.specs.declared.listings.Listings.{Listings}
use Rattle.osm_base.specs.map.Objects.{ObjectSet}
use Rattle.osm_base.specs.map.Listers.{listed, lists}
use Rattle.osm_base.specs.values.Ids.{has}
use Rattle.object_fold.specs.Listings.{WhoLists, Answer, way, relation, told_of, is_key, added, taken, Turns, AddsSome, AreListed}
use Rattle.object_fold.specs.Listings.{AreListedBy}

-- what says the same of nodes and of ways is answered alike
answers-same : (listings : Listings) (one other : WhoLists) → Answer listings one
    → ((by : KeyOf) (id : ℕ) → one by Node id ≡ other by Node id)
    → ((by : KeyOf) (id : ℕ) → one by Way id ≡ other by Way id) → Answer listings other
answers-same listings one other answer nodes ways = record {
  ways_of_nodes = λ id by. answer.ways_of_nodes id by ∙ nodes (way by) id;
  relations_of_nodes = λ id by. answer.relations_of_nodes id by ∙ nodes (relation by) id;
  relations_of_ways = λ id by. answer.relations_of_ways id by ∙ ways (relation by) id;
}

set_bits : (same new old row : Bool) → (same ≡ true → row ≡ old)
    → (not (same && old && not new) && ((same && new) || row)) ≡ cond same new row
set_bits false new old row is = refl
set_bits true true true row is = refl
set_bits true true false row is = refl
set_bits true false true row is = refl
set_bits true false false row is = is refl

unset_bits : (same old row : Bool) → (same ≡ true → row ≡ old) → (not (same && old && not false) && row) ≡ cond same false row
unset_bits false old row is = refl
unset_bits true true row is = refl
unset_bits true false row is = is refl

undone_bits : (same some new old row : Bool) → (some ≡ true → new ≡ true) → (same ≡ true → row ≡ old)
    → (not (same && new && not old) && ((same && some) || row)) ≡ row
undone_bits false some new old row within is = refl
undone_bits true some true true row within is = rw (is refl) (or-true some)
  where
    or-true : (b : Bool) → (b || true) ≡ true
    or-true true = refl
    or-true false = refl
undone_bits true some true false row within is = sym (is refl)
undone_bits true true false old row within is = absurd (false≢true (within refl))
undone_bits true false false old row within is = refl

is_key-same : (key by : KeyOf) → is_key key by ≡ true → by ≡ key
is_key-same key by same = key_cmp-IsAntisymmetric by key ((Equal-is (key_cmp by key)).0 same)

chosen_lists : (same : Bool) (kind : Kind) (id : ℕ) (object : Object) (own : Option Object)
    → lists kind id (cond same (Some object) own) ≡ cond same (has (listed kind object) id) (lists kind id own)
chosen_lists true kind id object own = refl
chosen_lists false kind id object own = refl

absent_lists : (same : Bool) (kind : Kind) (id : ℕ) (own : Option Object)
    → lists kind id (cond same None own) ≡ cond same false (lists kind id own)
absent_lists true kind id own = refl
absent_lists false kind id own = refl

module _ (objects : ObjectSet) (key : KeyOf) (old : Listed) (were : AreListedBy (finite.get objects key) old) where
  was_nodes : (by : KeyOf) (id : ℕ) → is_key key by ≡ true → told_of objects by Node id ≡ has old.nodes id
  was_nodes by id same = ap (λ own. lists Node id (finite.get objects own)) (is_key-same key by same) ∙ sym (were.nodes id)

  was_ways : (by : KeyOf) (id : ℕ) → is_key key by ≡ true → told_of objects by Way id ≡ has old.ways id
  was_ways by id same = ap (λ own. lists Way id (finite.get objects own)) (is_key-same key by same) ∙ sym (were.ways id)

  module _ (object : Object) (new : Listed) (are : AreListed object new) (before between after : Listings) where
    set_told : (kind : Kind) (ids : List ℕ) → ((id : ℕ) → has ids id ≡ has (listed kind object) id)
        → (by : KeyOf) (id : ℕ) → cond (is_key key by) (has ids id) (told_of objects by kind id)
        ≡ told_of (finite.insert objects key object) by kind id
    set_told kind ids same by id =
        ap (λ b. cond (is_key key by) b (told_of objects by kind id)) (same id)
        ∙ sym (chosen_lists (is_key key by) kind id object (finite.get objects by))
        ∙ ap (lists kind id) (sym (finite.get-insert key_cmp_total objects key object by))

    pub set-answers : Answer before (told_of objects) → Turns (added key new) before between → Turns (taken key old new) between after
        → Answer after (told_of (finite.insert objects key object))
    set-answers answer adds takes =
        answers-same after (taken key old new (added key new (told_of objects))) (told_of (finite.insert objects key object))
        (takes (added key new (told_of objects)) (adds (told_of objects) answer))
        (λ by id. set_bits (is_key key by) (has new.nodes id) (has old.nodes id) (told_of objects by Node id) (was_nodes by id)
        ∙ set_told Node new.nodes are.nodes by id)
        (λ by id. set_bits (is_key key by) (has new.ways id) (has old.ways id) (told_of objects by Way id) (was_ways by id)
        ∙ set_told Way new.ways are.ways by id)

  pub undone-answers : (before between after : Listings) (new : Listed) → Answer before (told_of objects) → AddsSome key new before between
      → Turns (taken key new old) between after
      → Answer after (told_of objects)
  undone-answers before between after new answer (some, within, adds) takes =
      answers-same after (taken key new old (added key some (told_of objects))) (told_of objects)
      (takes (added key some (told_of objects)) (adds (told_of objects) answer))
      (λ by id. undone_bits (is_key key by) (has some.nodes id) (has new.nodes id) (has old.nodes id) (told_of objects by Node id)
      (within Node id) (was_nodes by id))
      (λ by id. undone_bits (is_key key by) (has some.ways id) (has new.ways id) (has old.ways id) (told_of objects by Way id)
      (within Way id) (was_ways by id))

  module _ (none : Listed) (nodes : none.nodes ≡ []) (ways : none.ways ≡ []) (before after : Listings) where
    unset_told : (kind : Kind) (by : KeyOf) (id : ℕ)
        → cond (is_key key by) false (told_of objects by kind id) ≡ told_of (finite.remove objects key) by kind id
    unset_told kind by id =
        sym (absent_lists (is_key key by) kind id (finite.get objects by))
        ∙ ap (lists kind id) (sym (finite.get-remove key_cmp_total objects key by))

    pub unset-answers : Answer before (told_of objects) → Turns (taken key old none) before after
        → Answer after (told_of (finite.remove objects key))
    unset-answers answer takes =
        answers-same after (taken key old none (told_of objects)) (told_of (finite.remove objects key)) (takes (told_of objects) answer)
        (λ by id. ap (λ ids. not (is_key key by && has old.nodes id && not (has ids id)) && told_of objects by Node id) nodes
        ∙ unset_bits (is_key key by) (has old.nodes id) (told_of objects by Node id) (was_nodes by id) ∙ unset_told Node by id)
        (λ by id. ap (λ ids. not (is_key key by && has old.ways id && not (has ids id)) && told_of objects by Way id) ways
        ∙ unset_bits (is_key key by) (has old.ways id) (told_of objects by Way id) (was_ways by id) ∙ unset_told Way by id)

-- the keys still have ids
module _ (objects : ObjectSet) (ids : (key : KeyOf) → IsSome (finite.get objects key) → IsId key.id) (key : KeyOf) where
  pub set-ids : (object : Object) → IsId key.id → (other : KeyOf) → IsSome (finite.get (finite.insert objects key object) other)
      → IsId other.id
  set-ids object id other there =
      elim (is_key key other) as (λ b. is_key key other ≡ b → IsSome (cond b (Some object) (finite.get objects other)) → IsId other.id) [
        | true ↦ λ same _. subst (λ (own : KeyOf). IsId own.id) (sym (is_key-same key other same)) id
        | false ↦ λ differs some. ids other some
      ] refl (subst IsSome (finite.get-insert key_cmp_total objects key object other) there)

  pub unset-ids : (other : KeyOf) → IsSome (finite.get (finite.remove objects key) other) → IsId other.id
  unset-ids other there =
      elim (is_key key other) as (λ b. is_key key other ≡ b → IsSome (cond b None (finite.get objects other)) → IsId other.id) [
        | true ↦ λ same none. absurd (cc)
        | false ↦ λ differs some. ids other some
      ] refl (subst IsSome (finite.get-remove key_cmp_total objects key other) there)

-- what becomes of a node is no matter of the listings
module _ (key : KeyOf) (is_node : key.kind ≡ Node) (objects after : ObjectSet) (own : Option Object)
    (is : (at : KeyOf) → finite.get after at ≡ cond (is_key key at) own (finite.get objects at)) where
  no_way : (id by : ℕ) → is_key (record { kind = Node; id = id }) (way by) ≡ false
  no_way id by = refl

  no_relation : (id by : ℕ) → is_key (record { kind = Node; id = id }) (relation by) ≡ false
  no_relation id by = refl

  same_way : (by : ℕ) → finite.get after (way by) ≡ finite.get objects (way by)
  same_way by = is (way by) ∙ ap (λ b. cond b own (finite.get objects (way by)))
      (ap (λ kind. is_key (record { kind = kind; id = key.id }) (way by)) is_node ∙ no_way key.id by)

  same_relation : (by : ℕ) → finite.get after (relation by) ≡ finite.get objects (relation by)
  same_relation by =
      is (relation by) ∙ ap (λ b. cond b own (finite.get objects (relation by)))
      (ap (λ kind. is_key (record { kind = kind; id = key.id }) (relation by)) is_node ∙ no_relation key.id by)

  pub node-answers : (listings : Listings) → Answer listings (told_of objects) → Answer listings (told_of after)
  node-answers listings answer = record {
    ways_of_nodes = λ id by. answer.ways_of_nodes id by ∙ ap (lists Node id) (sym (same_way by));
    relations_of_nodes = λ id by. answer.relations_of_nodes id by ∙ ap (lists Node id) (sym (same_relation by));
    relations_of_ways = λ id by. answer.relations_of_ways id by ∙ ap (lists Way id) (sym (same_relation by));
  }
