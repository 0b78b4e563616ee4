-- What is held after the values of a map, one after another.
use Rattle.std.proofs.Common.{◌≡◌, ◌⊎◌, inl, inr, ℕ, Bool, true, false, cond, List, Option, Some, None, Result, Ok, Err, refl, sym, ap, subst, ◌∙◌}
use Rattle.std.specs.Cmp.{nat_cmp_total, tied_itself}
use Rattle.std.specs.FinMap as finite
use Rattle.std.specs.Result.{OnOk}
use Rattle.std.specs.Ordering.{eq_by_cmp, is_eq, nat_cmp}
use Rattle.osm_base.specs.declared.values.key.Kind.{Kind}
use Rattle.osm_base.specs.declared.values.key.Kind.TheVariants as kinds
use Rattle.osm_base.specs.declared.values.object.Object.{Object}
use Rattle.osm_base.specs.values.Key.{relation_key}
use Rattle.osm_base.specs.values.KeyOrder.{key_cmp}
use Rattle.osm_base.specs.values.Place.{PlaceOf}
use Rattle.osm_base.proofs.KeyLaws.{key_cmp_total}
use Rattle.value_bytes.specs.Forms.{Spells}
use Rattle.value_bytes.specs.Maps.{ReadAs}
use Rattle.value_bytes.specs.Nodes.{record_bytes, IsRecord}
use Rattle.value_bytes.specs.Objects.{object_bytes, IsStored}
use Rattle.value_bytes.specs.declared.nodes.NodeRecord.{NodeRecord}
use Rattle.bucket_store.specs.Image.{Image}
use Rattle.store_check.specs.Held.{HeldOf, with_place, with_relation, with_way}
use Rattle.store_check.specs.Judging.{IsAbsentAt, IsHeldAt, IsPartOf, IsRightOf, IsSameAt, Takes, bytes_in}
use Rattle.store_check.proofs.Exist.{same}

pub on_ok : {T E P Q : Type 0} (result : Result T E) → (P → Q) → OnOk result P → OnOk result Q
on_ok (Ok value) leads is = leads is
on_ok (Err fault) leads is = tt

put_here : {X : Type 0} (whole : finite.FinMap nat_cmp X) (id : ℕ) (value : X) → finite.get (finite.insert whole id value) id ≡ Some value
put_here whole id value =
    finite.get-insert nat_cmp_total whole id value id
    ∙ ap (λ b. cond b (Some value) (finite.get whole id)) (ap is_eq (tied_itself nat_cmp_total id))

put_apart : {X : Type 0} (whole : finite.FinMap nat_cmp X) (id : ℕ) (value : X) (key : ℕ)
    → (finite.get (finite.insert whole id value) key ≡ finite.get whole key) ⊎ (key ≡ id)
put_apart whole id value key =
    elim (eq_by_cmp nat_cmp key id) as (λ b. eq_by_cmp nat_cmp key id ≡ b
    → (finite.get (finite.insert whole id value) key ≡ finite.get whole key) ⊎ (key ≡ id)) [
      | true ↦ λ tied. inr (same key id tied)
      | false ↦ λ apart. inl (finite.get-insert nat_cmp_total whole id value key
          ∙ ap (λ b. cond b (Some value) (finite.get whole key)) apart)
    ] refl

-- one value more leaves all others
abbrev LeavesOthers : Kind → ℕ → HeldOf → HeldOf → Type 0
LeavesOthers kind id old new = (other : Kind) (key : ℕ) → IsSameAt other key old new ⊎ ((other ≡ kind) × (key ≡ id))

place_others : (own : HeldOf) (id : ℕ) (place : PlaceOf) → LeavesOthers kinds.Node id own (with_place own id place)
place_others own id place kinds.Node key = elim (put_apart own.places id place key) [
  | inl as_before ↦ inl as_before
  | inr here ↦ inr (refl, here)
]
place_others own id place kinds.Way key = inl refl
place_others own id place kinds.Relation key = inl refl

way_others : (own : HeldOf) (id : ℕ) (way : Object) → LeavesOthers kinds.Way id own (with_way own id way)
way_others own id way kinds.Node key = inl refl
way_others own id way kinds.Way key = elim (put_apart own.ways id way key) [
  | inl as_before ↦ inl as_before
  | inr here ↦ inr (refl, here)
]
way_others own id way kinds.Relation key = inl refl

relation_others : (own : HeldOf) (id : ℕ) (relation : Object) → LeavesOthers kinds.Relation id own (with_relation own id relation)
relation_others own id relation kinds.Node key = inl refl
relation_others own id relation kinds.Way key = inl refl
relation_others own id relation kinds.Relation key = elim (put_apart own.relations id relation key) [
  | inl as_before ↦ inl as_before
  | inr here ↦ inr (refl, here)
]

-- the relations stay held twice
relation_members : (own : HeldOf) (id : ℕ) (relation : Object) (key : ℕ)
    → finite.get own.members (relation_key key) ≡ finite.get own.relations key
    → finite.get (finite.insert own.members (relation_key id) relation) (relation_key key)
    ≡ finite.get (finite.insert own.relations id relation) key
relation_members own id relation key is =
    let tied : eq_by_cmp key_cmp (relation_key key) (relation_key id) ≡ eq_by_cmp nat_cmp key id = refl in
    finite.get-insert key_cmp_total own.members (relation_key id) relation (relation_key key)
    ∙ (λ i. cond (tied i) (Some relation) (is i))
    ∙ sym (finite.get-insert nat_cmp_total own.relations id relation key)

module _ (asked : Bool) (image : Image) where
  same_at : (kind : Kind) (key : ℕ) (old new : HeldOf) → IsSameAt kind key old new → IsHeldAt image kind key old
      → IsHeldAt image kind key new
  same_at kinds.Node key old new same held = record { found = held.found; read = held.read; place_is = same ∙ held.place_is }
  same_at kinds.Way key old new same held =
      subst (λ (o : Option Object). ReadAs object_bytes (IsStored kinds.Way) (bytes_in image kinds.Way key) o) (sym same) held
  same_at kinds.Relation key old new same held =
      subst (λ (o : Option Object). ReadAs object_bytes (IsStored kinds.Relation) (bytes_in image kinds.Relation key) o) (sym same) held

  absent_at : (kind : Kind) (key : ℕ) (old new : HeldOf) → IsSameAt kind key old new → IsAbsentAt kind key old → IsAbsentAt kind key new
  absent_at kinds.Node key old new same absent = same ∙ absent
  absent_at kinds.Way key old new same absent = same ∙ absent
  absent_at kinds.Relation key old new same absent = same ∙ absent

  -- a value more
  module _ (kind : Kind) (id : ℕ) (old new : HeldOf) (others : LeavesOthers kind id old new) (here : IsHeldAt image kind id new)
      (members : ((key : ℕ) → finite.get old.members (relation_key key) ≡ finite.get old.relations key)
      → (key : ℕ) → finite.get new.members (relation_key key) ≡ finite.get new.relations key) where
    moved : (other : Kind) (key : ℕ) → (other ≡ kind) × (key ≡ id) → IsHeldAt image other key new
    moved other key at = subst (λ (p : Kind × ℕ). IsHeldAt image p.0 p.1 new) (λ i. (sym at.0 i, sym at.1 i)) here

    takes_put : Takes asked image kind (λ own. id ≡ own) old new
    takes_put = record {
      part_of = λ part. record {
        each = λ other key. elim (others other key) [
          | inl same ↦ elim (part.each other key) [
            | inl absent ↦ inl (absent_at other key old new same absent)
            | inr held ↦ inr (same_at other key old new same held)
          ]
          | inr at ↦ inr (moved other key at)
        ];
        members = members part.members;
      };
      keeps = λ other key held. elim (others other key) [
        | inl same ↦ same_at other key old new same held
        | inr at ↦ moved other key at
      ];
      gives = λ part key is right. subst (λ (k : ℕ). IsHeldAt image kind k new) is here;
    }

  -- none more, where that is the value
  takes_same : (kind : Kind) (id : ℕ) (own : HeldOf) → (IsPartOf image own → IsHeldAt image kind id own)
      → Takes asked image kind (λ key. id ≡ key) own own
  takes_same kind id own here = record {
    part_of = λ part. part;
    keeps = λ other key held. held;
    gives = λ part key is right. subst (λ (k : ℕ). IsHeldAt image kind k own) is (here part);
  }

  pub node_taken : (id : ℕ) (bytes : List ℕ) (own : NodeRecord) (old : HeldOf) (place : PlaceOf) → bytes_in image kinds.Node id ≡ Some bytes
      → Spells record_bytes IsRecord bytes own → own.place ≡ Some place
      → Takes asked image kinds.Node (λ key. id ≡ key) old (with_place old id place)
  node_taken id bytes own old place there spells is =
      takes_put kinds.Node id old (with_place old id place) (place_others old id place)
      (record {
        found = Some own;
        read = subst (λ (o : Option (List ℕ)). ReadAs record_bytes IsRecord o (Some own)) (sym there) spells;
        place_is = put_here old.places id place ∙ sym is;
      })
      (λ members. members)

  pub bare_node_taken : (id : ℕ) (bytes : List ℕ) (own : NodeRecord) (old : HeldOf) → bytes_in image kinds.Node id ≡ Some bytes
      → Spells record_bytes IsRecord bytes own → own.place ≡ None → Takes asked image kinds.Node (λ key. id ≡ key) old old
  bare_node_taken id bytes own old there spells is =
      takes_same kinds.Node id old (λ part. elim (part.each kinds.Node id) [
        | inl absent ↦ record {
          found = Some own;
          read = subst (λ (o : Option (List ℕ)). ReadAs record_bytes IsRecord o (Some own)) (sym there) spells;
          place_is = absent ∙ sym is;
        }
        | inr held ↦ held
      ])

  pub way_taken : (id : ℕ) (bytes : List ℕ) (way : Object) (old : HeldOf) → bytes_in image kinds.Way id ≡ Some bytes
      → Spells object_bytes (IsStored kinds.Way) bytes way → Takes asked image kinds.Way (λ key. id ≡ key) old (with_way old id way)
  way_taken id bytes way old there spells =
      takes_put kinds.Way id old (with_way old id way) (way_others old id way)
      (subst (λ (p : Option (List ℕ) × Option Object). ReadAs object_bytes (IsStored kinds.Way) p.0 p.1)
      (λ i. (sym there i, sym (put_here old.ways id way) i)) spells)
      (λ members. members)

  pub relation_taken : (id : ℕ) (bytes : List ℕ) (relation : Object) (old : HeldOf) → bytes_in image kinds.Relation id ≡ Some bytes
      → Spells object_bytes (IsStored kinds.Relation) bytes relation
      → Takes asked image kinds.Relation (λ key. id ≡ key) old (with_relation old id relation)
  relation_taken id bytes relation old there spells =
      takes_put kinds.Relation id old (with_relation old id relation) (relation_others old id relation)
      (subst (λ (p : Option (List ℕ) × Option Object). ReadAs object_bytes (IsStored kinds.Relation) p.0 p.1)
      (λ i. (sym there i, sym (put_here old.relations id relation) i)) spells)
      (λ members key. relation_members old id relation key (members key))

  -- a value that is not right is not taken
  pub wrong_passed : (kind : Kind) (id : ℕ) (own : HeldOf) → (IsRightOf asked image kind id → ⊥)
      → Takes asked image kind (λ key. id ≡ key) own own
  wrong_passed kind id own wrong = record {
    part_of = λ part. part;
    keeps = λ other key held. held;
    gives = λ part key is right. absurd (wrong (subst (λ (k : ℕ). IsRightOf asked image kind k) (sym is) right));
  }

  -- one after another
  pub takes_none : (kind : Kind) (own : HeldOf) → Takes asked image kind (λ key. ⊥) own own
  takes_none kind own = record {
    part_of = λ part. part;
    keeps = λ other key held. held;
    gives = λ part key none right. absurd none;
  }

  pub takes_then : (kind : Kind) (One Two All : ℕ → Type 0) (old mid new : HeldOf) → Takes asked image kind One old mid
      → Takes asked image kind Two mid new → ((key : ℕ) → All key → One key ⊎ Two key) → Takes asked image kind All old new
  takes_then kind One Two All old mid new first second split = record {
    part_of = λ part. second.part_of (first.part_of part);
    keeps = λ other key held. second.keeps other key (first.keeps other key held);
    gives = λ part key all right. elim (split key all) [
      | inl one ↦ second.keeps kind key (first.gives part key one right)
      | inr two ↦ second.gives (first.part_of part) key two right
    ];
  }

  pub takes_fewer : (kind : Kind) (One All : ℕ → Type 0) (old new : HeldOf) → Takes asked image kind All old new
      → ((key : ℕ) → One key → All key) → Takes asked image kind One old new
  takes_fewer kind One All old new takes leads = record {
    part_of = takes.part_of;
    keeps = takes.keeps;
    gives = λ part key one right. takes.gives part key (leads key one) right;
  }
