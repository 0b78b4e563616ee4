-- What maps know is what the objects are for which they stand, but for nodes whose tags are not known.
use Rattle.std.proofs.Common.{◌≡◌, ℕ, Bool, true, false, ◌||◌, cond, List, [], ◌∷◌, Option, Some, None, refl, sym, ap, subst, ◌∙◌, nat_eq}
use mathlib.Core.Bool.{false≢true, true≢false}
use Rattle.std.specs.Prelude.{IsSome}
use Rattle.std.specs.Cmp.{Equal-is}
use Rattle.std.specs.FinMap as finite
use Rattle.std.specs.List.{list_any}
use Rattle.std.specs.Option.{option_map}
use Rattle.std.specs.Ordering.{eq_by_cmp}
use Rattle.osm_base.specs.declared.values.key.Kind.{Kind}
use Rattle.osm_base.specs.declared.values.key.Kind.TheVariants as kinds
use Rattle.osm_base.specs.declared.values.object.Entry.{Entry}
use Rattle.osm_base.specs.declared.values.object.Object.{Object}
use Rattle.osm_base.specs.declared.values.object.Object.TheVariants.{Node, Way, Relation}
use Rattle.osm_base.specs.map.Listers.{known_of}
use Rattle.osm_base.specs.map.Objects.{ObjectSet, place_in as place_of}
use Rattle.osm_base.specs.values.Key.{KeyOf, node_key}
use Rattle.osm_base.specs.values.KeyOrder.{key_cmp}
use Rattle.osm_base.specs.values.Place.{PlaceOf}
use Rattle.osm_base.specs.values.Tags.{TagMap}
use Rattle.osm_base.proofs.KeyLaws.{key_cmp-IsAntisymmetric}
use Rattle.value_bytes.specs.declared.nodes.NodeRecord.{NodeRecord}
use Rattle.store_maps.specs.Maps.{Maps, node_in, node_record, object_in, set_object, way_or_relation_in}
use Rattle.store_maps.specs.Named.{known_on, place_in}
use Rattle.store_maps.specs.Stands.{HoldsNode, HoldsTags, StandsOn}
use Rattle.store_maps.specs.Step.{change_on, entry_on, relisted_to}
use Rattle.store_maps.proofs.IdLists.{tied_self}
use Rattle.store_maps.proofs.IndexLaws.{listers-index}
use Rattle.store_maps.proofs.Sets.{get-set}

-- the tags of a node are known, if it is there
abbrev pub KnowsTags : Option NodeRecord → Type 0
KnowsTags None = Unit {0}
KnowsTags (Some kept) = IsSome kept.tags

place_is-of : (reaches : Bool) (kept : Option NodeRecord) (object : Option Object) → HoldsNode reaches kept object
    → place_in kept ≡ place_of object
place_is-of reaches None None holds = refl
place_is-of reaches None (Some object) holds = absurd holds
place_is-of reaches (Some kept) None holds = absurd holds
place_is-of reaches (Some kept) (Some (Node place tags)) holds = holds.0
place_is-of reaches (Some kept) (Some (Way nodes tags)) holds = absurd holds
place_is-of reaches (Some kept) (Some (Relation members tags)) holds = absurd holds

node_is-of : (reaches : Bool) (kept : Option NodeRecord) (object : Option Object) → HoldsNode reaches kept object → KnowsTags kept
    → node_in kept ≡ object
node_is-of reaches None None holds knows = refl
node_is-of reaches None (Some object) holds knows = absurd holds
node_is-of reaches (Some kept) None holds knows = absurd holds
node_is-of reaches (Some kept) (Some (Node place tags)) holds knows = by kept.tags refl holds.1 knows
  where
    by : (found : Option TagMap) → kept.tags ≡ found → HoldsTags reaches found tags → IsSome found
        → node_in (Some kept) ≡ Some (Node place tags)
    by None is holds_tags there = absurd (false≢true there)
    by (Some known) is same there = ap (λ found. option_map (λ own. Node kept.place own) found) is ∙ (λ i. Some (Node (holds.0 i) (same i)))
node_is-of reaches (Some kept) (Some (Way nodes tags)) holds knows = absurd holds
node_is-of reaches (Some kept) (Some (Relation members tags)) holds knows = absurd holds

reached-of : (reaches : Bool) (kept : Option NodeRecord) (object : Option Object) → HoldsNode reaches kept object → reaches ≡ true
    → KnowsTags kept
reached-of reaches None object holds is = tt
reached-of reaches (Some kept) None holds is = absurd holds
reached-of reaches (Some kept) (Some (Node place tags)) holds is = by kept.tags holds.1
  where
    by : (found : Option TagMap) → HoldsTags reaches found tags → IsSome found
    by None not = absurd (true≢false (sym is ∙ not))
    by (Some known) same = refl
reached-of reaches (Some kept) (Some (Way nodes tags)) holds is = absurd holds
reached-of reaches (Some kept) (Some (Relation members tags)) holds is = absurd holds

module _ (reaches : Bool) (maps : Maps) (objects : ObjectSet) (stands : StandsOn reaches maps objects) where
  pub place_is : (id : ℕ) → (known_on maps).place id ≡ (known_of objects).place id
  place_is id = place_is-of reaches (finite.get maps.nodes id) (finite.get objects (node_key id)) (stands.objects.nodes id)

  -- where selections reach nodes all tags are known
  pub reached : (id : ℕ) → reaches ≡ true → KnowsTags (finite.get maps.nodes id)
  reached id is = reached-of reaches (finite.get maps.nodes id) (finite.get objects (node_key id)) (stands.objects.nodes id) is

  object_is-of : (kind : Kind) (id : ℕ) → (kind ≡ kinds.Node → KnowsTags (finite.get maps.nodes id))
      → object_in maps kind id ≡ finite.get objects (record { kind = kind; id = id })
  object_is-of kinds.Node id knows = node_is-of reaches (finite.get maps.nodes id) (finite.get objects (node_key id))
      (stands.objects.nodes id) (knows refl)
  object_is-of kinds.Way id knows = stands.objects.ways id
  object_is-of kinds.Relation id knows = stands.objects.relations id

  pub object_is : (own : KeyOf) → (own.kind ≡ kinds.Node → KnowsTags (finite.get maps.nodes own.id))
      → (known_on maps).object own ≡ finite.get objects own
  object_is own knows = object_is-of own.kind own.id knows

  pub relations_of_way-are : (id : ℕ) → (known_on maps).relations_of_way id ≡ (known_of objects).relations_of_way id
  relations_of_way-are id = listers-index kinds.Relation kinds.Way objects maps.relations_of_ways id stands.index.relations_of_ways

  pub relations_of_node-are : (id : ℕ) → (known_on maps).relations_of_node id ≡ (known_of objects).relations_of_node id
  relations_of_node-are id = listers-index kinds.Relation kinds.Node objects maps.relations_of_nodes id stands.index.relations_of_nodes

-- what is kept of a node is read as a node, if at all
pub node_alone : (P : Option Object → Type 0) → P None → ((place : Option PlaceOf) (tags : TagMap) → P (Some (Node place tags)))
    → (kept : Option NodeRecord) → P (node_in kept)
node_alone P none node None = none
node_alone P none node (Some kept) = elim (kept.tags) as
    (λ (tags : Option TagMap). P (option_map (λ own. Node kept.place own) tags)) [ None ↦ none | Some tags ↦ node kept.place tags ]

-- a node that a change names has known tags after it

recorded : (object : Option Object) → KnowsTags (node_record object)
recorded None = tt
recorded (Some (Node place tags)) = refl
recorded (Some (Way nodes tags)) = tt
recorded (Some (Relation members tags)) = tt

module _ (id : ℕ) where
  abbrev Knows : Maps → Type 0
  Knows maps = KnowsTags (finite.get maps.nodes id)

  set_knows : (maps : Maps) (kind : Kind) (own : ℕ) (object : Option Object) → Knows maps → Knows (set_object maps kind own object)
  set_knows maps kinds.Node own object knows = subst KnowsTags (sym (get-set maps.nodes own (node_record object) id))
      (elim (nat_eq id own) as (λ b. KnowsTags (cond b (node_record object) (finite.get maps.nodes id)))
      [ true ↦ recorded object | false ↦ knows ])
  set_knows maps kinds.Way own object knows = knows
  set_knows maps kinds.Relation own object knows = knows

  named_knows : (maps : Maps) (object : Option Object) → Knows (set_object maps kinds.Node id object)
  named_knows maps object = subst KnowsTags (sym (get-set maps.nodes id (node_record object) id))
      (subst (λ b. KnowsTags (cond b (node_record object) (finite.get maps.nodes id))) (sym (tied_self id)) (recorded object))

  entry_knows : (maps : Maps) (entry : Entry) → Knows maps → Knows (entry_on maps entry)
  entry_knows maps entry knows = set_knows
      (relisted_to maps entry.key (way_or_relation_in maps entry.key.kind entry.key.id) entry.object)
      entry.key.kind entry.key.id entry.object knows

  stays_known : (entries : List Entry) (maps : Maps) → Knows maps → Knows (change_on maps entries)
  stays_known [] maps knows = knows
  stays_known (entry ∷ entries) maps knows = stays_known entries (entry_on maps entry) (entry_knows maps entry knows)

  entry_named : (maps : Maps) (entry : Entry) → node_key id ≡ entry.key → Knows (entry_on maps entry)
  entry_named maps entry is = subst (λ (own : KeyOf). Knows (entry_on maps (record { key = own; object = entry.object }))) is
      (named_knows (relisted_to maps (node_key id) None entry.object) entry.object)

  pub named : (entries : List Entry) (maps : Maps) → list_any (λ entry. eq_by_cmp key_cmp (node_key id) entry.key) entries ≡ true
      → Knows (change_on maps entries)
  named [] maps among = absurd (false≢true among)
  named (entry ∷ entries) maps among =
      elim (eq_by_cmp key_cmp (node_key id) entry.key) as
      (λ b. eq_by_cmp key_cmp (node_key id) entry.key ≡ b
      → (b || list_any (λ own. eq_by_cmp key_cmp (node_key id) own.key) entries) ≡ true
      → Knows (change_on (entry_on maps entry) entries)) [
        | true ↦ λ same _. stays_known entries (entry_on maps entry)
            (entry_named maps entry (key_cmp-IsAntisymmetric (node_key id) entry.key ((Equal-is (key_cmp (node_key id) entry.key)).0 same)))
        | false ↦ λ _ later. named entries (entry_on maps entry) later
      ] refl among
