-- The maps but those of rows stand for the objects after a change, where they stood for those before it.
use Rattle.std.proofs.Common.{◌≡◌, ◌≢◌, ℕ, Bool, true, false, ◌||◌, cond, if◌then◌else◌, List, [], ◌∷◌, Option, Some, None, refl, sym, ap}
use Rattle.std.proofs.Common.{subst, ◌∙◌, nat_eq}
use Rattle.std.specs.Prelude.{IfSome}
use Rattle.std.specs.Cmp.{Equal-is, unsigned_tied}
use Rattle.std.specs.FinMap as finite
use Rattle.std.specs.Option.{unwrap_or}
use Rattle.std.specs.Ordering.{eq_by_cmp, nat_cmp}
use Rattle.osm_base.specs.declared.values.key.Kind.{Kind}
use Rattle.osm_base.specs.declared.values.key.Kind.TheVariants as kinds
use Rattle.osm_base.specs.declared.values.object.Entry.{Entry}
use Rattle.osm_base.specs.declared.values.object.Object.{Object}
use Rattle.osm_base.specs.declared.values.object.Object.TheVariants.{Node, Way, Relation}
use Rattle.osm_base.specs.map.Listers.{is_kind, listed}
use Rattle.osm_base.specs.map.Objects.{ObjectSet, folded, folded_all, with_object}
use Rattle.osm_base.specs.values.Ids.{IsRising, has}
use Rattle.osm_base.specs.values.Key.{KeyOf, node_key, relation_key, way_key}
use Rattle.osm_base.specs.values.KeyOrder.{key_cmp}
use Rattle.osm_base.proofs.KeyLaws.{key_cmp-IsAntisymmetric}
use Rattle.object_fold.proofs.FoldLaws.{get-with_object}
use Rattle.object_fold.proofs.SortedIds.{none-rise}
use Rattle.object_fold.proofs.Listers.{kind_same}
use Rattle.object_fold.specs.Change.{IsOfKind}
use Rattle.object_fold.specs.Listing.{ListingOf, is_listed}
use Rattle.store_maps.specs.Maps.{Maps, empty_maps, node_record, way_or_relation_in}
use Rattle.store_maps.specs.Stands.{AreProper, HoldsIndex, HoldsNode, HoldsObjects, StandsOn}
use Rattle.store_maps.specs.Step.{AllListed, AreProperEntries, AreTold, change_on, entry_on, relisted_to}
use Rattle.store_maps.specs.Turns.{IsListing, blocks_in, ids_for, listed_by, told_by}
use Rattle.store_maps.proofs.IdLists.{or-true, tied_self}
use Rattle.store_maps.proofs.Listings.{listing_follows}
use Rattle.store_maps.proofs.Sets.{get-set}

pub same_key : (key other : KeyOf) → eq_by_cmp key_cmp key other ≡ true → key ≡ other
same_key key other same = key_cmp-IsAntisymmetric key other ((Equal-is (key_cmp key other)).0 same)

new_node : (reaches : Bool) (object : Option Object) → IfSome object (IsOfKind kinds.Node) → HoldsNode reaches (node_record object) object
new_node reaches None proper = tt
new_node reaches (Some (Node place tags)) proper = (refl, refl)
new_node reaches (Some (Way nodes tags)) proper = absurd proper
new_node reaches (Some (Relation members tags)) proper = absurd proper

-- each object stays of its key's kind
pub proper_after : (objects : ObjectSet) (own : KeyOf) (object : Option Object) → AreProper objects → IfSome object (IsOfKind own.kind)
    → AreProper (with_object objects own object)
proper_after objects own object proper is = record {
  kinds = λ key. subst (λ found. IfSome found (λ object. IsOfKind key.kind object)) (sym (get-with_object objects own object key))
      (elim (eq_by_cmp key_cmp key own) as (λ b. eq_by_cmp key_cmp key own ≡ b
      → IfSome (cond b object (finite.get objects key)) (λ object. IsOfKind key.kind object)) [
        | true ↦ λ same. subst (λ (key : KeyOf). IfSome object (λ object. IsOfKind key.kind object)) (sym (same_key key own same)) is
        | false ↦ λ differs. proper.kinds key
      ] refl);
}

module _ (reaches : Bool) (maps : Maps) (objects : ObjectSet) (stands : StandsOn reaches maps objects) (own : ℕ)
    (object : Option Object) where
  module _ (kind : Kind) where
    abbrev key : KeyOf
    key = record { kind = kind; id = own }

    abbrev new : Maps
    new = entry_on maps (record { key = key; object = object })

    abbrev after : ObjectSet
    after = with_object objects key object

  -- what is there of another key stays
  node_there : (kind : Kind) (id : ℕ) → finite.get (after kind) (node_key id)
      ≡ cond (eq_by_cmp key_cmp (node_key id) (key kind)) object (finite.get objects (node_key id))
  node_there kind id = get-with_object objects (key kind) object (node_key id)

  objects_after : (kind : Kind) → IfSome object (IsOfKind kind) → HoldsObjects reaches (new kind) (after kind)
  objects_after kinds.Node proper = record {
    nodes = λ id. subst (HoldsNode reaches (finite.get (new kinds.Node).nodes id))
        (sym (node_there kinds.Node id ∙ ap (λ b. cond b object (finite.get objects (node_key id))) (unsigned_tied id own)))
        (subst (λ kept. HoldsNode reaches kept (cond (nat_eq id own) object (finite.get objects (node_key id))))
        (sym (get-set maps.nodes own (node_record object) id))
        (elim (nat_eq id own) as (λ b. HoldsNode reaches (cond b (node_record object) (finite.get maps.nodes id))
        (cond b object (finite.get objects (node_key id))))
        [ true ↦ new_node reaches object proper | false ↦ stands.objects.nodes id ]));
    ways = λ id. stands.objects.ways id ∙ sym (get-with_object objects (key kinds.Node) object (way_key id));
    relations = λ id. stands.objects.relations id ∙ sym (get-with_object objects (key kinds.Node) object (relation_key id));
  }
  objects_after kinds.Way proper = record {
    nodes = λ id. subst (HoldsNode reaches (finite.get maps.nodes id)) (sym (node_there kinds.Way id)) (stands.objects.nodes id);
    ways = λ id. get-set maps.ways own object id ∙ ap (cond (nat_eq id own) object) (stands.objects.ways id)
        ∙ sym (get-with_object objects (key kinds.Way) object (way_key id)
        ∙ ap (λ b. cond b object (finite.get objects (way_key id))) (unsigned_tied id own));
    relations = λ id. stands.objects.relations id ∙ sym (get-with_object objects (key kinds.Way) object (relation_key id));
  }
  objects_after kinds.Relation proper = record {
    nodes = λ id. subst (HoldsNode reaches (finite.get maps.nodes id)) (sym (node_there kinds.Relation id)) (stands.objects.nodes id);
    ways = λ id. stands.objects.ways id ∙ sym (get-with_object objects (key kinds.Relation) object (way_key id));
    relations = λ id. get-set maps.relations own object id ∙ ap (cond (nat_eq id own) object) (stands.objects.relations id)
        ∙ sym (get-with_object objects (key kinds.Relation) object (relation_key id)
        ∙ ap (λ b. cond b object (finite.get objects (relation_key id))) (unsigned_tied id own));
  }

  -- the form that is listed no longer is that of the objects
  was_way : (kind : Kind) → is_kind kinds.Way kind ≡ true → way_or_relation_in maps kind own ≡ finite.get objects (key kind)
  was_way kinds.Node same = absurd (cc)
  was_way kinds.Way same = stands.objects.ways own
  was_way kinds.Relation same = absurd (cc)

  was_relation : (kind : Kind) → is_kind kinds.Relation kind ≡ true → way_or_relation_in maps kind own ≡ finite.get objects (key kind)
  was_relation kinds.Node same = absurd (cc)
  was_relation kinds.Way same = absurd (cc)
  was_relation kinds.Relation same = stands.objects.relations own

  index_relisted : (kind : Kind) → HoldsIndex (relisted_to maps (key kind) (way_or_relation_in maps kind own) object) (after kind)
  index_relisted kind = record {
    ways_of_blocks = listing_follows kinds.Way blocks_in objects kind own (way_or_relation_in maps kind own) object
        (was_way kind) maps.ways_of_blocks stands.index.ways_of_blocks;
    relations_of_nodes = listing_follows kinds.Relation (listed kinds.Node) objects kind own (way_or_relation_in maps kind own) object
        (was_relation kind) maps.relations_of_nodes stands.index.relations_of_nodes;
    relations_of_ways = listing_follows kinds.Relation (listed kinds.Way) objects kind own (way_or_relation_in maps kind own) object
        (was_relation kind) maps.relations_of_ways stands.index.relations_of_ways;
  }

  index_after : (kind : Kind) → HoldsIndex (new kind) (after kind)
  index_after kinds.Node = let is = index_relisted kinds.Node in
      record { ways_of_blocks = is.ways_of_blocks; relations_of_nodes = is.relations_of_nodes; relations_of_ways = is.relations_of_ways }
  index_after kinds.Way = let is = index_relisted kinds.Way in
      record { ways_of_blocks = is.ways_of_blocks; relations_of_nodes = is.relations_of_nodes; relations_of_ways = is.relations_of_ways }
  index_after kinds.Relation = let is = index_relisted kinds.Relation in
      record { ways_of_blocks = is.ways_of_blocks; relations_of_nodes = is.relations_of_nodes; relations_of_ways = is.relations_of_ways }

  stands_after : (kind : Kind) → IfSome object (IsOfKind kind) → StandsOn reaches (new kind) (after kind)
  stands_after kind proper = record {
    objects = objects_after kind proper;
    index = index_after kind;
    proper =
        proper_after objects (key kind) object stands.proper proper;
  }

-- an entry
pub entry_stands : (reaches : Bool) (maps : Maps) (objects : ObjectSet) (entry : Entry) → StandsOn reaches maps objects
    → IfSome entry.object (IsOfKind entry.key.kind) → StandsOn reaches (entry_on maps entry) (folded objects entry)
entry_stands reaches maps objects entry stands proper =
    stands_after reaches maps objects stands entry.key.id entry.object entry.key.kind proper

-- entries, one after another
pub entries_stand : (reaches : Bool) (entries : List Entry) (maps : Maps) (objects : ObjectSet) → StandsOn reaches maps objects
    → AreProperEntries entries → StandsOn reaches (change_on maps entries) (folded_all objects entries)
entries_stand reaches [] maps objects stands proper = stands
entries_stand reaches (entry ∷ entries) maps objects stands proper =
    entries_stand reaches entries (entry_on maps entry) (folded objects entry)
    (entry_stands reaches maps objects entry stands proper.0) proper.1

-- what an object lists is said to be listed by its key
all_listed : (listing : ListingOf) (by : Kind) (what : Object → List ℕ) (objects : ObjectSet) (kind : Kind) (own : ℕ)
    (object : Option Object) → IsListing listing (told_by by what objects)
    → (is_kind by kind ≡ true → object ≡ finite.get objects (record { kind = kind; id = own }))
    → AllListed listing own (ids_for by what kind object)
all_listed listing by what objects kind own object is was =
    elim (is_kind by kind) as (λ b. is_kind by kind ≡ b → AllListed listing own (if b then listed_by what object else [])) [
      | true ↦ λ same.
          let at : object ≡ finite.get objects (record { kind = by; id = own }) =
          was same ∙ ap (λ own_kind. finite.get objects (record { kind = own_kind; id = own })) (sym (kind_same by kind same)) in
          each (listed_by what object) (λ id there. is.answers id own ∙ ap (λ found. has (listed_by what found) id) (sym at) ∙ there)
      | false ↦ λ _. tt
    ] refl
  where
    each : (ids : List ℕ) → ((id : ℕ) → has ids id ≡ true → is_listed listing id own ≡ true) → AllListed listing own ids
    each [] told = tt
    each (id ∷ ids) told = (
      told id (ap (λ b. b || has ids id) (tied_self id)),
      each ids (λ other there. told other (ap (λ b. nat_eq id other || b) there ∙ or-true (nat_eq id other))),
    )

pub are_told : (reaches : Bool) (maps : Maps) (objects : ObjectSet) → StandsOn reaches maps objects → (own : KeyOf)
    → AreTold maps own (way_or_relation_in maps own.kind own.id)
are_told reaches maps objects stands own = record {
  ways_of_blocks = all_listed maps.ways_of_blocks kinds.Way blocks_in objects own.kind own.id
      (way_or_relation_in maps own.kind own.id) stands.index.ways_of_blocks (was_way reaches maps objects stands own.id None own.kind);
  relations_of_nodes = all_listed maps.relations_of_nodes kinds.Relation (listed kinds.Node) objects own.kind own.id
      (way_or_relation_in maps own.kind own.id) stands.index.relations_of_nodes
      (was_relation reaches maps objects stands own.id None own.kind);
  relations_of_ways = all_listed maps.relations_of_ways kinds.Relation (listed kinds.Way) objects own.kind own.id
      (way_or_relation_in maps own.kind own.id) stands.index.relations_of_ways
      (was_relation reaches maps objects stands own.id None own.kind);
}

no_list : (found : Option (List ℕ)) → found ≡ None → found ≢ Some []
no_list found none is = absurd (cc)

-- maps without a value stand for no objects
none_told : (by : Kind) (what : Object → List ℕ) → IsListing finite.empty (told_by by what finite.empty)
none_told by what = record {
  answers = λ id own. ap (λ found. has (unwrap_or found []) own) (finite.get-empty nat_cmp id)
      ∙ sym (ap (λ found. has (listed_by what found) id) (finite.get-empty key_cmp (record { kind = by; id = own })));
  rising = λ id. subst (λ found. IsRising (unwrap_or found [])) (sym (finite.get-empty nat_cmp id)) none-rise;
  some = λ id. no_list (finite.get finite.empty id) (finite.get-empty nat_cmp id);
}

pub empty_stands-on : (reaches : Bool) → StandsOn reaches empty_maps finite.empty
empty_stands-on reaches = record {
  objects = record {
    nodes = λ id. subst (λ kept. HoldsNode reaches kept (finite.get {R = key_cmp} finite.empty (node_key id)))
        (sym (finite.get-empty nat_cmp id)) (subst (HoldsNode reaches None) (sym (finite.get-empty key_cmp (node_key id))) tt);
    ways = λ id. finite.get-empty nat_cmp id ∙ sym (finite.get-empty key_cmp (way_key id));
    relations = λ id. finite.get-empty nat_cmp id ∙ sym (finite.get-empty key_cmp (relation_key id));
  };
  index = record {
    ways_of_blocks = none_told kinds.Way blocks_in;
    relations_of_nodes = none_told kinds.Relation (listed kinds.Node);
    relations_of_ways = none_told kinds.Relation (listed kinds.Way);
  };
  proper = record {
    kinds = λ own. subst (λ found. IfSome found (λ object. IsOfKind own.kind object))
        (sym (finite.get-empty key_cmp own)) tt;
  };
}
