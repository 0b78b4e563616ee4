-- What is asked where a change is made is what it touches.
use Rattle.std.proofs.Common.{◌≡◌, ◌<◌, ℕ, ◌+◌, ◌*◌, Bool, true, false, cond, ◌||◌, ◌&&◌, List, [], ◌∷◌, ◌++◌, length, map, take}
use Rattle.std.proofs.Common.{slice_index_or, Option, Some, None, refl, sym, ap, subst, ◌∙◌, nat_eq}
use Rattle.std.specs.Prelude.{IfSome}
use Rattle.std.specs.FinMap as finite
use Rattle.std.specs.List.{AllByRecursion, filter, flat_map, list_any}
use Rattle.std.specs.Ordering.{eq_by_cmp}
use Rattle.std.proofs.lemmas.List.{append-nil}
use Rattle.osm_base.specs.declared.values.key.Kind.{Kind}
use Rattle.osm_base.specs.declared.values.key.Kind.TheVariants as kinds
use Rattle.osm_base.specs.declared.values.object.Entry.{Entry}
use Rattle.osm_base.specs.declared.values.object.Member.{Member}
use Rattle.osm_base.specs.declared.values.object.Object.{Object}
use Rattle.osm_base.specs.declared.values.object.Object.TheVariants.{Node, Way, Relation}
use Rattle.osm_base.specs.map.Known.{Known, RelationsOfWay}
use Rattle.osm_base.specs.map.Listers.{index_of, is_kind, listed, lists, member_ids}
use Rattle.osm_base.specs.map.Objects.{ObjectSet, folded_all}
use Rattle.osm_base.specs.map.Pending.{PendingOf}
use Rattle.osm_base.specs.values.Ids.{has}
use Rattle.osm_base.specs.values.Key.{KeyOf, node_key, relation_key, way_key}
use Rattle.osm_base.specs.values.KeyOrder.{key_cmp}
use Rattle.style_read.specs.Style.{StyleOf}
use Rattle.object_fold.specs.Change.{IsChange, IsOfKind}
use Rattle.object_fold.specs.Listing.{listers}
use Rattle.object_fold.proofs.FoldLaws.{get-untouched}
use Rattle.object_fold.proofs.Listers.{has-ids_of, kind_same}
use Rattle.row_rules.specs.Condition.{reaches_nodes}
use Rattle.row_rules.specs.Wanted.{may_have_rows}
use Rattle.dep_closure.specs.PendingSet.{IsPendingOf, is_moved, is_named, is_pending_node, is_pending_relation, is_pending_way}
use Rattle.dep_closure.specs.PendingSet.{is_reselected, moves, ways_in}
use Rattle.dep_closure.specs.Questions.{of_all, of_entry, of_member, of_members, of_nodes, of_ways}
use Rattle.dep_closure.specs.Ways.{is_due, makes_due}
use Rattle.geom_workers.specs.Keys.{keys_of}
use Rattle.store_maps.specs.Asked.{May, MayAnswer, MayEach, MayList, MayObject, MayRows}
use Rattle.store_maps.specs.Maps.{Maps, block_of, empty_maps, way_or_relation_in}
use Rattle.store_maps.specs.Named.{known_on}
use Rattle.store_maps.specs.Stands.{StandsOn}
use Rattle.store_maps.specs.Step.{change_on}
use Rattle.store_maps.specs.Turns.{blocks_in, listed_by}
use Rattle.store_maps.proofs.IdLists.{tied_self}
use Rattle.store_maps.proofs.KnownMaps.{node_alone}
use Rattle.store_maps.proofs.ObjectMaps.{entries_stand}
use Rattle.update_step.specs.Gather.{AroundNode, Ask, AtNode, OfKey, all_needs, form_asks, listed_asks, lister_asks, member_asks, needs}
use Rattle.update_step.specs.Gather.{place_asks, relation_asks, way_asks}
use Rattle.update_step.specs.Touch.{MayAllRows, MayAsk, MayAskAll, MayEntries, MayTouch, MayTurn, MayTurnAll, is_in_lists, is_listed_after}
use Rattle.update_step.specs.Touch.Touch.{around, around_member, along, along_member, block, block_of_list, member, node, node_of_member}
use Rattle.update_step.specs.Touch.Touch.{node_of_way, relation, relation_of_node, relation_of_way, rows_of_node, rows_of_relation}
use Rattle.update_step.specs.Touch.Touch.{rows_of_way, way, way_of_block}
use Rattle.update_step.proofs.AfterForms.{forms-after}
use Rattle.update_step.proofs.EntryLists.{change_proper, proper_front}
use Rattle.update_step.proofs.KeyedLists.{all_at}
use Rattle.update_step.proofs.NamedKeys.{front-untouched}
use Rattle.update_step.proofs.Parts.{all-append, all-both, all-flat, all-ids, all-map, all-then, any-then, or-left, or-right}
use Rattle.update_step.proofs.PendingKeys.{each-among}

-- what an object lists, and whether it does
listed-lists : (kind : Kind) (id : ℕ) (form : Option Object) → has (listed_by (listed kind) form) id ≡ lists kind id form
listed-lists kind id None = refl
listed-lists kind id (Some object) = refl

-- the nodes of a way
may-places : (may : May) (form : Option Object) → ((id : ℕ) → lists kinds.Node id form ≡ true → may 0 id ≡ true)
    → MayAskAll may (place_asks form)
may-places may None each = tt
may-places may (Some (Node place tags)) each = tt
may-places may (Some (Way nodes tags)) each = all-map (MayAsk may) AtNode nodes each
may-places may (Some (Relation members tags)) each = tt

-- the ways among members
module _ (may : May) (to : Known) where
  abbrev MayForm : ℕ → Type 0
  MayForm id = MayAskAll may (form_asks to (way_key id))

  abbrev ways_among : List Member → List Member
  ways_among members = filter (λ (own : Member). is_kind kinds.Way own.key.kind) members

  may-members : (members : List Member) → ((way : ℕ) → has (member_ids kinds.Way members) way ≡ true → MayForm way)
      → MayAskAll may (flat_map (member_asks to) members)
  may-members [] each = tt
  may-members (first ∷ members) each =
      elim (is_kind kinds.Way first.key.kind) as (λ b. is_kind kinds.Way first.key.kind ≡ b
      → ((way : ℕ) → has (map (λ (own : Member). own.key.id) (cond b (first ∷ ways_among members) (ways_among members))) way ≡ true
      → MayForm way)
      → MayAskAll may (cond b (form_asks to first.key) [] ++ flat_map (member_asks to) members)) [
        | true ↦ λ same each.
            all-append (MayAsk may) (form_asks to first.key) (flat_map (member_asks to) members)
            (subst (λ kind. MayAskAll may (form_asks to (record { kind = kind; id = first.key.id })))
            (kind_same kinds.Way first.key.kind same)
            (each first.key.id (or-left (nat_eq first.key.id first.key.id) (has (member_ids kinds.Way members) first.key.id)
            (tied_self first.key.id))))
            (may-members members (λ way there. each way
            (or-right (nat_eq first.key.id way) (has (member_ids kinds.Way members) way) there)))
        | false ↦ λ _ each. may-members members each
      ] refl each

  may-ways : (form : Option Object) → IfSome form (IsOfKind kinds.Relation) → ((way : ℕ) → lists kinds.Way way form ≡ true → MayForm way)
      → MayAskAll may (place_asks form ++ way_asks to form)
  may-ways None proper each = tt
  may-ways (Some (Node place tags)) proper each = absurd proper
  may-ways (Some (Way nodes tags)) proper each = absurd proper
  may-ways (Some (Relation members tags)) proper each = may-members members each

  no-members : (form : Option Object) → IfSome form (IsOfKind kinds.Way) → MayAskAll may (way_asks to form)
  no-members None proper = tt
  no-members (Some (Node place tags)) proper = absurd proper
  no-members (Some (Way nodes tags)) proper = tt
  no-members (Some (Relation members tags)) proper = absurd proper

-- who lists what an object lists
module _ (may : May) where
  may-each : (number : ℕ) (kind : Kind) (form : Option Object) → ((id : ℕ) → lists kind id form ≡ true → may number id ≡ true)
      → MayEach may number (listed_by (listed kind) form)
  may-each number kind None each = tt
  may-each number kind (Some object) each = all-ids (λ id. may number id ≡ true) (listed kind object) each

  may-blocks : (form : Option Object) → ((id : ℕ) → lists kinds.Node id form ≡ true → may 3 (block_of id) ≡ true)
      → MayEach may 3 (listed_by blocks_in form)
  may-blocks None each = tt
  may-blocks (Some object) each = all-map (λ key. may 3 key ≡ true) block_of (listed kinds.Node object) each

-- so where the form is that which maps have
pub lists-of-form : (may : May) (reaches : Bool) (maps : Maps) (objects : ObjectSet) → StandsOn reaches maps objects → (own : KeyOf)
    → MayList may own (finite.get objects own) → MayList may own (way_or_relation_in maps own.kind own.id)
lists-of-form may reaches maps objects stands own all = by own.kind own.id all
  where
    by : (kind : Kind) (id : ℕ) → MayList may (record { kind = kind; id = id }) (finite.get objects (record { kind = kind; id = id }))
        → MayList may (record { kind = kind; id = id }) (way_or_relation_in maps kind id)
    by kinds.Node id all = record { ways_of_blocks = tt; relations_of_nodes = tt; relations_of_ways = tt }
    by kinds.Way id all = subst (MayList may (way_key id)) (sym (stands.objects.ways id)) all
    by kinds.Relation id all = subst (MayList may (relation_key id)) (sym (stands.objects.relations id)) all

module _ (style : StyleOf) (objects : ObjectSet) (change : List Entry) (may : May) (touched : MayTouch style objects change may) where
  abbrev after : ObjectSet
  after = folded_all objects change

  -- What the change names is pending.

  named-node : (id : ℕ) → is_named change (node_key id) ≡ true → is_pending_node style objects change id ≡ true
  named-node id named = or-left (is_named change (node_key id))
      (reaches_nodes style && is_reselected style objects change kinds.Node id) named

  moved : (own : KeyOf) → is_named change own ≡ true → is_moved after change own ≡ true
  moved own named = any-then (λ (entry : Entry). eq_by_cmp key_cmp own entry.key) (moves after own) change
      (λ entry same. or-left (eq_by_cmp key_cmp own entry.key)
      (is_kind kinds.Node entry.key.kind && lists kinds.Node entry.key.id (finite.get after own)) same) named

  moved-way : (id : ℕ) → is_moved after change (way_key id) ≡ true → is_pending_way style objects change id ≡ true
  moved-way id is = or-left (is_moved after change (way_key id)) (is_reselected style objects change kinds.Way id) is

  named-way : (id : ℕ) → is_named change (way_key id) ≡ true → is_pending_way style objects change id ≡ true
  named-way id named = moved-way id (moved (way_key id) named)

  named-relation : (id : ℕ) → is_named change (relation_key id) ≡ true → is_pending_relation objects change id ≡ true
  named-relation id named =
      or-left (is_moved after change (relation_key id))
      (list_any (λ way. is_moved after change (way_key way)) (ways_in (finite.get after (relation_key id))))
      (moved (relation_key id) named)

  due-way : (id : ℕ) → is_due (index_of after) change id ≡ true → is_pending_way style objects change id ≡ true
  due-way id due = moved-way id (any-then (makes_due (index_of after) id) (moves after (way_key id)) change
      (λ entry is. sym (ap (λ b. eq_by_cmp key_cmp (way_key id) entry.key || (is_kind kinds.Node entry.key.kind && b))
      (has-ids_of after kinds.Way kinds.Node entry.key.id id)) ∙ is) due)

  -- Its entries.

  named-object : (kind : Kind) (id : ℕ) → is_named change (record { kind = kind; id = id }) ≡ true
      → MayObject may (record { kind = kind; id = id })
  named-object kinds.Node id named = touched 0 id (node id (named-node id named))
  named-object kinds.Way id named = touched 1 id (way id (named-way id named))
  named-object kinds.Relation id named = touched 2 id (relation id (named-relation id named))

  named-lists : (kind : Kind) (id : ℕ) (form : Option Object) → is_named change (record { kind = kind; id = id }) ≡ true
      → ((of : Kind) (other : ℕ) → lists of other form ≡ true
      → is_in_lists objects change of other (record { kind = kind; id = id }) ≡ true)
      → MayList may (record { kind = kind; id = id }) form
  named-lists kinds.Node id form named each = record { ways_of_blocks = tt; relations_of_nodes = tt; relations_of_ways = tt }
  named-lists kinds.Way id form named each = record {
    ways_of_blocks = may-blocks may form (λ other is. touched 3 (block_of other) (block_of_list id other named (each kinds.Node other is)));
    relations_of_nodes = tt;
    relations_of_ways = tt;
  }
  named-lists kinds.Relation id form named each = record {
    ways_of_blocks = tt;
    relations_of_nodes = may-each may 4 kinds.Node form
        (λ other is. touched 4 other (around_member id other named (each kinds.Node other is)));
    relations_of_ways = may-each may 5 kinds.Way form (λ other is. touched 5 other (along_member id other named (each kinds.Way other is)));
  }

  old-lists : (own : KeyOf) → is_named change own ≡ true → MayList may own (finite.get objects own)
  old-lists own named = named-lists own.kind own.id (finite.get objects own) named
      (λ of other is. or-left (lists of other (finite.get objects own)) (is_listed_after objects change of other own) is)

  new-lists : (own : KeyOf) → is_named change own ≡ true → MayList may own (finite.get after own)
  new-lists own named = named-lists own.kind own.id (finite.get after own) named
      (λ of other is. or-right (lists of other (finite.get objects own)) (is_listed_after objects change of other own) is)

  abbrev Named : Entry → Type 0
  Named entry = is_named change entry.key ≡ true

  all-named : AllByRecursion Named change
  all-named = each-among empty_maps [] change

  pub may-entries : MayEntries may change
  may-entries = all-then Named (λ (entry : Entry). MayObject may entry.key) change
      (λ entry named. named-object entry.key.kind entry.key.id named) all-named

  pub may-turn : IsChange change → MayTurnAll objects may change
  may-turn rise = all-both Named (λ (entry : Entry). finite.get after entry.key ≡ entry.object) (MayTurn objects may) change
      (λ entry named is. record {
        object = named-object entry.key.kind entry.key.id named;
        old = old-lists entry.key named;
        new = subst (MayList may entry.key) is (new-lists entry.key named);
      }) all-named (forms-after objects change rise)

  -- The index, and what the rows of pending keys are built of.

  module _ (maps : Maps) (stands : StandsOn (reaches_nodes style) maps after) where
    abbrev to : Known
    to = known_on maps

    block-ways : (id : ℕ) → is_named change (node_key id) ≡ true → MayEach may 1 (listers maps.ways_of_blocks (block_of id))
    block-ways id named = all-ids (λ way. may 1 way ≡ true) (listers maps.ways_of_blocks (block_of id))
        (λ other there. touched 1 other (way_of_block id other named
        (or-right (has (listed_by blocks_in (finite.get objects (way_key other))) (block_of id))
        (has (listed_by blocks_in (finite.get after (way_key other))) (block_of id))
        (sym (stands.index.ways_of_blocks.answers (block_of id) other) ∙ there))))

    entry-answers : (kind : Kind) (id : ℕ) (object : Option Object) → is_named change (record { kind = kind; id = id }) ≡ true
        → AllByRecursion (MayAnswer may maps) (of_entry (record { key = record { kind = kind; id = id }; object = object }))
    entry-answers kinds.Node id object named = ((touched 3 (block_of id) (block id named), block-ways id named), tt)
    entry-answers kinds.Way id object named = tt
    entry-answers kinds.Relation id object named = tt

    member-answers : (kind : Kind) (id : ℕ) (object : Option Object) → is_named change (record { kind = kind; id = id }) ≡ true
        → AllByRecursion (MayAnswer may maps) (of_member (record { key = record { kind = kind; id = id }; object = object }))
    member-answers kinds.Node id object named = (touched 4 id (around id (named-node id named)), tt)
    member-answers kinds.Way id object named = tt
    member-answers kinds.Relation id object named = tt

    pub may-answer : (ways : List ℕ) → ((way : ℕ) → has ways way ≡ true → is_due (index_of after) change way ≡ true)
        → AllByRecursion (MayAnswer may maps) (of_all change ways)
    may-answer ways due =
        all-append (MayAnswer may maps) (of_nodes change) (of_members change ++ of_ways ways)
        (all-flat (MayAnswer may maps) of_entry change
        (all-then Named _ change (λ entry named. entry-answers entry.key.kind entry.key.id entry.object named) all-named))
        (all-append (MayAnswer may maps) (of_members change) (of_ways ways)
        (all-flat (MayAnswer may maps) of_member change
        (all-then Named _ change (λ entry named. member-answers entry.key.kind entry.key.id entry.object named) all-named))
        (all-map (MayAnswer may maps) RelationsOfWay ways (λ id there. touched 5 id (along id (due-way id (due id there))))))

    form-of-way : (id : ℕ) → finite.get maps.ways id ≡ finite.get after (way_key id)
    form-of-way id = stands.objects.ways id

    places-of-way : (id : ℕ) → ((node : ℕ) → is_listed_after objects change kinds.Node node (way_key id) ≡ true → may 0 node ≡ true)
        → MayAskAll may (place_asks (finite.get maps.ways id))
    places-of-way id each = subst (λ (form : Option Object). MayAskAll may (place_asks form)) (sym (form-of-way id))
        (may-places may (finite.get after (way_key id)) each)

    relations-with : (kind : Kind) (id : ℕ) (ids : List ℕ)
        → ((own : ℕ) → has ids own ≡ has (listed_by (listed kind) (finite.get after (relation_key own))) id)
        → ((own : ℕ) → is_listed_after objects change kind id (relation_key own) ≡ true → may 2 own ≡ true)
        → MayAskAll may (relation_asks ids)
    relations-with kind id ids are each = all-map (MayAsk may) (λ own. OfKey (relation_key own)) ids
        (λ own there. each own (sym (listed-lists kind id (finite.get after (relation_key own))) ∙ sym (are own) ∙ there))

    -- an object, and all that its rows are built of
    abbrev MayAll : KeyOf → Type 0
    MayAll own = MayAskAll may (OfKey own ∷ listed_asks (reaches_nodes style) to own (to.object own))

    -- of what no table may want less is asked
    fewer : (own : KeyOf) → MayAll own → MayAskAll may (needs style (reaches_nodes style) to own)
    fewer own all = (
      all.0,
      elim (may_have_rows style (to.object own)) as
          (λ b. MayAskAll may (cond b (listed_asks (reaches_nodes style) to own (to.object own)) [])) [ true ↦ all.1 | false ↦ tt ],
    )

    node-all : (id : ℕ) → is_pending_node style objects change id ≡ true → MayAll (node_key id)
    node-all id pending =
        let form : Option Object = to.object (node_key id) in
        let listers_asks : List Ask = lister_asks (reaches_nodes style) to (node_key id) in (
          touched 0 id (node id pending),
          all-append (MayAsk may) (place_asks form) (way_asks to form ++ listers_asks)
              (node_alone (λ (own : Option Object). MayAskAll may (place_asks own)) tt (λ place tags. tt) (finite.get maps.nodes id))
              (all-append (MayAsk may) (way_asks to form) listers_asks
              (node_alone (λ (own : Option Object). MayAskAll may (way_asks to own)) tt (λ place tags. tt) (finite.get maps.nodes id))
              (elim (reaches_nodes style) as (λ b. reaches_nodes style ≡ b
              → MayAskAll may (cond b (AroundNode id ∷ relation_asks (to.relations_of_node id)) [])) [
                | true ↦ λ reaches. (
                  touched 4 id (around id pending),
                  relations-with kinds.Node id (to.relations_of_node id) (stands.index.relations_of_nodes.answers id)
                      (λ own is. touched 2 own (relation_of_node id own reaches pending is)),
                )
                | false ↦ λ _. tt
              ] refl)),
        )

    way-all : (id : ℕ) → is_pending_way style objects change id ≡ true → MayAll (way_key id)
    way-all id pending =
        let form : Option Object = finite.get maps.ways id in
        let listers_asks : List Ask = lister_asks (reaches_nodes style) to (way_key id) in (
          touched 1 id (way id pending),
          all-append (MayAsk may) (place_asks form) (way_asks to form ++ listers_asks)
              (places-of-way id (λ other is. touched 0 other (node_of_way id other pending is)))
              (all-append (MayAsk may) (way_asks to form) listers_asks
              (no-members may to form (subst (λ (own : Option Object). IfSome own (IsOfKind kinds.Way)) (sym (form-of-way id))
              (stands.proper.kinds (way_key id)))) (
                touched 5 id (along id pending),
                relations-with kinds.Way id (to.relations_of_way id) (stands.index.relations_of_ways.answers id)
                    (λ own is. touched 2 own (relation_of_way id own pending is)),
              )),
        )

    member-form : (id own : ℕ) → is_pending_relation objects change id ≡ true
        → is_listed_after objects change kinds.Way own (relation_key id) ≡ true → MayAskAll may (form_asks to (way_key own))
    member-form id own pending among = (
      touched 1 own (member id own pending among),
      places-of-way own (λ other is. touched 0 other (node_of_member id own other pending among is)),
    )

    relation-all : (id : ℕ) → is_pending_relation objects change id ≡ true → MayAll (relation_key id)
    relation-all id pending =
        let form : Option Object = finite.get maps.relations id in (
          touched 2 id (relation id pending),
          subst (MayAskAll may) (ap (λ (asks : List Ask). place_asks form ++ asks) (sym (append-nil (way_asks to form))))
              (subst (λ (own : Option Object). MayAskAll may (place_asks own ++ way_asks to own)) (sym (stands.objects.relations id))
              (may-ways may to (finite.get after (relation_key id)) (stands.proper.kinds (relation_key id))
              (λ way is. member-form id way pending is))),
        )

    module _ (set : PendingOf) (pending : IsPendingOf style objects change set) where
      each-key : (P : KeyOf → Type 0) → ((id : ℕ) → is_pending_node style objects change id ≡ true → P (node_key id))
          → ((id : ℕ) → is_pending_way style objects change id ≡ true → P (way_key id))
          → ((id : ℕ) → is_pending_relation objects change id ≡ true → P (relation_key id)) → AllByRecursion P (keys_of set)
      each-key P nodes ways relations =
          all-append P (map node_key set.nodes) (map way_key set.ways ++ map relation_key set.relations)
          (all-map P node_key set.nodes (λ id there. nodes id (sym (pending.nodes id) ∙ there)))
          (all-append P (map way_key set.ways) (map relation_key set.relations)
          (all-map P way_key set.ways (λ id there. ways id (sym (pending.ways id) ∙ there)))
          (all-map P relation_key set.relations (λ id there. relations id (sym (pending.relations id) ∙ there))))

      pub may-needs : MayAskAll may (all_needs style (reaches_nodes style) to (keys_of set))
      may-needs = all-flat (MayAsk may) (needs style (reaches_nodes style) to) (keys_of set)
          (each-key (λ own. MayAskAll may (needs style (reaches_nodes style) to own))
          (λ id is. fewer (node_key id) (node-all id is)) (λ id is. fewer (way_key id) (way-all id is))
          (λ id is. fewer (relation_key id) (relation-all id is)))

      pub may-rows : MayAllRows may (keys_of set)
      may-rows = each-key (MayRows may) (λ id is. touched 6 id (rows_of_node id is)) (λ id is. touched 7 (2 * id) (rows_of_way id is))
          (λ id is. touched 7 (2 * id + 1) (rows_of_relation id is))

-- an entry, where those before it are made
module _ (may : May) (reaches : Bool) (maps : Maps) (objects : ObjectSet) (stands : StandsOn reaches maps objects) (change : List Entry)
    (rise : IsChange change) (at : ℕ) (entry : Entry)
    (below : at < length change) (is : entry ≡ slice_index_or change at entry) (all : MayTurnAll objects may change) where
  abbrev turn : MayTurn objects may entry
  turn = all_at (MayTurn objects may) change at entry entry all below is

  pub entry-object : MayObject may entry.key
  entry-object = turn.object

  pub entry-new : MayList may entry.key entry.object
  entry-new = turn.new

  pub entry-old : MayList may entry.key (way_or_relation_in (change_on maps (take at change)) entry.key.kind entry.key.id)
  entry-old =
      let front : List Entry = take at change in
      lists-of-form may reaches (change_on maps front) (folded_all objects front)
      (entries_stand reaches front maps objects stands (proper_front change at (change_proper change rise))) entry.key
      (subst (MayList may entry.key) (sym (get-untouched objects front entry.key (front-untouched change at entry rise below is))) turn.old)
