-- Rows out of what was gathered are those of the objects for which the maps stand.
use Rattle.std.proofs.Common.{◌≡◌, ℕ, zero, suc, Bool, true, false, not, ◌&&◌, ◌||◌, cond, List, [], ◌∷◌, ◌++◌, length, map, fold, Option}
use Rattle.std.proofs.Common.{Some, None, refl, sym, ap, subst, ◌∙◌, nat_eq}
use mathlib.Core.Bool.{false≢true}
use Rattle.std.specs.Prelude.{IfSome}
use Rattle.std.specs.FinMap as finite
use Rattle.std.specs.List.{AllByRecursion, cons_option, flat_map, list_any, slice_get}
use Rattle.std.specs.Option.{option_and_then}
use Rattle.osm_base.specs.declared.values.key.Kind.{Kind}
use Rattle.osm_base.specs.declared.values.key.Kind.TheVariants as kinds
use Rattle.osm_base.specs.declared.values.object.Member.{Member}
use Rattle.osm_base.specs.declared.values.object.Object.{Object}
use Rattle.osm_base.specs.declared.values.object.Object.TheVariants.{Node, Way, Relation}
use Rattle.osm_base.specs.declared.values.row.Row.{Row}
use Rattle.osm_base.specs.map.Known.{Known}
use Rattle.osm_base.specs.map.Listers.{is_kind, known_of}
use Rattle.osm_base.specs.map.Objects.{ObjectSet}
use Rattle.osm_base.specs.values.Key.{KeyOf, node_key, relation_key, way_key}
use Rattle.osm_base.specs.values.Place.{PlaceOf}
use Rattle.osm_base.specs.values.Tags.{TagMap}
use Rattle.style_read.specs.declared.style.Source.{Source}
use Rattle.style_read.specs.declared.style.Source.TheVariants as sources
use Rattle.style_read.specs.declared.style.TableDef.{TableDef}
use Rattle.style_read.specs.Style.{StyleOf}
use Rattle.object_fold.specs.Change.{IsOfKind}
use Rattle.row_rules.specs.Agree.{Agree, IsSameWay, SameNodes, SamePlaces, SameWays}
use Rattle.row_rules.specs.Condition.{is_of_nodes, names_selection, reaches_nodes}
use Rattle.row_rules.specs.Material.{Material, material_known, material_of, selecting_among, selecting_tags}
use Rattle.row_rules.specs.Objects.{is_of_kind}
use Rattle.row_rules.specs.Row.{cells_of, row, row_from, row_of, wants, with_geometry}
use Rattle.row_rules.specs.Rows.{rows_below, rows_in, rows_known}
use Rattle.row_rules.specs.Shape.{geometry_of, with_way}
use Rattle.row_rules.specs.Wanted.{may_have_rows}
use Rattle.row_rules.proofs.Locality.{row_from-same}
use Rattle.row_rules.proofs.Unwanted.{row_from-unwanted}
use Rattle.store_maps.specs.Maps.{Maps}
use Rattle.store_maps.specs.Named.{known_on}
use Rattle.store_maps.specs.Stands.{StandsOn}
use Rattle.store_maps.proofs.KnownMaps.{KnowsTags, object_is, place_is, relations_of_node-are, relations_of_way-are}
use Rattle.update_step.specs.Gather.{AlongWay, AreAsked, AroundNode, AtNode, Gathered, IsRight, OfKey, form_asks, known_in, listed_asks}
use Rattle.update_step.specs.Gather.{lister_asks, member_asks, needs, place_asks, relation_asks, was_asked, way_asks}
use Rattle.update_step.proofs.Asking.{asked-back, asked-front}

all_pushed : (P : KeyOf → Type 0) (keys : List KeyOf) (key : KeyOf) → AllByRecursion P keys → P key → AllByRecursion P (keys ++ key ∷ [])
all_pushed P [] key all holds = (holds, tt)
all_pushed P (first ∷ keys) key all holds = (all.0, all_pushed P keys key all.1 holds)

-- what holds of each member that is a way holds of each of the ways among members
all_among : (P : KeyOf → Type 0) (members : List Member) (ways : List KeyOf) → AllByRecursion P ways
    → AllByRecursion (λ (member : Member). is_kind kinds.Way member.key.kind ≡ true → P member.key) members
    → AllByRecursion P (fold with_way ways members)
all_among P [] ways all each = all
all_among P (member ∷ members) ways all each =
    elim (is_kind kinds.Way member.key.kind) as (λ b. is_kind kinds.Way member.key.kind ≡ b
    → AllByRecursion P (fold with_way (cond (b && not (list_any (λ (way : KeyOf). nat_eq way.id member.key.id) ways))
    (ways ++ member.key ∷ []) ways) members)) [
      | true ↦ λ same. elim (list_any (λ (way : KeyOf). nat_eq way.id member.key.id) ways) as
          (λ b. AllByRecursion P (fold with_way (cond (not b) (ways ++ member.key ∷ []) ways) members)) [
            | true ↦ all_among P members ways all each.1
            | false ↦ all_among P members (ways ++ member.key ∷ []) (all_pushed P ways member.key all (each.0 same)) each.1
          ]
      | false ↦ λ differs. all_among P members ways all each.1
    ] refl

some_same : {A : Type 0} {x y : A} → Some x ≡ Some y → x ≡ y
some_same e = cc

never : {A : Type 0} (b : Bool) → cond {A = Option A} b None None ≡ None
never true = refl
never false = refl

or-true : (a b : Bool) → b ≡ true → (a || b) ≡ true
or-true true b is = refl
or-true false b is = is

any_of : {A : Type 0} (test : A → Bool) (xs : List A) (at : ℕ) (x : A) → slice_get xs at ≡ Some x → test x ≡ true → list_any test xs ≡ true
any_of test [] at x is passes = absurd (cc)
any_of test (first ∷ xs) zero x is passes = ap (λ b. b || list_any test xs) (ap test (some_same is) ∙ passes)
any_of test (first ∷ xs) (suc at) x is passes = or-true (test first) (list_any test xs) (any_of test xs at x is passes)

no_geometry : (place : ℕ → Option PlaceOf) (object : KeyOf → Option Object) (own : Option PlaceOf) (tags : TagMap) (source : Source)
    → is_of_nodes source ≡ false → geometry_of place object source (Node own tags) ≡ None
no_geometry place object own tags sources.Node not = absurd (false≢true (sym not))
no_geometry place object own tags sources.Way not = refl
no_geometry place object own tags sources.Area not = refl
no_geometry place object own tags sources.Relation not = refl

-- a node has no row in a table that is not of nodes
no_row : (style : StyleOf) (from : Material) (key : KeyOf) (definition : TableDef) (own : Option PlaceOf) (tags : TagMap)
    → is_of_nodes definition.source ≡ false → row_of style.selections from definition key (Node own tags) ≡ None
no_row style from key definition own tags not =
    ap (λ geometry. cond (is_of_kind key.kind (Node own tags) && wants from definition (Node own tags))
    (with_geometry (cells_of style.selections from definition (Node own tags)) geometry) None)
    (no_geometry from.place from.object own tags definition.source not)
    ∙ never (is_of_kind key.kind (Node own tags) && wants from definition (Node own tags))

module _ (style : StyleOf) (maps : Maps) (objects : ObjectSet) (stands : StandsOn (reaches_nodes style) maps objects) (g : Gathered)
    (right : IsRight g (known_on maps)) where
  abbrev reaches : Bool
  reaches = reaches_nodes style

  abbrev to : Known
  to = known_on maps

  abbrev known : Known
  known = known_in g

  abbrev one : KeyOf → Material
  one own = material_known style known own

  abbrev other : KeyOf → Material
  other own = material_of style objects own

  place-same : (id : ℕ) → was_asked g (AtNode id) ≡ true → known.place id ≡ (known_of objects).place id
  place-same id asked = right (AtNode id) asked ∙ place_is reaches maps objects stands id

  places-same : (own : KeyOf) (nodes : List ℕ) → AreAsked g (map AtNode nodes) → SamePlaces (one own) (other own) nodes
  places-same own [] asked = tt
  places-same own (id ∷ nodes) asked = (place-same id asked.0, places-same own nodes asked.1)

  nodes-same : (own : KeyOf) (object : Option Object) → AreAsked g (place_asks object) → SameNodes (one own) (other own) object
  nodes-same own None asked = tt
  nodes-same own (Some (Node place tags)) asked = tt
  nodes-same own (Some (Way nodes tags)) asked = places-same own nodes asked
  nodes-same own (Some (Relation members tags)) asked = tt

  -- an object of a key of which all tags are known
  module _ (own : KeyOf) (knows : own.kind ≡ kinds.Node → KnowsTags (finite.get maps.nodes own.id)) where
    as-asked : was_asked g (OfKey own) ≡ true → known.object own ≡ to.object own
    as-asked asked = right (OfKey own) asked

    object-same : was_asked g (OfKey own) ≡ true → known.object own ≡ finite.get objects own
    object-same asked = as-asked asked ∙ object_is reaches maps objects stands own knows

  no_node : (kind : Kind) → is_kind kinds.Way kind ≡ true → kind ≡ kinds.Node → ⊥
  no_node kinds.Node same is = false≢true same
  no_node kinds.Way same is = absurd (cc)
  no_node kinds.Relation same is = absurd (cc)

  way-same : (own : KeyOf) (way : KeyOf) → is_kind kinds.Way way.kind ≡ true → AreAsked g (form_asks to way)
      → IsSameWay (one own) (other own) way
  way-same own way same asked =
      let knows : way.kind ≡ kinds.Node → KnowsTags (finite.get maps.nodes way.id) = λ is. absurd (no_node way.kind same is) in
      record {
        object = object-same way knows asked.0;
        nodes = subst (SameNodes (one own) (other own)) (sym (as-asked way knows asked.0)) (nodes-same own (to.object way) asked.1);
      }

  each-member : (own : KeyOf) (members : List Member) → AreAsked g (flat_map (member_asks to) members)
      → AllByRecursion (λ (member : Member). is_kind kinds.Way member.key.kind ≡ true → IsSameWay (one own) (other own) member.key) members
  each-member own [] asked = tt
  each-member own (member ∷ members) asked =
      let here : AreAsked g (member_asks to member) = asked-front g (member_asks to member) (flat_map (member_asks to) members) asked in (
        (λ same. way-same own member.key same (subst (λ b. AreAsked g (cond b (form_asks to member.key) [])) same here)),
        each-member own members (asked-back g (member_asks to member) (flat_map (member_asks to) members) asked),
      )

  ways-same : (own : KeyOf) (object : Option Object) → AreAsked g (way_asks to object) → SameWays (one own) (other own) object
  ways-same own None asked = tt
  ways-same own (Some (Node place tags)) asked = tt
  ways-same own (Some (Way nodes tags)) asked = tt
  ways-same own (Some (Relation members tags)) asked =
      all_among (IsSameWay (one own) (other own)) members [] tt (each-member own members asked)

  no_relation : kinds.Relation ≡ kinds.Node → ⊥
  no_relation is = cc

  relations-same : (ids : List ℕ) → AreAsked g (relation_asks ids) → (number : ℕ)
      → selecting_among style.selections known.object ids number ≡ selecting_among style.selections (known_of objects).object ids number
  relations-same [] asked number = refl
  relations-same (id ∷ ids) asked number =
      ap (λ object. cons_option (selecting_tags style.selections number object) (selecting_among style.selections known.object ids number))
      (object-same (relation_key id) (λ is. absurd (no_relation is)) asked.0)
      ∙ ap (cons_option (selecting_tags style.selections number (finite.get objects (relation_key id)))) (relations-same ids asked.1 number)

  selecting-along : (id number : ℕ) → AreAsked g (lister_asks reaches to (way_key id))
      → (one (way_key id)).selecting number ≡ (other (way_key id)).selecting number
  selecting-along id number asked =
      ap (λ ids. selecting_among style.selections known.object ids number) (right (AlongWay id) asked.0)
      ∙ relations-same (to.relations_of_way id) asked.1 number
      ∙ ap (λ ids. selecting_among style.selections (known_of objects).object ids number)
      (relations_of_way-are reaches maps objects stands id)

  selecting-around : (id number : ℕ) → reaches ≡ true → AreAsked g (lister_asks reaches to (node_key id))
      → (one (node_key id)).selecting number ≡ (other (node_key id)).selecting number
  selecting-around id number is asked =
      let all : AreAsked g (AroundNode id ∷ relation_asks (to.relations_of_node id)) =
      subst (λ b. AreAsked g (cond b (AroundNode id ∷ relation_asks (to.relations_of_node id)) [])) is asked in
      ap (λ ids. selecting_among style.selections known.object ids number) (right (AroundNode id) all.0)
      ∙ relations-same (to.relations_of_node id) all.1 number
      ∙ ap (λ ids. selecting_among style.selections (known_of objects).object ids number)
      (relations_of_node-are reaches maps objects stands id)

  -- an object was asked, and all that its rows are built of
  abbrev AllAsked : KeyOf → Type 0
  AllAsked own = AreAsked g (OfKey own ∷ listed_asks reaches to own (to.object own))

  -- all that was asked of a key
  module _ (own : KeyOf) (knows : own.kind ≡ kinds.Node → KnowsTags (finite.get maps.nodes own.id)) (asked : AllAsked own) where
    form-asked : AreAsked g (form_asks to own)
    form-asked = asked-front g (form_asks to own) (way_asks to (to.object own) ++ lister_asks reaches to own) asked

    later-asked : AreAsked g (way_asks to (to.object own) ++ lister_asks reaches to own)
    later-asked = asked-back g (form_asks to own) (way_asks to (to.object own) ++ lister_asks reaches to own) asked

    listers-asked : AreAsked g (lister_asks reaches to own)
    listers-asked = asked-back g (way_asks to (to.object own)) (lister_asks reaches to own) later-asked

    agree : (definition : TableDef) → (names_selection definition ≡ true → (number : ℕ)
        → (one own).selecting number ≡ (other own).selecting number) → Agree definition own (one own) (other own)
    agree definition selecting = record {
      object = object-same own knows form-asked.0;
      nodes = subst (SameNodes (one own) (other own)) (sym (as-asked own knows form-asked.0)) (nodes-same own (to.object own) form-asked.1);
      ways = subst (SameWays (one own) (other own)) (sym (as-asked own knows form-asked.0))
          (ways-same own (to.object own) (asked-front g (way_asks to (to.object own)) (lister_asks reaches to own) later-asked));
      selecting = selecting;
    }

  abbrev RowSame : KeyOf → Type 0
  RowSame own = (table : ℕ) → row_from style table (one own) own ≡ row style objects table own

  way-rows : (id : ℕ) → AllAsked (way_key id) → RowSame (way_key id)
  way-rows id asked table =
      let knows : kinds.Way ≡ kinds.Node → KnowsTags (finite.get maps.nodes id) = λ is. absurd (no_node kinds.Way refl is) in
      row_from-same style table (way_key id) (one (way_key id)) (other (way_key id))
      (λ definition is. agree (way_key id) knows asked definition
      (λ names number. selecting-along id number (listers-asked (way_key id) knows asked)))

  relation-rows : (id : ℕ) → AllAsked (relation_key id) → RowSame (relation_key id)
  relation-rows id asked table =
      row_from-same style table (relation_key id) (one (relation_key id)) (other (relation_key id))
      (λ definition is. agree (relation_key id) (λ is. absurd (no_relation is)) asked definition (λ names number. refl))

  module _ (id : ℕ) (knows : KnowsTags (finite.get maps.nodes id)) (asked : AllAsked (node_key id)) where
    abbrev node : KeyOf
    node = node_key id

    object-of-node : known.object node ≡ finite.get objects node
    object-of-node = object-same node (λ _. knows) (form-asked node (λ _. knows) asked).0

    -- in a table that is not of nodes
    apart : (definition : TableDef) → is_of_nodes definition.source ≡ false → (object : Option Object) → finite.get objects node ≡ object
        → IfSome object (IsOfKind kinds.Node)
        → option_and_then (row_of style.selections (one node) definition node) (known.object node)
        ≡ option_and_then (row_of style.selections (other node) definition node) (finite.get objects node)
    apart definition not None is proper = ap (option_and_then (row_of style.selections (one node) definition node)) (object-of-node ∙ is)
        ∙ sym (ap (option_and_then (row_of style.selections (other node) definition node)) is)
    apart definition not (Some (Node place tags)) is proper =
        ap (option_and_then (row_of style.selections (one node) definition node)) (object-of-node ∙ is)
        ∙ no_row style (one node) node definition place tags not
        ∙ sym (ap (option_and_then (row_of style.selections (other node) definition node)) is
        ∙ no_row style (other node) node definition place tags not)
    apart definition not (Some (Way nodes tags)) is proper = absurd proper
    apart definition not (Some (Relation members tags)) is proper = absurd proper

    of_table : (table : ℕ) (definition : TableDef) → slice_get style.tables table ≡ Some definition
        → row_from style table (one node) node ≡ row style objects table node
    of_table table definition is = elim (is_of_nodes definition.source) as
        (λ b. is_of_nodes definition.source ≡ b → row_from style table (one node) node ≡ row style objects table node) [
          | false ↦ λ not.
              ap (option_and_then (λ own. option_and_then (row_of style.selections (one node) own node) (known.object node))) is
              ∙ apart definition not (finite.get objects node) refl (stands.proper.kinds node)
              ∙ sym (ap (option_and_then (λ own. option_and_then (row_of style.selections (other node) own node) (finite.get objects node)))
              is)
          | true ↦ λ of_nodes. row_from-same style table node (one node) (other node)
              (λ own own_is. agree node (λ _. knows) asked own (λ names number.
              selecting-around id number
              (any_of (λ (own : TableDef). is_of_nodes own.source && names_selection own) style.tables table own own_is
              (ap (λ b. b && names_selection own) (ap (λ (own : TableDef). is_of_nodes own.source) (some_same (sym own_is ∙ is)) ∙ of_nodes)
              ∙ names))
              (listers-asked node (λ _. knows) asked)))
        ] refl

    node-rows : RowSame node
    node-rows table = elim (slice_get style.tables table) as
        (λ found. slice_get style.tables table ≡ found → row_from style table (one node) node ≡ row style objects table node) [
          | None ↦ λ none.
              ap (option_and_then (λ own. option_and_then (row_of style.selections (one node) own node) (known.object node))) none
              ∙ sym (ap (option_and_then (λ own. option_and_then (row_of style.selections (other node) own node) (finite.get objects node)))
              none)
          | Some definition ↦ λ is. of_table table definition is
        ] refl

  row-same-of : (kind : Kind) (id : ℕ) → (kind ≡ kinds.Node → KnowsTags (finite.get maps.nodes id))
      → AllAsked (record { kind = kind; id = id }) → RowSame (record { kind = kind; id = id })
  row-same-of kinds.Node id knows asked = node-rows id (knows refl) asked
  row-same-of kinds.Way id knows asked = way-rows id asked
  row-same-of kinds.Relation id knows asked = relation-rows id asked

  -- of what no table may want the object alone was asked
  row-same : (own : KeyOf) → (own.kind ≡ kinds.Node → KnowsTags (finite.get maps.nodes own.id)) → AreAsked g (needs style reaches to own)
      → RowSame own
  row-same own knows asked = elim (may_have_rows style (to.object own)) as (λ b. may_have_rows style (to.object own) ≡ b → RowSame own) [
    | true ↦ λ may. row-same-of own.kind own.id knows
        (asked.0, subst (λ b. AreAsked g (cond b (listed_asks reaches to own (to.object own)) [])) may asked.1)
    | false ↦ λ not table.
        row_from-unwanted style table (one own) own (ap (may_have_rows style) (as-asked own knows asked.0) ∙ not)
        ∙ sym (row_from-unwanted style table (other own) own
        (ap (may_have_rows style) (sym (object_is reaches maps objects stands own knows)) ∙ not))
  ] refl

  pub rows-same : (own : KeyOf) → (own.kind ≡ kinds.Node → KnowsTags (finite.get maps.nodes own.id))
      → AreAsked g (needs style reaches to own) → rows_known style known own ≡ rows_in style objects own
  unfolding rows_known rows_in
  rows-same own knows asked = ap (λ (rows : ℕ → Option Row). rows_below rows (length style.tables))
      (λ i table. row-same own knows asked table i)
