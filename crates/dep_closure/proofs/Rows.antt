-- Rows of what is not pending are the same before and after a change.
use Rattle.std.proofs.Common.{◌≡◌, ℕ, suc, zero, Bool, true, false, not, ◌&&◌, ◌||◌, cond, List, [], ◌∷◌, ◌++◌, map, fold, Option, Some}
use Rattle.std.proofs.Common.{None, refl, sym, ap, subst, ◌∙◌, nat_eq}
use mathlib.Core.Bool.{false≢true}
use Rattle.std.specs.List.{AllByRecursion, filter, list_any, slice_get}
use Rattle.std.specs.Option.{option_and_then}
use Rattle.std.specs.FinMap as finite
use Rattle.osm_base.specs.declared.values.key.Kind.{Kind}
use Rattle.osm_base.specs.declared.values.key.Kind.TheVariants as kinds
use Rattle.osm_base.specs.declared.values.object.Entry.{Entry}
use Rattle.osm_base.specs.declared.values.object.Member.{Member}
use Rattle.osm_base.specs.declared.values.object.Object.{Object}
use Rattle.osm_base.specs.declared.values.object.Object.TheVariants.{Node, Way, Relation}
use Rattle.osm_base.specs.map.Listers.{is_kind, lists, member_ids}
use Rattle.osm_base.specs.map.Objects.{ObjectSet, folded_all}
use Rattle.osm_base.specs.map.Pending.{PendingOf}
use Rattle.osm_base.specs.values.Ids.{has}
use Rattle.osm_base.specs.values.Place.{PlaceOf}
use Rattle.osm_base.specs.values.Key.{KeyOf, node_key, way_key, relation_key}
use Rattle.osm_base.specs.values.Tags.{TagMap}
use Rattle.style_read.specs.declared.style.Source.{Source}
use Rattle.style_read.specs.declared.style.Source.TheVariants as sources
use Rattle.style_read.specs.declared.style.TableDef.{TableDef}
use Rattle.style_read.specs.Style.{StyleOf}
use Rattle.object_fold.specs.Change.{IsChange}
use Rattle.object_fold.proofs.Listers.{kind_same}
use Rattle.row_rules.specs.Agree.{Agree, IsSameWay, SameNodes, SameWays}
use Rattle.row_rules.specs.Condition.{is_of_nodes, names_selection, reaches_nodes}
use Rattle.row_rules.specs.Material.{Material, material_of}
use Rattle.row_rules.specs.Objects.{is_of_kind}
use Rattle.row_rules.specs.Row.{cells_of, row, row_from, row_of, wants, with_geometry}
use Rattle.row_rules.specs.Shape.{geometry_of, with_way}
use Rattle.row_rules.proofs.Locality.{row_from-same}
use Rattle.dep_closure.specs.PendingSet.{HasOldForms, IsPendingOf, LeavesRows, is_among, is_moved, is_named, is_pending, is_reselected}
use Rattle.dep_closure.specs.PendingSet.{ways_in}
use Rattle.dep_closure.specs.Selecting.{HandsSame}
use Rattle.dep_closure.proofs.Anys.{none_of, or-true, tied_self}
use Rattle.dep_closure.proofs.Selections.{selecting-alike, selecting-stays}
use Rattle.dep_closure.proofs.Stays.{object-stays, place-stays, unnamed-stays}

all_there : {P : ℕ → Type 0} (ids : List ℕ) → ((id : ℕ) → has ids id ≡ true → P id) → AllByRecursion P ids
all_there [] each = tt
all_there (first ∷ ids) each = (
  each first (ap (λ b. b || has ids first) (tied_self first)),
  all_there ids (λ id there. each id (or-true (nat_eq first id) (has ids id) there)),
)

all_pushed : (P : KeyOf → Type 0) (keys : List KeyOf) (key : KeyOf) → AllByRecursion P keys → P key → AllByRecursion P (keys ++ key ∷ [])
all_pushed P [] key all holds = (holds, tt)
all_pushed P (first ∷ keys) key all holds = (all.0, all_pushed P keys key all.1 holds)

-- what holds of each way that is a member holds of each of the ways among members
all_among : (P : KeyOf → Type 0) (members : List Member) (ways : List KeyOf) → AllByRecursion P ways
    → AllByRecursion (λ id. P (way_key id)) (member_ids kinds.Way members)
    → AllByRecursion P (fold with_way ways members)
all_among P [] ways all each = all
all_among P (member ∷ members) ways all each =
    elim (is_kind kinds.Way member.key.kind) as (λ b. is_kind kinds.Way member.key.kind ≡ b
    → AllByRecursion (λ id. P (way_key id)) (map (λ (own : Member). own.key.id)
    (cond b (member ∷ filter (λ (own : Member). is_kind kinds.Way own.key.kind) members)
    (filter (λ (own : Member). is_kind kinds.Way own.key.kind) members)))
    → AllByRecursion P (fold with_way (cond (b && not (list_any (λ (way : KeyOf). nat_eq way.id member.key.id) ways))
    (ways ++ member.key ∷ []) ways) members)) [
      | true ↦ λ same each.
          elim (list_any (λ (way : KeyOf). nat_eq way.id member.key.id) ways) as
          (λ b. AllByRecursion P (fold with_way (cond (not b) (ways ++ member.key ∷ []) ways) members)) [
            | true ↦ all_among P members ways all each.1
            | false ↦ all_among P members (ways ++ member.key ∷ [])
                (all_pushed P ways member.key all (subst (λ (kind : Kind). P (record { kind = kind; id = member.key.id }))
                (kind_same kinds.Way member.key.kind same) each.0)) each.1
          ]
      | false ↦ λ differs each. all_among P members ways all each
    ] refl each

some_same : {A : Type 0} {x y : A} → Some x ≡ Some y → x ≡ y
some_same e = cc

nothing : {A : Type 0} {x : A} → None ≡ Some x → ⊥
nothing e = cc

never : {A : Type 0} (b : Bool) → cond {A = Option A} b None None ≡ None
never true = refl
never false = refl

-- what a test passes that stands in a list
any_of : {A : Type 0} (test : A → Bool) (xs : List A) (at : ℕ) (x : A) → slice_get xs at ≡ Some x → test x ≡ true → list_any test xs ≡ true
any_of test [] at x is passes = absurd (cc)
any_of test (first ∷ xs) zero x is passes = ap (λ b. b || list_any test xs) (ap test (some_same is) ∙ passes)
any_of test (first ∷ xs) (suc at) x is passes = or-true (test first) (list_any test xs) (any_of test xs at x is passes)

module _ (style : StyleOf) (objects : ObjectSet) (change : List Entry) where
  abbrev after : ObjectSet
  after = folded_all objects change

  abbrev now : KeyOf → Material
  now key = material_of style after key

  abbrev before : KeyOf → Material
  before key = material_of style objects key

  same-nodes : (key own : KeyOf) → is_moved after change own ≡ false → (object : Option Object) → finite.get after own ≡ object
      → SameNodes (now key) (before key) object
  same-nodes key own not_moved None is = tt
  same-nodes key own not_moved (Some (Node place tags)) is = tt
  same-nodes key own not_moved (Some (Relation members tags)) is = tt
  same-nodes key own not_moved (Some (Way nodes tags)) is =
      all_there nodes (λ id there. place-stays objects change own not_moved id (ap (lists kinds.Node id) is ∙ there))

  same-way : (key : KeyOf) (way : ℕ) → is_moved after change (way_key way) ≡ false → IsSameWay (now key) (before key) (way_key way)
  same-way key way not_moved = record {
    object = object-stays objects change (way_key way) not_moved;
    nodes = same-nodes key (way_key way) not_moved (finite.get after (way_key way)) refl;
  }

  same-each : (key : KeyOf) (ways : List ℕ) → list_any (λ way. is_moved after change (way_key way)) ways ≡ false
      → AllByRecursion (λ way. IsSameWay (now key) (before key) (way_key way)) ways
  same-each key [] not_moved = tt
  same-each key (way ∷ ways) not_moved =
      let none = none_of (is_moved after change (way_key way)) (list_any (λ way. is_moved after change (way_key way)) ways) not_moved in
      (same-way key way none.0, same-each key ways none.1)

  -- rows of what has no geometry or no fitting kind

  row_from-none : (from : Material) (table : ℕ) (key : KeyOf) (definition : TableDef) → slice_get style.tables table ≡ Some definition
      → ((object : Object) → from.object key ≡ Some object → row_of style.selections from definition key object ≡ None)
      → row_from style table from key ≡ None
  row_from-none from table key definition is none =
      ap (option_and_then (λ own. option_and_then (row_of style.selections from own key) (from.object key))) is
      ∙ elim (from.object key) as (λ object. from.object key ≡ object
      → option_and_then (row_of style.selections from definition key) object ≡ None) [
        | None ↦ λ _. refl
        | Some object ↦ λ there. none object there
      ] refl

  -- no table has a row of such an object
  abbrev NeverIn : KeyOf → TableDef → Type 0
  NeverIn key definition = (from : Material) (object : Object) → finite.get after key ≡ Some object
      → row_of style.selections from definition key object ≡ None

  never-same : (table : ℕ) (key : KeyOf) (definition : TableDef) → finite.get after key ≡ finite.get objects key
      → slice_get style.tables table ≡ Some definition → NeverIn key definition
      → row_from style table (now key) key ≡ row_from style table (before key) key
  never-same table key definition same is never =
      row_from-none (now key) table key definition is (never (now key))
      ∙ sym (row_from-none (before key) table key definition is (λ object there. never (before key) object (same ∙ there)))

  by-table : (table : ℕ) (key : KeyOf) → ((definition : TableDef) → slice_get style.tables table ≡ Some definition
      → row_from style table (now key) key ≡ row_from style table (before key) key)
      → row_from style table (now key) key ≡ row_from style table (before key) key
  by-table table key each = elim (slice_get style.tables table) as
      (λ found. slice_get style.tables table ≡ found → row_from style table (now key) key ≡ row_from style table (before key) key) [
        | None ↦ λ none.
            ap (option_and_then (λ own. option_and_then (row_of style.selections (now key) own key) (finite.get after key))) none
            ∙ sym (ap (option_and_then (λ own. option_and_then (row_of style.selections (before key) own key) (finite.get objects key)))
            none)
        | Some definition ↦ λ is. each definition is
      ] refl

  all-never : (table : ℕ) (key : KeyOf) → finite.get after key ≡ finite.get objects key → ((definition : TableDef) → NeverIn key definition)
      → row_from style table (now key) key ≡ row_from style table (before key) key
  all-never table key same never = by-table table key (λ definition is. never-same table key definition same is (never definition))

  all-agree : (table : ℕ) (key : KeyOf) → ((definition : TableDef) → slice_get style.tables table ≡ Some definition
      → Agree definition key (now key) (before key)) → row_from style table (now key) key ≡ row_from style table (before key) key
  all-agree table key agree = row_from-same style table key (now key) (before key) agree

  -- an object is of another kind than its key
  misfit : (key : KeyOf) (own : Object) → is_of_kind key.kind own ≡ false → finite.get after key ≡ Some own → (definition : TableDef)
      → NeverIn key definition
  misfit key own not there definition from object is =
      ap (λ b. cond (b && wants from definition object)
      (with_geometry (cells_of style.selections from definition object) (geometry_of from.place from.object definition.source object))
      None)
      (ap (is_of_kind key.kind) (some_same (sym is ∙ there)) ∙ not)

  no_geometry : (place : ℕ → Option PlaceOf) (object : KeyOf → Option Object) (own : Option PlaceOf) (tags : TagMap) (source : Source)
      → is_of_nodes source ≡ false → geometry_of place object source (Node own tags) ≡ None
  no_geometry place object own tags sources.Node not = absurd (false≢true (sym not))
  no_geometry place object own tags sources.Way not = refl
  no_geometry place object own tags sources.Area not = refl
  no_geometry place object own tags sources.Relation not = refl

  never-node : (key : KeyOf) (own : Option PlaceOf) (tags : TagMap) → finite.get after key ≡ Some (Node own tags) → (definition : TableDef)
      → is_of_nodes definition.source ≡ false → NeverIn key definition
  never-node key own tags there definition not from object is =
      ap (row_of style.selections from definition key) (some_same (sym is ∙ there))
      ∙ ap (λ geometry. cond (is_of_kind key.kind (Node own tags) && wants from definition (Node own tags))
      (with_geometry (cells_of style.selections from definition (Node own tags)) geometry) None)
      (no_geometry from.place from.object own tags definition.source not)
      ∙ never (is_of_kind key.kind (Node own tags) && wants from definition (Node own tags))

  -- an object that stays, of a key that is not pending

  module _ (table id : ℕ) (not : is_pending style objects change (node_key id) ≡ false) where
    abbrev node : KeyOf
    node = node_key id

    node-none : (is_named change node ≡ false) × ((reaches_nodes style && is_reselected style objects change kinds.Node id) ≡ false)
    node-none = none_of (is_named change node) (reaches_nodes style && is_reselected style objects change kinds.Node id) not

    node-same : finite.get after node ≡ finite.get objects node
    node-same = unnamed-stays objects change node node-none.0

    node-selecting : (definition : TableDef) → slice_get style.tables table ≡ Some definition → is_of_nodes definition.source ≡ true
        → names_selection definition ≡ true → (number : ℕ) → (now node).selecting number ≡ (before node).selecting number
    node-selecting definition is of_nodes names number =
        let reaches : reaches_nodes style ≡ true =
        any_of (λ (own : TableDef). is_of_nodes own.source && names_selection own) style.tables table definition is
        (ap (λ b. b && names_selection definition) of_nodes ∙ names) in
        selecting-stays style kinds.Node id number objects change
        (sym (ap (λ b. b && is_reselected style objects change kinds.Node id) reaches) ∙ node-none.1)

    node-table : (own : Option PlaceOf) (tags : TagMap) → finite.get after node ≡ Some (Node own tags) → (definition : TableDef)
        → slice_get style.tables table ≡ Some definition → row_from style table (now node) node ≡ row_from style table (before node) node
    node-table own tags there definition is =
        elim (is_of_nodes definition.source) as (λ b. is_of_nodes definition.source ≡ b
        → row_from style table (now node) node ≡ row_from style table (before node) node) [
          | false ↦ λ not_nodes. never-same table node definition node-same is (never-node node own tags there definition not_nodes)
          | true ↦ λ of_nodes. row_from-same style table node (now node) (before node)
              (λ other other_is. subst (λ (table : TableDef). Agree table node (now node) (before node)) (some_same (sym is ∙ other_is))
              (record {
                object = node-same;
                nodes = subst (SameNodes (now node) (before node)) (sym there) tt;
                ways = subst (SameWays (now node) (before node)) (sym there) tt;
                selecting = node-selecting definition is of_nodes;
              }))
        ] refl

    node-by : (object : Option Object) → finite.get after node ≡ object
        → row_from style table (now node) node ≡ row_from style table (before node) node
    node-by None there = all-never table node node-same (λ definition from object is. absurd (nothing (sym there ∙ is)))
    node-by (Some (Node own tags)) there = by-table table node (node-table own tags there)
    node-by (Some (Way nodes tags)) there = all-never table node node-same (misfit node (Way nodes tags) refl there)
    node-by (Some (Relation members tags)) there = all-never table node node-same (misfit node (Relation members tags) refl there)

    node-rows : row_from style table (now node) node ≡ row_from style table (before node) node
    node-rows = node-by (finite.get after node) refl

  -- a way that is not moved, and that the same relations select as before
  module _ (table id : ℕ) (not_moved : is_moved after change (way_key id) ≡ false)
      (selecting : (number : ℕ) → (now (way_key id)).selecting number ≡ (before (way_key id)).selecting number) where
    abbrev way : KeyOf
    way = way_key id

    way-same : finite.get after way ≡ finite.get objects way
    way-same = object-stays objects change way not_moved

    way-by : (object : Option Object) → finite.get after way ≡ object
        → row_from style table (now way) way ≡ row_from style table (before way) way
    way-by None there = all-never table way way-same (λ definition from object is. absurd (nothing (sym there ∙ is)))
    way-by (Some (Node own tags)) there = all-never table way way-same (misfit way (Node own tags) refl there)
    way-by (Some (Way nodes tags)) there = all-agree table way (λ definition is. record {
      object = way-same;
      nodes = same-nodes way way not_moved (finite.get after way) refl;
      ways = subst (SameWays (now way) (before way)) (sym there) tt;
      selecting = λ names number. selecting number;
    })
    way-by (Some (Relation members tags)) there = all-never table way way-same (misfit way (Relation members tags) refl there)

    way-stays : row_from style table (now way) way ≡ row_from style table (before way) way
    way-stays = way-by (finite.get after way) refl

  module _ (table id : ℕ) (not : is_pending style objects change (way_key id) ≡ false) where
    way-none : (is_moved after change (way_key id) ≡ false) × (is_reselected style objects change kinds.Way id ≡ false)
    way-none = none_of (is_moved after change (way_key id)) (is_reselected style objects change kinds.Way id) not

    way-rows : row_from style table (now (way_key id)) (way_key id) ≡ row_from style table (before (way_key id)) (way_key id)
    way-rows = way-stays table id way-none.0 (λ number. selecting-stays style kinds.Way id number objects change way-none.1)

  -- a way that is not moved has the same rows where each relation of the change hands it the same
  pub unmoved-way : (old : ObjectSet) (id : ℕ) → IsChange change → HasOldForms old objects change → HandsSame style old change kinds.Way id
      → is_moved after change (way_key id) ≡ false
      → (table : ℕ) → row style after table (way_key id) ≡ row style objects table (way_key id)
  unmoved-way old id rise olds same not_moved table =
      way-stays table id not_moved (λ number. selecting-alike style kinds.Way id number old objects change rise olds same)

  module _ (table id : ℕ) (not : is_pending style objects change (relation_key id) ≡ false) where
    abbrev relation : KeyOf
    relation = relation_key id

    relation-none : (is_moved after change relation ≡ false)
        × (list_any (λ way. is_moved after change (way_key way)) (ways_in (finite.get after relation)) ≡ false)
    relation-none = none_of (is_moved after change relation)
        (list_any (λ way. is_moved after change (way_key way)) (ways_in (finite.get after relation))) not

    relation-same : finite.get after relation ≡ finite.get objects relation
    relation-same = object-stays objects change relation relation-none.0

    relation-by : (object : Option Object) → finite.get after relation ≡ object
        → row_from style table (now relation) relation ≡ row_from style table (before relation) relation
    relation-by None there = all-never table relation relation-same (λ definition from object is. absurd (nothing (sym there ∙ is)))
    relation-by (Some (Node own tags)) there = all-never table relation relation-same (misfit relation (Node own tags) refl there)
    relation-by (Some (Way nodes tags)) there = all-never table relation relation-same (misfit relation (Way nodes tags) refl there)
    relation-by (Some (Relation members tags)) there = all-agree table relation (λ definition is. record {
      object = relation-same;
      nodes = subst (SameNodes (now relation) (before relation)) (sym there) tt;
      ways = subst (SameWays (now relation) (before relation)) (sym there)
          (all_among (IsSameWay (now relation) (before relation)) members [] tt
          (same-each relation (member_ids kinds.Way members)
          (sym (ap (λ own. list_any (λ way. is_moved after change (way_key way)) (ways_in own)) there) ∙ relation-none.1)));
      selecting = λ names number. refl;
    })

    relation-rows : row_from style table (now relation) relation ≡ row_from style table (before relation) relation
    relation-rows = relation-by (finite.get after relation) refl

  of_kind : (table id : ℕ) (kind : Kind) → is_pending style objects change (record { kind = kind; id = id }) ≡ false
      → row style after table (record { kind = kind; id = id }) ≡ row style objects table (record { kind = kind; id = id })
  of_kind table id kinds.Node not = node-rows table id not
  of_kind table id kinds.Way not = way-rows table id not
  of_kind table id kinds.Relation not = relation-rows table id not

  rows-stay : (table : ℕ) (key : KeyOf) → is_pending style objects change key ≡ false
      → row style after table key ≡ row style objects table key
  rows-stay table key not = of_kind table key.id key.kind not

  -- so is what is not among the pending
  among_kind : (set : PendingOf) → IsPendingOf style objects change set → (id : ℕ) (kind : Kind)
      → is_among set (record { kind = kind; id = id }) ≡ is_pending style objects change (record { kind = kind; id = id })
  among_kind set is id kinds.Node = is.nodes id
  among_kind set is id kinds.Way = is.ways id
  among_kind set is id kinds.Relation = is.relations id

  pub leaves-rows : (set : PendingOf) → IsPendingOf style objects change set → LeavesRows style objects change set
  leaves-rows set is table key not = rows-stay table key (sym (among_kind set is key.id key.kind) ∙ not)
