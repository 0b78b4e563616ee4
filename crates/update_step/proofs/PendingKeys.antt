-- The keys of a pending set, and what holds of each of them.
use Rattle.std.proofs.Common.{◌≡◌, ℕ, ◌+◌, Bool, true, false, ◌&&◌, ◌||◌, cond, if◌then◌else◌, List, [], ◌∷◌, ◌++◌, append_assoc, length}
use Rattle.std.proofs.Common.{map, fold, Option, refl, sym, ap, subst, ◌∙◌, nat_eq, arith}
use mathlib.Core.Bool.{false≢true, true≢false}
use Rattle.std.specs.Cmp.{Equal-is, unsigned_tied}
use Rattle.std.specs.declared.cmp.Ordering.TheVariants.{Less}
use Rattle.std.specs.FinMap as finite
use Rattle.std.specs.List.{AllByRecursion, list_any}
use Rattle.std.specs.List.Sorted.{IsStrictlySortedBy}
use Rattle.std.specs.Ordering.{eq_by_cmp, nat_cmp}
use Rattle.std.proofs.lemmas.Bool.Decides.{nat_tests}
use Rattle.std.proofs.lemmas.Cmp.{tied_itself}
use Rattle.std.proofs.lemmas.List.{length-append, length-map}
use Rattle.std.proofs.lemmas.List.Folds.{list_any-append}
use Rattle.osm_base.specs.declared.values.key.Kind.{Kind}
use Rattle.osm_base.specs.declared.values.key.Kind.TheVariants as kinds
use Rattle.osm_base.specs.declared.values.object.Entry.{Entry}
use Rattle.osm_base.specs.declared.values.object.Object.{Object}
use Rattle.osm_base.specs.map.Listers.{is_kind}
use Rattle.osm_base.specs.map.Objects.{ObjectSet, folded_all, with_object}
use Rattle.osm_base.specs.map.Pending.{PendingOf}
use Rattle.osm_base.specs.values.Ids.{AreRisingIds, IsRising, has}
use Rattle.osm_base.specs.values.Key.{KeyOf, node_key, relation_key, way_key}
use Rattle.osm_base.specs.values.KeyOrder.{key_cmp}
use Rattle.osm_base.proofs.KeyLaws.{key_cmp-IsAntisymmetric, key_cmp_total}
use Rattle.style_read.specs.Style.{StyleOf}
use Rattle.object_fold.proofs.FoldLaws.{get-with_object}
use Rattle.object_fold.proofs.SortedIds.{same_rising}
use Rattle.row_rules.specs.Condition.{reaches_nodes}
use Rattle.row_rules.specs.Rows.{rows_in, rows_known}
use Rattle.dep_closure.specs.PendingSet.{HasOldForms, IsPendingOf, LeavesRows, is_among, is_named, size}
use Rattle.geom_workers.specs.Keys.{keys_of}
use Rattle.store_maps.specs.Append.{MayKeep}
use Rattle.store_maps.specs.Maps.{Maps, way_or_relation_in}
use Rattle.store_maps.specs.Named.{known_on}
use Rattle.store_maps.specs.Stands.{StandsOn}
use Rattle.store_maps.specs.Step.{change_on}
use Rattle.store_maps.proofs.KeptRows.{may_keep}
use Rattle.store_maps.proofs.KnownMaps.{KnowsTags, named, reached}
use Rattle.store_maps.proofs.Standing.{rows_in-same}
use Rattle.update_step.specs.Gather.{AreAsked, Gathered, IsRight, all_needs, known_in, needs}
use Rattle.update_step.specs.Old.{with_old}
use Rattle.update_step.proofs.Asking.{asked-back, asked-front}
use Rattle.update_step.proofs.Building.{rows-same}

-- The keys rise.

abbrev key : Kind → ℕ → KeyOf
key kind id = record { kind = kind; id = id }

abbrev Below : KeyOf → List KeyOf → Type 0
Below own keys = AllByRecursion (λ later. key_cmp own later ≡ Less) keys

below-append : (own : KeyOf) (one other : List KeyOf) → Below own one → Below own other → Below own (one ++ other)
below-append own [] other first second = second
below-append own (next ∷ one) other first second = (first.0, below-append own one other first.1 second)

below-kind : (kind : Kind) (id : ℕ) (ids : List ℕ) → AllByRecursion (λ other. nat_cmp id other ≡ Less) ids
    → Below (key kind id) (map (key kind) ids)
below-kind kind id [] all = tt
below-kind kinds.Node id (other ∷ ids) all = (all.0, below-kind kinds.Node id ids all.1)
below-kind kinds.Way id (other ∷ ids) all = (all.0, below-kind kinds.Way id ids all.1)
below-kind kinds.Relation id (other ∷ ids) all = (all.0, below-kind kinds.Relation id ids all.1)

node-way : (id : ℕ) (ids : List ℕ) → Below (node_key id) (map way_key ids)
node-way id [] = tt
node-way id (other ∷ ids) = (refl, node-way id ids)

node-relation : (id : ℕ) (ids : List ℕ) → Below (node_key id) (map relation_key ids)
node-relation id [] = tt
node-relation id (other ∷ ids) = (refl, node-relation id ids)

way-relation : (id : ℕ) (ids : List ℕ) → Below (way_key id) (map relation_key ids)
way-relation id [] = tt
way-relation id (other ∷ ids) = (refl, way-relation id ids)

rise-then : (kind : Kind) (ids : List ℕ) (behind : List KeyOf) → IsRising ids → ((id : ℕ) → Below (key kind id) behind)
    → IsStrictlySortedBy key_cmp behind → IsStrictlySortedBy key_cmp (map (key kind) ids ++ behind)
unfolding IsStrictlySortedBy
rise-then kind [] behind rise above sorted = sorted
rise-then kind (id ∷ ids) behind rise above sorted = (
  below-append (key kind id) (map (key kind) ids) behind (below-kind kind id ids rise.0) (above id),
  rise-then kind ids behind rise.1 above sorted,
)

nothing-behind : IsStrictlySortedBy key_cmp []
unfolding IsStrictlySortedBy
nothing-behind = tt

append-none : (keys : List KeyOf) → keys ++ [] ≡ keys
append-none [] = refl
append-none (own ∷ keys) = ap (λ rest. own ∷ rest) (append-none keys)

pub keys-rise : (set : PendingOf) → AreRisingIds set.nodes × AreRisingIds set.ways × AreRisingIds set.relations
    → IsStrictlySortedBy key_cmp (keys_of set)
keys-rise set rising =
    let relations : IsStrictlySortedBy key_cmp (map relation_key set.relations) =
    subst (IsStrictlySortedBy key_cmp) (append-none (map relation_key set.relations))
    (rise-then kinds.Relation set.relations [] rising.2.0 (λ id. tt) nothing-behind) in
    let ways = rise-then kinds.Way set.ways (map relation_key set.relations) rising.1.0 (λ id. way-relation id set.relations) relations in
    rise-then kinds.Node set.nodes (map way_key set.ways ++ map relation_key set.relations) rising.0.0
    (λ id. below-append (node_key id) (map way_key set.ways) (map relation_key set.relations) (node-way id set.ways)
    (node-relation id set.relations)) ways

-- A key is among them where its id is among those of its kind.

turned : (id other : ℕ) → nat_eq id other ≡ nat_eq other id
turned id other = grind (arith, nat_tests)

any-kind : (kind : Kind) (id : ℕ) (ids : List ℕ) → list_any (eq_by_cmp key_cmp (key kind id)) (map (key kind) ids) ≡ has ids id
any-kind kind id [] = refl
any-kind kinds.Node id (other ∷ ids) = ap (λ b. b || list_any (eq_by_cmp key_cmp (key kinds.Node id)) (map (key kinds.Node) ids))
    (unsigned_tied id other ∙ turned id other) ∙ ap (λ b. nat_eq other id || b) (any-kind kinds.Node id ids)
any-kind kinds.Way id (other ∷ ids) = ap (λ b. b || list_any (eq_by_cmp key_cmp (key kinds.Way id)) (map (key kinds.Way) ids))
    (unsigned_tied id other ∙ turned id other) ∙ ap (λ b. nat_eq other id || b) (any-kind kinds.Way id ids)
any-kind kinds.Relation id (other ∷ ids) =
    ap (λ b. b || list_any (eq_by_cmp key_cmp (key kinds.Relation id)) (map (key kinds.Relation) ids))
    (unsigned_tied id other ∙ turned id other) ∙ ap (λ b. nat_eq other id || b) (any-kind kinds.Relation id ids)

neither : (a b c : Bool) → (a || (b || c)) ≡ false → (a ≡ false) × (b ≡ false) × (c ≡ false)
neither true b c e = absurd (true≢false e)
neither false true c e = absurd (true≢false e)
neither false false c e = (refl, refl, e)

pub outside-kind : (set : PendingOf) (kind : Kind) (id : ℕ) → list_any (eq_by_cmp key_cmp (key kind id)) (keys_of set) ≡ false
    → is_among set (key kind id) ≡ false
outside-kind set kind id not = by kind all
  where
    any : List KeyOf → Bool
    any keys = list_any (eq_by_cmp key_cmp (key kind id)) keys

    split : list_any (eq_by_cmp key_cmp (key kind id)) (keys_of set)
        ≡ (list_any (eq_by_cmp key_cmp (key kind id)) (map node_key set.nodes) ||
        (list_any (eq_by_cmp key_cmp (key kind id)) (map way_key set.ways) || list_any (eq_by_cmp key_cmp (key kind id))
        (map relation_key set.relations)))
    split = list_any-append (eq_by_cmp key_cmp (key kind id)) (map node_key set.nodes)
        (map way_key set.ways ++ map relation_key set.relations)
        ∙ ap (λ b. list_any (eq_by_cmp key_cmp (key kind id)) (map node_key set.nodes) || b)
        (list_any-append (eq_by_cmp key_cmp (key kind id)) (map way_key set.ways) (map relation_key set.relations))

    all : (list_any (eq_by_cmp key_cmp (key kind id)) (map node_key set.nodes) ≡ false)
        × (list_any (eq_by_cmp key_cmp (key kind id)) (map way_key set.ways) ≡ false)
        × (list_any (eq_by_cmp key_cmp (key kind id)) (map relation_key set.relations) ≡ false)
    all = neither (list_any (eq_by_cmp key_cmp (key kind id)) (map node_key set.nodes))
        (list_any (eq_by_cmp key_cmp (key kind id)) (map way_key set.ways))
        (list_any (eq_by_cmp key_cmp (key kind id)) (map relation_key set.relations)) (sym split ∙ not)

    by : (own : Kind) → (list_any (eq_by_cmp key_cmp (key own id)) (map node_key set.nodes) ≡ false)
        × (list_any (eq_by_cmp key_cmp (key own id)) (map way_key set.ways) ≡ false)
        × (list_any (eq_by_cmp key_cmp (key own id)) (map relation_key set.relations) ≡ false) → is_among set (key own id) ≡ false
    by kinds.Node none = sym (any-kind kinds.Node id set.nodes) ∙ none.0
    by kinds.Way none = sym (any-kind kinds.Way id set.ways) ∙ none.1
    by kinds.Relation none = sym (any-kind kinds.Relation id set.relations) ∙ none.2

pub outside-rows : (style : StyleOf) (objects : ObjectSet) (change : List Entry) (set : PendingOf) → LeavesRows style objects change set
    → (own : KeyOf) → list_any (eq_by_cmp key_cmp own) (keys_of set) ≡ false
    → rows_in style (folded_all objects change) own ≡ rows_in style objects own
outside-rows style objects change set leaves own not =
    rows_in-same style (folded_all objects change) objects own (λ table. leaves table own (outside-kind set own.kind own.id not))

-- The tags of each pending node are known.

module _ (style : StyleOf) (maps : Maps) (objects : ObjectSet) (change : List Entry)
    (stands : StandsOn (reaches_nodes style) (change_on maps change) (folded_all objects change)) where
  abbrev Knows : KeyOf → Type 0
  Knows own = own.kind ≡ kinds.Node → KnowsTags (finite.get (change_on maps change).nodes own.id)

  either : (a b c : Bool) → (a || (b && c)) ≡ true → a ≡ false → b ≡ true
  either true b c is not = absurd (true≢false not)
  either false true c is not = refl
  either false false c is not = absurd (false≢true is)

  node-known : (set : PendingOf) → IsPendingOf style objects change set → (id : ℕ) → has set.nodes id ≡ true
      → KnowsTags (finite.get (change_on maps change).nodes id)
  node-known set pending id among =
      elim (is_named change (node_key id)) as (λ b. is_named change (node_key id) ≡ b
      → KnowsTags (finite.get (change_on maps change).nodes id)) [
        | true ↦ λ is. named id change maps is
        | false ↦ λ not. reached (reaches_nodes style) (change_on maps change) (folded_all objects change) stands id
            (either (is_named change (node_key id)) (reaches_nodes style) _ (sym (pending.nodes id) ∙ among) not)
      ] refl

  all-nodes : (set : PendingOf) → IsPendingOf style objects change set → (ids : List ℕ)
      → ((id : ℕ) → has ids id ≡ true → has set.nodes id ≡ true) → AllByRecursion Knows (map node_key ids)
  all-nodes set pending [] each = tt
  all-nodes set pending (id ∷ ids) each = (
    (λ _. node-known set pending id (each id (ap (λ b. b || has ids id) (itself id)))),
    all-nodes set pending ids (λ other there. each other (ap (λ b. nat_eq id other || b) there ∙ or-true (nat_eq id other))),
  )
    where
      itself : (own : ℕ) → nat_eq own own ≡ true
      itself own = grind (arith, nat_tests)

      or-true : (b : Bool) → (b || true) ≡ true
      or-true true = refl
      or-true false = refl

  way-kind : kinds.Way ≡ kinds.Node → ⊥
  way-kind e = cc

  relation-kind : kinds.Relation ≡ kinds.Node → ⊥
  relation-kind e = cc

  all-ways : (ids : List ℕ) → AllByRecursion Knows (map way_key ids)
  all-ways [] = tt
  all-ways (id ∷ ids) = ((λ is. absurd (way-kind is)), all-ways ids)

  all-relations : (ids : List ℕ) → AllByRecursion Knows (map relation_key ids)
  all-relations [] = tt
  all-relations (id ∷ ids) = ((λ is. absurd (relation-kind is)), all-relations ids)

  all-both : (one other : List KeyOf) → AllByRecursion Knows one → AllByRecursion Knows other → AllByRecursion Knows (one ++ other)
  all-both [] other first second = second
  all-both (own ∷ one) other first second = (first.0, all-both one other first.1 second)

  pub all-known : (set : PendingOf) → IsPendingOf style objects change set → AllByRecursion Knows (keys_of set)
  all-known set pending =
      all-both (map node_key set.nodes) (map way_key set.ways ++ map relation_key set.relations)
      (all-nodes set pending set.nodes (λ id there. there))
      (all-both (map way_key set.ways) (map relation_key set.relations) (all-ways set.ways) (all-relations set.relations))

  rows-each : (g : Gathered) → IsRight g (known_on (change_on maps change)) → (keys : List KeyOf) → AllByRecursion Knows keys
      → AreAsked g (all_needs style (reaches_nodes style) (known_on (change_on maps change)) keys)
      → map (rows_known style (known_in g)) keys ≡ map (rows_in style (folded_all objects change)) keys
  rows-each g right [] knows asked = refl
  rows-each g right (own ∷ keys) knows asked =
      let to = known_on (change_on maps change) in
      let asks = needs style (reaches_nodes style) to own in
      let later = all_needs style (reaches_nodes style) to keys in
      ap (λ rows. rows ∷ map (rows_known style (known_in g)) keys)
      (rows-same style (change_on maps change) (folded_all objects change) stands g right own knows.0 (asked-front g asks later asked))
      ∙ ap (λ rest. rows_in style (folded_all objects change) own ∷ rest) (rows-each g right keys knows.1 (asked-back g asks later asked))

  -- the rows that are built of what was gathered
  pub pending-rows : (set : PendingOf) → IsPendingOf style objects change set → (g : Gathered)
      → IsRight g (known_on (change_on maps change))
      → AreAsked g (all_needs style (reaches_nodes style) (known_on (change_on maps change)) (keys_of set))
      → map (rows_known style (known_in g)) (keys_of set) ≡ map (rows_in style (folded_all objects change)) (keys_of set)
  pending-rows set pending g right asked = rows-each g right (keys_of set) (all-known set pending) asked

-- rows that are built may be kept
pub all-kept : (style : StyleOf) (g : Gathered) (keys : List KeyOf)
    → AllByRecursion (MayKeep style.tables) (map (rows_known style (known_in g)) keys)
all-kept style g [] = tt
all-kept style g (own ∷ keys) = (may_keep style (known_in g) own, all-kept style g keys)

-- no set of the pending is larger than another one
pub same-size : (style : StyleOf) (objects : ObjectSet) (change : List Entry) (one other : PendingOf) → IsPendingOf style objects change one
    → IsPendingOf style objects change other → size one ≡ size other
same-size style objects change one other is also = λ i. length (nodes i) + length (ways i) + length (relations i)
  where
    nodes : one.nodes ≡ other.nodes
    nodes = same_rising one.nodes other.nodes is.rising.0.0 also.rising.0.0 (λ id. is.nodes id ∙ sym (also.nodes id))

    ways : one.ways ≡ other.ways
    ways = same_rising one.ways other.ways is.rising.1.0 also.rising.1.0 (λ id. is.ways id ∙ sym (also.ways id))

    relations : one.relations ≡ other.relations
    relations = same_rising one.relations other.relations is.rising.2.0 also.rising.2.0 (λ id. is.relations id ∙ sym (also.relations id))

-- The relations that a change replaces are as they were.

module _ (maps : Maps) where
  no_other : (own other : KeyOf) → is_kind kinds.Relation own.kind ≡ true → is_kind kinds.Relation other.kind ≡ false
      → eq_by_cmp key_cmp own other ≡ false
  no_other own other is not = elim (eq_by_cmp key_cmp own other) as (λ b. eq_by_cmp key_cmp own other ≡ b → b ≡ false) [
    | true ↦ λ same. absurd (true≢false (sym is
        ∙ ap (λ (own : KeyOf). is_kind kinds.Relation own.kind) (key_cmp-IsAntisymmetric own other ((Equal-is (key_cmp own other)).0 same))
        ∙ not))
    | false ↦ λ _. refl
  ] refl

  in_turn : {X : Type 0} (first later : Bool) (x y : X) → cond later x (cond first x y) ≡ cond (first || later) x y
  in_turn true true x y = refl
  in_turn true false x y = refl
  in_turn false true x y = refl
  in_turn false false x y = refl

  abbrev form : KeyOf → Option Object
  form own = way_or_relation_in maps own.kind own.id

  got-one : (objects : ObjectSet) (entry : Entry) (own : KeyOf) → is_kind kinds.Relation own.kind ≡ true
      → finite.get (with_old maps objects entry) own ≡ cond (eq_by_cmp key_cmp own entry.key) (form own) (finite.get objects own)
  got-one objects entry own is =
      elim (is_kind kinds.Relation entry.key.kind) as
      (λ b. is_kind kinds.Relation entry.key.kind ≡ b
      → finite.get (if b then with_object objects entry.key (form entry.key) else objects) own
      ≡ cond (eq_by_cmp key_cmp own entry.key) (form own) (finite.get objects own)) [
        | true ↦ λ _. get-with_object objects entry.key (form entry.key) own
            ∙ elim (eq_by_cmp key_cmp own entry.key) as
            (λ b. eq_by_cmp key_cmp own entry.key ≡ b
            → cond b (form entry.key) (finite.get objects own) ≡ cond b (form own) (finite.get objects own)) [
              | true ↦ λ same. ap form (sym (key_cmp-IsAntisymmetric own entry.key ((Equal-is (key_cmp own entry.key)).0 same)))
              | false ↦ λ _. refl
            ] refl
        | false ↦ λ not. sym (ap (λ b. cond b (form own) (finite.get objects own)) (no_other own entry.key is not))
      ] refl

  got-old : (entries : List Entry) (objects : ObjectSet) (own : KeyOf) → is_kind kinds.Relation own.kind ≡ true
      → finite.get (fold (with_old maps) objects entries) own
      ≡ cond (list_any (λ (entry : Entry). eq_by_cmp key_cmp own entry.key) entries) (form own) (finite.get objects own)
  got-old [] objects own is = refl
  got-old (entry ∷ entries) objects own is =
      let later = list_any (λ (other : Entry). eq_by_cmp key_cmp own other.key) entries in
      got-old entries (with_old maps objects entry) own is ∙ ap (cond later (form own)) (got-one objects entry own is)
      ∙ in_turn (eq_by_cmp key_cmp own entry.key) later (form own) (finite.get objects own)

  or-true : (b : Bool) → (b || true) ≡ true
  or-true true = refl
  or-true false = refl

  pub each-among : (front back : List Entry)
      → AllByRecursion (λ (entry : Entry). list_any (λ (other : Entry). eq_by_cmp key_cmp entry.key other.key) (front ++ back) ≡ true) back
  each-among front [] = tt
  each-among front (entry ∷ back) = (
    (list_any-append (λ (other : Entry). eq_by_cmp key_cmp entry.key other.key) front (entry ∷ back)
        ∙ ap (λ b. list_any (λ (other : Entry). eq_by_cmp key_cmp entry.key other.key) front ||
        (b || list_any (λ (other : Entry). eq_by_cmp key_cmp entry.key other.key) back))
        ((Equal-is (key_cmp entry.key entry.key)).1 (tied_itself key_cmp_total entry.key))
        ∙ or-true (list_any (λ (other : Entry). eq_by_cmp key_cmp entry.key other.key) front)),
    subst (λ (all : List Entry). AllByRecursion
        (λ (own : Entry). list_any (λ (other : Entry). eq_by_cmp key_cmp own.key other.key) all ≡ true) back)
        (append_assoc front (entry ∷ []) back) (each-among (front ++ entry ∷ []) back),
  )

  relation-form : (objects : ObjectSet) (reaches : Bool) → StandsOn reaches maps objects → (own : KeyOf)
      → is_kind kinds.Relation own.kind ≡ true → form own ≡ finite.get objects own
  relation-form objects reaches stands own is = by own.kind own.id is
    where
      by : (kind : Kind) (id : ℕ) → is_kind kinds.Relation kind ≡ true
          → way_or_relation_in maps kind id ≡ finite.get objects (record { kind = kind; id = id })
      by kinds.Node id same = absurd (false≢true same)
      by kinds.Way id same = absurd (false≢true same)
      by kinds.Relation id same = stands.objects.relations id

  forms-each : (objects : ObjectSet) (reaches : Bool) → StandsOn reaches maps objects → (change entries : List Entry)
      → AllByRecursion (λ (entry : Entry). list_any (λ (other : Entry). eq_by_cmp key_cmp entry.key other.key) change ≡ true) entries
      → HasOldForms (fold (with_old maps) finite.empty change) objects entries
  forms-each objects reaches stands change [] all = tt
  forms-each objects reaches stands change (entry ∷ entries) all = (
    (λ is. got-old change finite.empty entry.key is
        ∙ ap (λ b. cond b (form entry.key) (finite.get {R = key_cmp} finite.empty entry.key)) all.0
        ∙ relation-form objects reaches stands entry.key is),
    forms-each objects reaches stands change entries all.1,
  )

  pub old-forms : (objects : ObjectSet) (reaches : Bool) (change : List Entry) → StandsOn reaches maps objects
      → HasOldForms (fold (with_old maps) finite.empty change) objects change
  old-forms objects reaches change stands = forms-each objects reaches stands change change (each-among [] change)

-- as many keys as ids
pub keys-size : (set : PendingOf) → length (keys_of set) ≡ size set
keys-size set =
    length-append (map node_key set.nodes) (map way_key set.ways ++ map relation_key set.relations)
    ∙ ap (λ n. n + length (map way_key set.ways ++ map relation_key set.relations)) (length-map set.nodes node_key)
    ∙ ap (λ n. length set.nodes + n) (length-append (map way_key set.ways) (map relation_key set.relations)
    ∙ ap (λ n. n + length (map relation_key set.relations)) (length-map set.ways way_key)
    ∙ ap (λ n. length set.ways + n) (length-map set.relations relation_key))
    ∙ (let sum : length set.nodes + (length set.ways + length set.relations) ≡ size set = omega arith in sum)
