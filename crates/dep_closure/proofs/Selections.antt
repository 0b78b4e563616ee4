-- What selects an object stays so where no relation of the change selects it, before or after.
use Rattle.std.proofs.Common.{◌≡◌, ℕ, suc, zero, Bool, true, false, ◌&&◌, ◌||◌, cond, List, [], ◌∷◌, Option, Some, None, ◌⊎◌, inl, inr}
use Rattle.std.proofs.Common.{refl, sym, ap, subst, ◌∙◌, nat_eq, arith}
use Rattle.std.proofs.lemmas.Bool.Decides.{nat_tests}
use mathlib.Core.Bool.{false≢true}
use Rattle.std.specs.Ordering.{eq_by_cmp, nat_cmp}
use Rattle.std.specs.List.{AllByRecursion, filter, filter_map, list_any}
use Rattle.std.specs.Option.{is_some}
use Rattle.std.specs.FinMap as finite
use Rattle.std.proofs.lemmas.List.Kept.{IsStrictlySortedBy-filter}
use Rattle.osm_base.specs.declared.values.key.Kind.{Kind}
use Rattle.osm_base.specs.declared.values.key.Kind.TheVariants as kinds
use Rattle.osm_base.specs.declared.values.object.Entry.{Entry}
use Rattle.osm_base.specs.declared.values.object.Member.{Member}
use Rattle.osm_base.specs.declared.values.object.Object.{Object}
use Rattle.osm_base.specs.declared.values.object.Object.TheVariants.{Node, Way, Relation}
use Rattle.osm_base.specs.map.Listers.{is_kind, lists, ids_of}
use Rattle.osm_base.specs.map.Objects.{ObjectSet, folded_all}
use Rattle.osm_base.specs.values.Ids.{IsRising, has}
use Rattle.osm_base.specs.values.Key.{KeyOf, relation_key}
use Rattle.osm_base.specs.values.KeyOrder.{key_cmp}
use Rattle.osm_base.specs.values.Tags.{TagMap}
use Rattle.style_read.specs.declared.style.Selection.{Selection}
use Rattle.style_read.specs.Style.{StyleOf}
use Rattle.object_fold.specs.Change.{IsChange}
use Rattle.object_fold.proofs.IndexOf.{ids_of-rise}
use Rattle.object_fold.proofs.Listers.{has-ids_of}
use Rattle.object_fold.proofs.SortedIds.{same_rising}
use Rattle.row_rules.specs.Condition.{meets, meets_number}
use Rattle.row_rules.specs.Material.{selecting_tags, selecting_among}
use Rattle.dep_closure.specs.PendingSet.{HasOldForms, is_named, is_reselected}
use Rattle.dep_closure.specs.Selecting.{HandsSame, hands, has_member, reselects, selects}
use Rattle.dep_closure.proofs.Anys.{filter_map-same, none_of, none_passes}
use Rattle.dep_closure.proofs.Forms.{forms-after}
use Rattle.dep_closure.proofs.Stays.{same_key, unnamed-stays}

-- lists that rise, and what is made of their items

and-true : (a b : Bool) → (a && b) ≡ true → (a ≡ true) × (b ≡ true)
and-true true b both = (refl, both)
and-true false b both = absurd (false≢true both)

same_id : (id own : ℕ) → nat_eq id own ≡ true → id ≡ own
same_id id own same = grind (arith, nat_tests)

has-filter : (test : ℕ → Bool) (ids : List ℕ) (id : ℕ) → has (filter test ids) id ≡ (test id && has ids id)
has-filter test [] id = elim (test id) as (λ b. false ≡ (b && false)) [ true ↦ refl | false ↦ refl ]
has-filter test (first ∷ ids) id =
    elim (test first) as (λ b. test first ≡ b
    → has (cond b (first ∷ filter test ids) (filter test ids)) id ≡ (test id && (nat_eq first id || has ids id))) [
      | true ↦ λ passes. ap (λ b. nat_eq first id || b) (has-filter test ids id) ∙ passing (nat_eq first id) passes refl
      | false ↦ λ fails. has-filter test ids id ∙ failing (nat_eq first id) fails refl
    ] refl
  where
    passing : (same : Bool) → test first ≡ true → nat_eq first id ≡ same
        → (same || (test id && has ids id)) ≡ (test id && (same || has ids id))
    passing true passes same = sym (ap (λ b. b && true) (ap test (sym (same_id first id same)) ∙ passes))
    passing false passes differs = refl

    failing : (same : Bool) → test first ≡ false → nat_eq first id ≡ same → (test id && has ids id) ≡ (test id && (same || has ids id))
    failing true fails same = ap (λ b. b && has ids id) (ap test (sym (same_id first id same)) ∙ fails)
        ∙ sym (ap (λ b. b && true) (ap test (sym (same_id first id same)) ∙ fails))
    failing false fails differs = refl

filter_map-kept : {A : Type 0} (of : ℕ → Option A) (ids : List ℕ) → filter_map of ids ≡ filter_map of (filter (λ id. is_some (of id)) ids)
filter_map-kept of [] = refl
filter_map-kept of (id ∷ ids) = elim (of id) as
    (λ found. of id ≡ found → filter_map of (id ∷ ids)
    ≡ filter_map of (cond (is_some found) (id ∷ filter (λ id. is_some (of id)) ids) (filter (λ id. is_some (of id)) ids))) [
      | None ↦ λ none. rw none (filter_map-kept of ids)
      | Some found ↦ λ some. rw some (ap (λ rest. found ∷ rest) (filter_map-kept of ids))
    ] refl

-- two lists that rise, and have the same ids of which something is made
filter_map-rising : {A : Type 0} (of : ℕ → Option A) (ids others : List ℕ) → IsRising ids → IsRising others
    → ((id : ℕ) → is_some (of id) ≡ true → has ids id ≡ has others id)
    → filter_map of ids ≡ filter_map of others
filter_map-rising of ids others rise rise_others same =
    filter_map-kept of ids
    ∙ ap (filter_map of) (same_rising (filter (λ id. is_some (of id)) ids) (filter (λ id. is_some (of id)) others)
    (IsStrictlySortedBy-filter nat_cmp (λ id. is_some (of id)) ids rise)
    (IsStrictlySortedBy-filter nat_cmp (λ id. is_some (of id)) others rise_others)
    (λ id. has-filter (λ id. is_some (of id)) ids id ∙ kept id (is_some (of id)) refl ∙ sym (has-filter (λ id. is_some (of id)) others id)))
    ∙ sym (filter_map-kept of others)
  where
    kept : (id : ℕ) (some : Bool) → is_some (of id) ≡ some → (some && has ids id) ≡ (some && has others id)
    kept id true is = same id is
    kept id false is = refl

-- the forms of one relation

lists-has_member : (kind : Kind) (id : ℕ) (members : List Member) (tags : TagMap)
    → lists kind id (Some (Relation members tags)) ≡ has_member kind id (Some (Relation members tags))
lists-has_member kinds.Node id members tags = refl
lists-has_member kinds.Way id members tags = refl
lists-has_member kinds.Relation id members tags = refl

meets_number-none : (selections : List Selection) (number : ℕ) (tags : TagMap)
    → list_any (λ selection. meets selection tags) selections ≡ false → meets_number selections number tags ≡ false
meets_number-none [] number tags none = refl
meets_number-none (selection ∷ selections) zero tags none =
    (none_of (meets selection tags) (list_any (λ selection. meets selection tags) selections) none).0
meets_number-none (selection ∷ selections) (suc number) tags none =
    meets_number-none selections number tags
    (none_of (meets selection tags) (list_any (λ selection. meets selection tags) selections) none).1

never : {A : Type 0} (b : Bool) → cond {A = Option A} b None None ≡ None
never true = refl
never false = refl

module _ (style : StyleOf) (kind : Kind) (id number : ℕ) where
  -- the tags that a form of a relation hands to a member
  abbrev handed : Option Object → Option TagMap
  handed form = hands style kind id number form

  handed-selects : (form : Option Object) → selects style form ≡ false → handed form ≡ None
  handed-selects None not = refl
  handed-selects (Some (Node place tags)) not = never (lists kind id (Some (Node place tags)))
  handed-selects (Some (Way nodes tags)) not = never (lists kind id (Some (Way nodes tags)))
  handed-selects (Some (Relation members tags)) not =
      ap (λ met. cond (lists kind id (Some (Relation members tags))) (cond met (Some tags) None) None)
      (meets_number-none style.selections number tags not)
      ∙ never (lists kind id (Some (Relation members tags)))

  handed-member : (form : Option Object) → has_member kind id form ≡ false → handed form ≡ None
  handed-member None not = refl
  handed-member (Some (Node place tags)) not = never (lists kind id (Some (Node place tags)))
  handed-member (Some (Way nodes tags)) not = never (lists kind id (Some (Way nodes tags)))
  handed-member (Some (Relation members tags)) not =
      ap (λ listed. cond listed (selecting_tags style.selections number (Some (Relation members tags))) None)
      (lists-has_member kind id members tags ∙ not)

  one_fails : (a b : Bool) → (a && b) ≡ false → (a ≡ false) ⊎ (b ≡ false)
  one_fails true b not = inr not
  one_fails false b not = inl refl

  handed-same : (before after : Option Object) → reselects style kind id before after ≡ false → handed after ≡ handed before
  handed-same before after not = elim (one_fails (selects style before || selects style after)
      (has_member kind id before || has_member kind id after) not) as (λ _. handed after ≡ handed before) [
        | inl none ↦ handed-selects after (none_of (selects style before) (selects style after) none).1
            ∙ sym (handed-selects before (none_of (selects style before) (selects style after) none).0)
        | inr none ↦ handed-member after (none_of (has_member kind id before) (has_member kind id after) none).1
            ∙ sym (handed-member before (none_of (has_member kind id before) (has_member kind id after) none).0)
      ]

  -- all relations of a map

  module _ (objects : ObjectSet) where
    abbrev form : ℕ → Option Object
    form relation = finite.get objects (relation_key relation)

    handed-there : (relation : ℕ) → has (ids_of kinds.Relation kind id objects) relation ≡ true
        → selecting_tags style.selections number (form relation) ≡ handed (form relation)
    handed-there relation there = sym (ap (λ listed. cond listed (selecting_tags style.selections number (form relation)) None)
        (sym (has-ids_of objects kinds.Relation kind id relation) ∙ there))

    among-handed : selecting_among style.selections (finite.get objects) (ids_of kinds.Relation kind id objects) number
        ≡ filter_map (λ relation. handed (form relation)) (ids_of kinds.Relation kind id objects)
    among-handed = filter_map-same (λ relation. selecting_tags style.selections number (form relation)) (λ relation. handed (form relation))
        (ids_of kinds.Relation kind id objects) handed-there

    handed-some : (relation : ℕ) → is_some (handed (form relation)) ≡ true → has (ids_of kinds.Relation kind id objects) relation ≡ true
    handed-some relation some = has-ids_of objects kinds.Relation kind id relation ∙ listed (lists kind id (form relation)) refl
      where
        listed : (is : Bool) → lists kind id (form relation) ≡ is → is ≡ true
        listed true is = refl
        listed false is = absurd (false≢true (sym
            (ap (λ b. is_some (cond b (selecting_tags style.selections number (form relation)) None)) is) ∙ some))

  -- what selects the object is the same where each relation hands it the same
  pub selecting-same : (one other : ObjectSet)
      → ((relation : ℕ) → handed (finite.get one (relation_key relation)) ≡ handed (finite.get other (relation_key relation)))
      → selecting_among style.selections (finite.get one) (ids_of kinds.Relation kind id one) number
      ≡ selecting_among style.selections (finite.get other) (ids_of kinds.Relation kind id other) number
  selecting-same one other same =
      among-handed one
      ∙ filter_map-same (λ relation. handed (finite.get one (relation_key relation)))
      (λ relation. handed (finite.get other (relation_key relation))) (ids_of kinds.Relation kind id one) (λ relation _. same relation)
      ∙ filter_map-rising (λ relation. handed (finite.get other (relation_key relation))) (ids_of kinds.Relation kind id one)
      (ids_of kinds.Relation kind id other) (ids_of-rise one kinds.Relation kind id) (ids_of-rise other kinds.Relation kind id)
      (λ relation some.
      handed-some one relation (ap is_some (same relation) ∙ some)
      ∙ sym (handed-some other relation some))
      ∙ sym (among-handed other)

  module _ (objects : ObjectSet) (change : List Entry) (not : is_reselected style objects change kind id ≡ false) where
    abbrev after : ObjectSet
    after = folded_all objects change

    abbrev again : Entry → Bool
    again entry = is_kind kinds.Relation entry.key.kind && reselects style kind id (finite.get objects entry.key)
        (finite.get after entry.key)

    -- an entry of a relation that the change names
    named : (relation : ℕ) (entries : List Entry) → is_named entries (relation_key relation) ≡ true
        → AllByRecursion (λ (entry : Entry). again entry ≡ false) entries
        → reselects style kind id (finite.get objects (relation_key relation)) (finite.get after (relation_key relation)) ≡ false
    named relation [] is none = absurd (false≢true is)
    named relation (entry ∷ entries) is none =
        elim (eq_by_cmp key_cmp (relation_key relation) entry.key) as
        (λ b. eq_by_cmp key_cmp (relation_key relation) entry.key ≡ b → (b || is_named entries (relation_key relation)) ≡ true
        → reselects style kind id (finite.get objects (relation_key relation)) (finite.get after (relation_key relation)) ≡ false) [
          | true ↦ λ same _.
              subst (λ (own : KeyOf). (is_kind kinds.Relation own.kind && reselects style kind id (finite.get objects own)
              (finite.get after own)) ≡ false) (sym (same_key (relation_key relation) entry.key same)) none.0
          | false ↦ λ differs is. named relation entries is none.1
        ] refl is

    handed-stays : (relation : ℕ) → handed (finite.get after (relation_key relation)) ≡ handed (finite.get objects (relation_key relation))
    handed-stays relation = elim (is_named change (relation_key relation)) as
        (λ b. is_named change (relation_key relation) ≡ b
        → handed (finite.get after (relation_key relation)) ≡ handed (finite.get objects (relation_key relation))) [
          | true ↦ λ is. handed-same (finite.get objects (relation_key relation)) (finite.get after (relation_key relation))
              (named relation change is (none_passes again change not))
          | false ↦ λ is. ap handed (unnamed-stays objects change (relation_key relation) is)
        ] refl

    pub selecting-stays : selecting_among style.selections (finite.get after) (ids_of kinds.Relation kind id after) number
        ≡ selecting_among style.selections (finite.get objects) (ids_of kinds.Relation kind id objects) number
    selecting-stays = selecting-same after objects handed-stays

  -- so where each relation of the change hands it the same, which the old forms tell
  module _ (old objects : ObjectSet) (change : List Entry) where
    abbrev new : ObjectSet
    new = folded_all objects change

    abbrev Alike : ℕ → Type 0
    Alike relation = handed (finite.get new (relation_key relation)) ≡ handed (finite.get objects (relation_key relation))

    alike-named : (relation : ℕ) (entries : List Entry) → is_named entries (relation_key relation) ≡ true → HasOldForms old objects entries
        → AllByRecursion (λ (entry : Entry). finite.get new entry.key ≡ entry.object) entries → HandsSame style old entries kind id
        → Alike relation
    alike-named relation [] is olds news same = absurd (false≢true is)
    alike-named relation (entry ∷ entries) is olds news same =
        elim (eq_by_cmp key_cmp (relation_key relation) entry.key) as
        (λ b. eq_by_cmp key_cmp (relation_key relation) entry.key ≡ b → (b || is_named entries (relation_key relation)) ≡ true
        → Alike relation) [
          | true ↦ λ tied _.
              let own : relation_key relation ≡ entry.key = same_key (relation_key relation) entry.key tied in
              let of_relation : is_kind kinds.Relation entry.key.kind ≡ true =
              ap (λ (key : KeyOf). is_kind kinds.Relation key.kind) (sym own) in
              ap (λ (key : KeyOf). handed (finite.get new key)) own
              ∙ ap handed news.0
              ∙ same.0 of_relation number
              ∙ ap handed (olds.0 of_relation)
              ∙ ap (λ (key : KeyOf). handed (finite.get objects key)) (sym own)
          | false ↦ λ _ later. alike-named relation entries later olds.1 news.1 same.1
        ] refl is

    alike : IsChange change → HasOldForms old objects change → HandsSame style old change kind id → (relation : ℕ) → Alike relation
    alike rise olds same relation = elim (is_named change (relation_key relation)) as
        (λ b. is_named change (relation_key relation) ≡ b → Alike relation) [
          | true ↦ λ is. alike-named relation change is olds (forms-after objects None change rise) same
          | false ↦ λ is. ap handed (unnamed-stays objects change (relation_key relation) is)
        ] refl

    pub selecting-alike : IsChange change → HasOldForms old objects change → HandsSame style old change kind id
        → selecting_among style.selections (finite.get new) (ids_of kinds.Relation kind id new) number
        ≡ selecting_among style.selections (finite.get objects) (ids_of kinds.Relation kind id objects) number
    selecting-alike rise olds same = selecting-same new objects (alike rise olds same)
