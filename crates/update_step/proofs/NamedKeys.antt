-- The keys of the entries of a change, by kind: all of them, in their order.
use Rattle.std.proofs.Common.{◌≡◌, ◌<◌, ◌≤◌, ℕ, zero, suc, Bool, true, false, cond, List, [], ◌∷◌, ◌++◌, length, map, take, slice_index_or}
use Rattle.std.proofs.Common.{Option, Some, None, refl, sym, ap, subst, ◌∙◌, arith}
use Rattle.std.specs.declared.cmp.Ordering.{Ordering}
use Rattle.std.specs.declared.cmp.Ordering.TheVariants.{Less, Equal, Greater}
use Rattle.std.specs.List.{AllByRecursion, filter}
use Rattle.std.specs.List.Sorted.{IsStrictlySortedBy}
use Rattle.std.specs.Ordering.{eq_by_cmp, is_eq, is_lt, nat_cmp, ordering_reverse}
use Rattle.osm_base.specs.declared.values.key.Kind.{Kind}
use Rattle.osm_base.specs.declared.values.key.Kind.TheVariants.{Node, Way, Relation}
use Rattle.osm_base.specs.declared.values.object.Entry.{Entry}
use Rattle.osm_base.specs.declared.values.object.Object.{Object}
use Rattle.osm_base.specs.map.Listers.{is_kind}
use Rattle.osm_base.specs.values.Ids.{IsRising}
use Rattle.osm_base.specs.values.Key.{KeyOf, node_key, relation_key, way_key}
use Rattle.osm_base.specs.values.KeyOrder.{is_below, key_cmp, rank}
use Rattle.osm_base.proofs.KeyLaws.{key_cmp_total}
use Rattle.object_fold.specs.Change.{IsChange, RiseFrom}
use Rattle.object_fold.proofs.FoldLaws.{Untouched}
use Rattle.object_fold.proofs.Listers.{kind_same}
use Rattle.update_step.specs.Importing.{ids_named, keys_named}

abbrev key : Kind → ℕ → KeyOf
key kind id = record { kind = kind; id = id }

pub less_is : (order : Ordering) → is_lt order ≡ true → order ≡ Less
less_is Less e = refl
less_is Equal e = absurd (cc)
less_is Greater e = absurd (cc)

pub below_all : (first second third : KeyOf) → is_below first second ≡ true → is_below second third ≡ true → is_below first third ≡ true
below_all first second third one other =
    ap is_lt (key_cmp_total.trans first second third (less_is (key_cmp first second) one) (less_is (key_cmp second third) other))

-- The ids of one kind rise.

module _ (kind : Kind) where
  less_id : (own : Kind) (id other : ℕ) → is_below (key own id) (key own other) ≡ true → nat_cmp id other ≡ Less
  less_id Node id other below = less_is (nat_cmp id other) below
  less_id Way id other below = less_is (nat_cmp id other) below
  less_id Relation id other below = less_is (nat_cmp id other) below

  below_same : (id : ℕ) (other : KeyOf) → is_kind kind other.kind ≡ true → is_below (key kind id) other ≡ true → nat_cmp id other.id ≡ Less
  below_same id other same below = less_id kind id other.id
      (subst (λ own. is_below (key kind id) (key own other.id) ≡ true) (sym (kind_same kind other.kind same)) below)

  all_above : (id : ℕ) (last : KeyOf) (entries : List Entry)
      → ((other : KeyOf) → is_below last other ≡ true → is_below (key kind id) other ≡ true) → RiseFrom (Some last) entries
      → AllByRecursion (λ other. nat_cmp id other ≡ Less) (ids_named kind entries)
  all_above id last [] under rise = tt
  all_above id last (entry ∷ entries) under rise =
      let here : is_below (key kind id) entry.key ≡ true = under entry.key rise.1 in
      let later = all_above id entry.key entries (λ other below. below_all (key kind id) entry.key other here below) rise.2 in
      elim (is_kind kind entry.key.kind) as (λ b. is_kind kind entry.key.kind ≡ b → AllByRecursion (λ other. nat_cmp id other ≡ Less)
      (map (λ (own : Entry). own.key.id) (cond b (entry ∷ filter (λ (own : Entry). is_kind kind own.key.kind) entries)
      (filter (λ (own : Entry). is_kind kind own.key.kind) entries)))) [
        | true ↦ λ same. (below_same id entry.key same here, later)
        | false ↦ λ _. later
      ] refl

  pub ids-rise : (last : Option KeyOf) (entries : List Entry) → RiseFrom last entries → IsRising (ids_named kind entries)
  unfolding IsStrictlySortedBy
  ids-rise last [] rise = tt
  ids-rise last (entry ∷ entries) rise =
      let later = ids-rise (Some entry.key) entries rise.2 in
      elim (is_kind kind entry.key.kind) as (λ b. is_kind kind entry.key.kind ≡ b → IsRising
      (map (λ (own : Entry). own.key.id) (cond b (entry ∷ filter (λ (own : Entry). is_kind kind own.key.kind) entries)
      (filter (λ (own : Entry). is_kind kind own.key.kind) entries)))) [
        | true ↦ λ same. (
          all_above entry.key.id entry.key entries
              (λ other below. subst (λ own. is_below (key own entry.key.id) other ≡ true) (sym (kind_same kind entry.key.kind same)) below)
              rise.2,
          later,
        )
        | false ↦ λ _. later
      ] refl

-- No entry of a kind comes after one of a later kind.

rank_up : (kind own : Kind) (id other : ℕ) → is_below (key kind id) (key own other) ≡ true → rank kind ≤ rank own
rank_up Node own id other below = omega arith
rank_up Way Node id other below = absurd (cc)
rank_up Way Way id other below = omega arith
rank_up Way Relation id other below = omega arith
rank_up Relation Node id other below = absurd (cc)
rank_up Relation Way id other below = absurd (cc)
rank_up Relation Relation id other below = omega arith

kind_apart : (kind own : Kind) → rank kind < rank own → is_kind kind own ≡ false
kind_apart Node Node lt = absurd (omega (arith, lt))
kind_apart Node Way lt = refl
kind_apart Node Relation lt = refl
kind_apart Way Node lt = refl
kind_apart Way Way lt = absurd (omega (arith, lt))
kind_apart Way Relation lt = refl
kind_apart Relation Node lt = refl
kind_apart Relation Way lt = refl
kind_apart Relation Relation lt = absurd (omega (arith, lt))

none_later : (kind : Kind) (last : KeyOf) (entries : List Entry) → rank kind < rank last.kind → RiseFrom (Some last) entries
    → ids_named kind entries ≡ []
none_later kind last [] lt rise = refl
none_later kind last (entry ∷ entries) lt rise =
    let up = rank_up last.kind entry.key.kind last.id entry.key.id rise.1 in
    let above : rank kind < rank entry.key.kind = omega (arith, lt, up) in
    ap (λ b. map (λ (own : Entry). own.key.id)
    (cond b (entry ∷ filter (λ (own : Entry). is_kind kind own.key.kind) entries)
    (filter (λ (own : Entry). is_kind kind own.key.kind) entries))) (kind_apart kind entry.key.kind above)
    ∙ none_later kind entry.key entries above rise.2

-- the nodes, the ways and the relations
abbrev pub by_kind : List ℕ → List ℕ → List ℕ → List KeyOf
by_kind nodes ways relations = map node_key nodes ++ (map way_key ways ++ map relation_key relations)

abbrev all_of : List Entry → List KeyOf
all_of entries = by_kind (ids_named Node entries) (ids_named Way entries) (ids_named Relation entries)

one_more : (kind : Kind) (id : ℕ) (object : Option Object) (entries : List Entry) → RiseFrom (Some (key kind id)) entries
    → all_of entries ≡ keys_named entries
    → all_of (record { key = key kind id; object = object } ∷ entries) ≡ key kind id ∷ keys_named entries
one_more Node id object entries rise later = ap (λ keys. node_key id ∷ keys) later
one_more Way id object entries rise later =
    let no_nodes = none_later Node (way_key id) entries (omega arith) rise in
    let ways : List ℕ = ids_named Way entries in
    let relations : List ℕ = ids_named Relation entries in
    ap (λ nodes. by_kind nodes (id ∷ ways) relations) no_nodes
    ∙ ap (λ keys. way_key id ∷ keys) (sym (ap (λ nodes. by_kind nodes ways relations) no_nodes) ∙ later)
one_more Relation id object entries rise later =
    let no_nodes = none_later Node (relation_key id) entries (omega arith) rise in
    let no_ways = none_later Way (relation_key id) entries (omega arith) rise in
    let relations : List ℕ = ids_named Relation entries in
    let few : (list : List ℕ) → by_kind (ids_named Node entries) (ids_named Way entries) list ≡ map relation_key list =
    λ list i. by_kind (no_nodes i) (no_ways i) list in
    few (id ∷ relations) ∙ ap (λ keys. relation_key id ∷ keys) (sym (few relations) ∙ later)

pub keys-are : (last : Option KeyOf) (entries : List Entry) → RiseFrom last entries → all_of entries ≡ keys_named entries
keys-are last [] rise = refl
keys-are last (entry ∷ entries) rise = one_more entry.key.kind entry.key.id entry.object entries rise.2
    (keys-are (Some entry.key) entries rise.2)

-- The ids of one kind, one entry more.

module _ (kind : Kind) where
  abbrev ids_in : List Entry → List ℕ
  ids_in entries = map (λ (own : Entry). own.key.id) entries

  abbrev of_kind : List Entry → List Entry
  of_kind entries = filter (λ (own : Entry). is_kind kind own.key.kind) entries

  onto : (b : Bool) (first id : ℕ) (ids : List ℕ) → first ∷ cond b (ids ++ id ∷ []) ids ≡ cond b ((first ∷ ids) ++ id ∷ []) (first ∷ ids)
  onto true first id ids = refl
  onto false first id ids = refl

  pub ids-push : (entries : List Entry) (own : Entry)
      → ids_named kind (entries ++ own ∷ []) ≡ cond (is_kind kind own.key.kind) (ids_named kind entries ++ own.key.id ∷ [])
      (ids_named kind entries)
  ids-push [] own = elim (is_kind kind own.key.kind) as
      (λ b. ids_in (cond b (own ∷ []) []) ≡ cond b (own.key.id ∷ []) []) [ true ↦ refl | false ↦ refl ]
  ids-push (entry ∷ entries) own =
      let later = ids-push entries own in
      elim (is_kind kind entry.key.kind) as (λ b. ids_in (cond b (entry ∷ of_kind (entries ++ own ∷ [])) (of_kind (entries ++ own ∷ [])))
      ≡ cond (is_kind kind own.key.kind) (ids_in (cond b (entry ∷ of_kind entries) (of_kind entries)) ++ own.key.id ∷ [])
      (ids_in (cond b (entry ∷ of_kind entries) (of_kind entries)))) [
        | true ↦ ap (λ ids. entry.key.id ∷ ids) later ∙ onto (is_kind kind own.key.kind) entry.key.id own.key.id (ids_named kind entries)
        | false ↦ later
      ]

-- Keys of other entries.

pub above_apart : (own other : KeyOf) → is_below own other ≡ true → eq_by_cmp key_cmp other own ≡ false
above_apart own other below = ap is_eq (key_cmp_total.antisymm other own ∙ ap ordering_reverse (less_is (key_cmp own other) below))

pub at_above : (last : KeyOf) (entries : List Entry) (at : ℕ) (own : Entry) → RiseFrom (Some last) entries → at < length entries
    → is_below last (slice_index_or entries at own).key ≡ true
at_above last [] at own rise below = absurd (omega (arith, below))
at_above last (entry ∷ entries) zero own rise below = rise.1
at_above last (entry ∷ entries) (suc at) own rise below =
    below_all last entry.key (slice_index_or entries at own).key rise.1 (at_above entry.key entries at own rise.2 (omega (arith, below)))

untouched_at : (last : Option KeyOf) (entries : List Entry) (at : ℕ) (own : Entry) → RiseFrom last entries → at < length entries
    → Untouched (slice_index_or entries at own).key (take at entries)
untouched_at last [] at own rise below = absurd (omega (arith, below))
untouched_at last (entry ∷ entries) zero own rise below = tt
untouched_at last (entry ∷ entries) (suc at) own rise below =
    let lt : at < length entries = omega (arith, below) in (
      above_apart entry.key (slice_index_or entries at own).key (at_above entry.key entries at own rise.2 lt),
      untouched_at (Some entry.key) entries at own rise.2 lt,
    )

-- those before an entry have other keys
pub front-untouched : (entries : List Entry) (at : ℕ) (own : Entry) → IsChange entries → at < length entries
    → own ≡ slice_index_or entries at own → Untouched own.key (take at entries)
front-untouched entries at own rise below is =
    subst (λ (other : Entry). Untouched other.key (take at entries)) (sym is) (untouched_at None entries at own rise below)
