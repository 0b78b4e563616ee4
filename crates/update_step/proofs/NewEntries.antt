-- Entries whose keys rise, and the objects that they make of a map without any.
use Rattle.std.proofs.Common.{◌≡◌, ◌⊎◌, inl, inr, ◌<◌, ◌≤◌, ℕ, zero, suc, Bool, true, false, cond, List, [], ◌∷◌, length, slice_index_or}
use Rattle.std.proofs.Common.{Option, Some, None, refl, sym, ap, ◌∙◌, arith}
use mathlib.Core.Bool.{false≢true}
use Rattle.std.specs.declared.cmp.Ordering.{Ordering}
use Rattle.std.specs.declared.cmp.Ordering.TheVariants.{Less, Equal, Greater}
use Rattle.std.specs.Cmp.{Equal-is, eq_by_cmp_equiv}
use Rattle.std.specs.FinMap as finite
use Rattle.std.proofs.lemmas.List.{get_or_default}
use Rattle.std.specs.List.{fold}
use Rattle.std.specs.Option.{unwrap_or}
use Rattle.std.specs.Ordering.{eq_by_cmp, is_eq, is_lt, ordering_reverse}
use Rattle.osm_base.specs.declared.values.key.Kind.{Kind}
use Rattle.osm_base.specs.declared.values.key.Kind.TheVariants.{Relation}
use Rattle.osm_base.specs.declared.values.object.Entry.{Entry}
use Rattle.osm_base.specs.declared.values.object.Object.{Object}
use Rattle.osm_base.specs.map.Listers.{ids_of, is_kind, lists}
use Rattle.osm_base.specs.map.Objects.{ObjectSet, folded, folded_all}
use Rattle.osm_base.specs.values.Key.{KeyOf}
use Rattle.osm_base.specs.values.KeyOrder.{is_below, key_cmp}
use Rattle.osm_base.proofs.KeyLaws.{key_cmp_total, key_cmp-IsAntisymmetric}
use Rattle.object_fold.specs.Change.{IsChange, RiseFrom}
use Rattle.object_fold.proofs.FoldLaws.{Untouched, get-untouched, get-with_object}
use Rattle.object_fold.proofs.IndexOf.{ids_of-rise, listers-are}
use Rattle.object_fold.proofs.Listers.{has-ids_of, untied-kinds}
use Rattle.update_step.specs.Named.{key_in, key_named, named_in, no_entry}
use Rattle.update_step.specs.NewObjects.{relation_folded, relations_folded}
use Rattle.update_step.proofs.NamedKeys.{above_apart, at_above, below_all, less_is}

-- How keys compare.

below_apart : (own other : KeyOf) → is_below own other ≡ true → eq_by_cmp key_cmp own other ≡ false
below_apart own other below = ap is_eq (less_is (key_cmp own other) below)

same_key : (own other : KeyOf) → eq_by_cmp key_cmp own other ≡ true → own ≡ other
same_key own other same = key_cmp-IsAntisymmetric own other ((Equal-is (key_cmp own other)).0 same)

greater_of : (order : Ordering) → (is_lt order ≡ false) → is_eq (ordering_reverse order) ≡ false → is_lt (ordering_reverse order) ≡ true
greater_of Less not apart = absurd (cc)
greater_of Equal not apart = absurd (cc)
greater_of Greater not apart = refl

-- a key that is not below another, and is not it, is above it
pub is_above : (own other : KeyOf) → is_below own other ≡ false → eq_by_cmp key_cmp other own ≡ false → is_below other own ≡ true
is_above own other not apart =
    let turned = key_cmp_total.antisymm other own in
    ap is_lt turned ∙ greater_of (key_cmp own other) not (sym (ap is_eq turned) ∙ apart)

not_true : (b : Bool) → (b ≡ true → ⊥) → b ≡ false
not_true true not = absurd (not refl)
not_true false not = refl

-- Keys of entries rise.

rises_from : (last : Option KeyOf) (entries : List Entry) (i j : ℕ) → RiseFrom last entries → i < j → j < length entries
    → is_below (key_in entries i) (key_in entries j) ≡ true
rises_from last [] i j rise order inside = absurd (omega (arith, inside))
rises_from last (entry ∷ entries) i zero rise order inside = absurd (omega (arith, order))
rises_from last (entry ∷ entries) zero (suc j) rise order inside = at_above entry.key entries j no_entry rise.2 (omega (arith, inside))
rises_from last (entry ∷ entries) (suc i) (suc j) rise order inside =
    rises_from (Some entry.key) entries i j rise.2 (omega (arith, order)) (omega (arith, inside))

module _ (entries : List Entry) (rise : IsChange entries) (key : KeyOf) where
  -- what holds at a place holds before it, or behind it
  pub all_below : (middle k : ℕ) → middle < length entries → is_below (key_in entries middle) key ≡ true → k ≤ middle
      → is_below (key_in entries k) key ≡ true
  all_below middle k inside below within = elim (same_or_less k middle within) [
    | inl same ↦ ap (λ (n : ℕ). is_below (key_in entries n) key) same ∙ below
    | inr less ↦ below_all (key_in entries k) (key_in entries middle) key (rises_from None entries k middle rise less inside) below
  ]
    where
      same_or_less : (a b : ℕ) → a ≤ b → (a ≡ b) ⊎ (a < b)
      same_or_less a b order = grind arith

  pub none_below : (middle k : ℕ) → is_below (key_in entries middle) key ≡ false → middle ≤ k → k < length entries
      → is_below (key_in entries k) key ≡ false
  none_below middle k not within inside = elim (same_or_less middle k within) [
    | inl same ↦ ap (λ (n : ℕ). is_below (key_in entries n) key) (sym same) ∙ not
    | inr less ↦ not_true (is_below (key_in entries k) key) (λ below.
        false≢true (sym not ∙ below_all (key_in entries middle) (key_in entries k) key
        (rises_from None entries middle k rise less inside) below))
  ]
    where
      same_or_less : (a b : ℕ) → a ≤ b → (a ≡ b) ⊎ (a < b)
      same_or_less a b order = grind arith

  pub below_same : (middle k : ℕ) → middle < length entries → eq_by_cmp key_cmp key (key_in entries middle) ≡ true → k < middle
      → is_below (key_in entries k) key ≡ true
  below_same middle k inside same less =
      ap (is_below (key_in entries k)) (same_key key (key_in entries middle) same) ∙ rises_from None entries k middle rise less inside

  pub none_same : (middle k : ℕ) → middle < length entries → eq_by_cmp key_cmp key (key_in entries middle) ≡ true → middle ≤ k
      → k < length entries → is_below (key_in entries k) key ≡ false
  none_same middle k within same more inside =
      none_below middle k (ap (is_below (key_in entries middle)) (same_key key (key_in entries middle) same) ∙ never (key_in entries middle))
      more inside
    where
      never : (own : KeyOf) → is_below own own ≡ false
      never own = not_true (is_below own own) (λ below. false≢true (sym (below_apart own own below) ∙ (eq_by_cmp_equiv key_cmp_total).refl own))

  untouched_of : (own : List Entry) → ((k : ℕ) → k < length own → eq_by_cmp key_cmp key (key_in own k) ≡ false) → Untouched key own
  untouched_of [] each = tt
  untouched_of (entry ∷ own) each = (each 0 (omega arith), untouched_of own (λ k inside. each (suc k) (omega (arith, inside))))

  -- the first entries have lower keys, and the one behind them, if there is one, another
  pub untouched_apart : (place : ℕ) → ((k : ℕ) → k < place → is_below (key_in entries k) key ≡ true)
      → (place < length entries → is_below (key_in entries place) key ≡ false)
      → (place < length entries → eq_by_cmp key_cmp key (key_in entries place) ≡ false)
      → Untouched key entries
  untouched_apart place below from apart = untouched_of entries (λ k inside. elim (three k place) [
    | inl less ↦ above_apart (key_in entries k) key (below k less)
    | inr (inl same) ↦ ap (λ (n : ℕ). eq_by_cmp key_cmp key (key_in entries n)) same ∙ apart (omega (arith, same, inside))
    | inr (inr more) ↦
        let here : place < length entries = omega (arith, more, inside) in
        below_apart key (key_in entries k)
        (below_all key (key_in entries place) (key_in entries k) (is_above (key_in entries place) key (from here) (apart here))
        (rises_from None entries place k rise more inside))
  ])
    where
      three : (a b : ℕ) → (a < b) ⊎ ((a ≡ b) ⊎ (b < a))
      three a b = grind arith

-- the objects that are made

untouched_above : (key last : KeyOf) (entries : List Entry) → is_below key last ≡ true → RiseFrom (Some last) entries
    → Untouched key entries
untouched_above key last [] below rise = tt
untouched_above key last (entry ∷ entries) below rise =
    let above = below_all key last entry.key below rise.1 in
    (below_apart key entry.key above, untouched_above key entry.key entries above rise.2)

untouched_from : (key : KeyOf) (entries : List Entry) → RiseFrom (Some key) entries → Untouched key entries
untouched_from key [] rise = tt
untouched_from key (entry ∷ entries) rise = (below_apart key entry.key rise.1, untouched_above key entry.key entries rise.1 rise.2)

get_first : (objects : ObjectSet) (entry : Entry) (entries : List Entry) → RiseFrom (Some entry.key) entries
    → finite.get (folded_all (folded objects entry) entries) entry.key ≡ entry.object
get_first objects entry entries rise =
    get-untouched (folded objects entry) entries entry.key (untouched_from entry.key entries rise)
    ∙ get-with_object objects entry.key entry.object entry.key
    ∙ ap (λ (b : Bool). cond b entry.object (finite.get objects entry.key)) ((eq_by_cmp_equiv key_cmp_total).refl entry.key)

-- the object of a key is what they say of it, where they name it
get_named : (objects : ObjectSet) (last : Option KeyOf) (entries : List Entry) (key : KeyOf) → RiseFrom last entries
    → finite.get (folded_all objects entries) key ≡ unwrap_or (named_in entries key) (finite.get objects key)
get_named objects last [] key rise = refl
get_named objects last (entry ∷ entries) key rise =
    elim (eq_by_cmp key_cmp key entry.key) as (λ b. eq_by_cmp key_cmp key entry.key ≡ b
    → finite.get (folded_all (folded objects entry) entries) key
    ≡ unwrap_or (cond b (Some entry.object) (named_in entries key)) (finite.get objects key)) [
      | true ↦ λ same. ap (finite.get (folded_all (folded objects entry) entries)) (same_key key entry.key same)
          ∙ get_first objects entry entries rise.2
      | false ↦ λ apart. get_named (folded objects entry) (Some entry.key) entries key rise.2
          ∙ ap (unwrap_or (named_in entries key)) (get-with_object objects entry.key entry.object key
          ∙ ap (λ (b : Bool). cond b entry.object (finite.get objects key)) apart)
    ] refl

pub get_made : (entries : List Entry) (key : KeyOf) (found : Option (Option Object)) → IsChange entries → named_in entries key ≡ found
    → finite.get (folded_all finite.empty entries) key ≡ unwrap_or found None
get_made entries key found rise is =
    get_named finite.empty None entries key rise ∙ ap (unwrap_or (named_in entries key)) (finite.get-empty key_cmp key)
    ∙ ap (λ (own : Option (Option Object)). unwrap_or own None) is

-- What entries say of a key.

pub named_none : (entries : List Entry) (key : KeyOf) → Untouched key entries → named_in entries key ≡ None
named_none [] key untouched = refl
named_none (entry ∷ entries) key untouched =
    ap (λ (b : Bool). cond b (Some entry.object) (named_in entries key)) untouched.0 ∙ named_none entries key untouched.1

named_from : (last : Option KeyOf) (entries : List Entry) (at : ℕ) → RiseFrom last entries → at < length entries
    → named_in entries (key_in entries at) ≡ Some (slice_index_or entries at no_entry).object
named_from last [] at rise inside = absurd (omega (arith, inside))
named_from last (entry ∷ entries) zero rise inside =
    ap (λ (b : Bool). cond b (Some entry.object) (named_in entries entry.key)) ((eq_by_cmp_equiv key_cmp_total).refl entry.key)
named_from last (entry ∷ entries) (suc at) rise inside =
    let lt : at < length entries = omega (arith, inside) in
    ap (λ (b : Bool). cond b (Some entry.object) (named_in entries (key_in entries at)))
    (above_apart entry.key (key_in entries at) (at_above entry.key entries at no_entry rise.2 lt))
    ∙ named_from (Some entry.key) entries at rise.2 lt

-- the entry of the key says it
pub named_here : (entries : List Entry) (at : ℕ) (key : KeyOf) → IsChange entries → at < length entries
    → eq_by_cmp key_cmp key (key_in entries at) ≡ true
    → named_in entries key ≡ Some (slice_index_or entries at no_entry).object
named_here entries at key rise inside same =
    ap (named_in entries) (same_key key (key_in entries at) same) ∙ named_from None entries at rise inside

-- Relations by themselves.

get_relation : (one other : ObjectSet) (entries : List Entry) (id : ℕ)
    → finite.get one (key_named Relation id) ≡ finite.get other (key_named Relation id)
    → finite.get (fold relation_folded one entries) (key_named Relation id) ≡ finite.get (folded_all other entries) (key_named Relation id)
get_relation one other [] id same = same
get_relation one other (entry ∷ entries) id same =
    get_relation (relation_folded one entry) (folded other entry) entries id
    (elim (is_kind Relation entry.key.kind) as (λ b. is_kind Relation entry.key.kind ≡ b
    → finite.get (cond b (folded one entry) one) (key_named Relation id) ≡ finite.get (folded other entry) (key_named Relation id)) [
      | true ↦ λ is.
          get-with_object one entry.key entry.object (key_named Relation id)
          ∙ ap (λ o. cond (eq_by_cmp key_cmp (key_named Relation id) entry.key) entry.object o) same
          ∙ sym (get-with_object other entry.key entry.object (key_named Relation id))
      | false ↦ λ is.
          same ∙ sym (get-with_object other entry.key entry.object (key_named Relation id)
          ∙ ap (λ b. cond b entry.object (finite.get other (key_named Relation id)))
          (untied-kinds Relation entry.key.kind id entry.key.id is))
    ] refl)

-- the relations that list an object are those of all objects
pub relations-are : (entries : List Entry) (kind : Kind) (id : ℕ)
    → ids_of Relation kind id (relations_folded entries) ≡ ids_of Relation kind id (folded_all finite.empty entries)
relations-are entries kind id =
    listers-are (folded_all finite.empty entries) Relation kind id (ids_of Relation kind id (relations_folded entries))
    (ids_of-rise (relations_folded entries) Relation kind id)
    (λ own. has-ids_of (relations_folded entries) Relation kind id own
    ∙ ap (λ o. lists kind id o) (get_relation finite.empty finite.empty entries own refl))

-- the entry that was read at a place
pub entry_there : (entries : List Entry) (at : ℕ) (own : Entry) → at < length entries → own ≡ slice_index_or entries at own
    → slice_index_or entries at no_entry ≡ own
entry_there entries at own inside is = get_or_default entries at no_entry own inside ∙ sym is
