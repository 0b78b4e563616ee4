-- The ids in the definition of the index rise.
use Rattle.std.proofs.Common.{◌≡◌, ℕ, Bool, true, false, ◌&&◌, ◌||◌, cond, T, List, [], ◌∷◌, map, Option, Some, None, refl, sym, ap, subst}
use Rattle.std.proofs.Common.{◌∙◌, nat_eq, arith}
use mathlib.Core.Bool.{false≢true}
use Rattle.std.proofs.lemmas.Bool.Decides.{nat_tests}
use Rattle.std.specs.declared.cmp.Ordering.{Ordering}
use Rattle.std.specs.declared.cmp.Ordering.TheVariants.{Less, Equal, Greater}
use Rattle.std.specs.Option.{IsSome}
use Rattle.std.specs.Ordering.{nat_cmp, is_lt}
use Rattle.std.specs.List.{filter, AllByRecursion}
use Rattle.std.specs.List.Sorted.{IsStrictlySortedBy}
use Rattle.std.specs.FinMap as finite
use Rattle.std.specs.FinMap.{is_sorted}
use Rattle.osm_base.specs.declared.values.key.Kind.{Kind}
use Rattle.osm_base.specs.declared.values.key.Kind.TheVariants.{Node, Way, Relation}
use Rattle.osm_base.specs.declared.values.object.Object.{Object}
use Rattle.osm_base.specs.values.Ids.{AreRisingIds}
use Rattle.osm_base.specs.values.Key.{KeyOf, IsId}
use Rattle.osm_base.specs.values.KeyOrder.{key_cmp}
use Rattle.osm_base.specs.map.Objects.{ObjectSet}
use Rattle.osm_base.specs.map.Listers.{is_kind, lists, ids_of}
use Rattle.object_fold.proofs.Listers.{key, kind_same, passing, test, has-ids_of}
use Rattle.osm_base.specs.values.Ids.{IsRising, has}
use Rattle.object_fold.specs.Listings.{told_of}
use Rattle.object_fold.proofs.SortedIds.{same_rising}

or-true : (b : Bool) → (b || true) ≡ true
or-true true = refl
or-true false = refl

tied_self : (id : ℕ) → nat_eq id id ≡ true
tied_self id = grind (arith, nat_tests)

is_less : (order : Ordering) → T (is_lt order) → order ≡ Less
is_less Less p = refl
is_less Equal p = absurd p
is_less Greater p = absurd p

same_kind_order : (kind : Kind) (id own : ℕ) → key_cmp (key kind id) (key kind own) ≡ nat_cmp id own
same_kind_order Node id own = refl
same_kind_order Way id own = refl
same_kind_order Relation id own = refl

module _ (objects : ObjectSet) (by kind : Kind) (id : ℕ) where
  abbrev passes : KeyOf → Bool
  passes = test objects by kind id

  -- the keys rise, and so do the ids of one kind
  second_true : (a b : Bool) → T (a && b) → T b
  second_true true b both = both
  second_true false b both = absurd both

  first_true : (a b : Bool) → T (a && b) → T a
  first_true true b both = tt
  first_true false b both = absurd both

  less_ids : (own other : KeyOf) → is_kind by own.kind ≡ true → is_kind by other.kind ≡ true → T (is_lt (key_cmp own other))
      → nat_cmp own.id other.id ≡ Less
  less_ids own other kinds other_kinds lt =
      is_less _ (subst (λ order. T (is_lt order)) (same_kind_order by own.id other.id)
      (subst (λ kind. T (is_lt (key_cmp (key by own.id) (key kind other.id)))) (sym (kind_same by other.kind other_kinds))
      (subst (λ kind. T (is_lt (key_cmp (key kind own.id) other))) (sym (kind_same by own.kind kinds)) lt)))

  abbrev first_keys : List (KeyOf × Object) → List KeyOf
  first_keys entries = map (λ entry. entry.0) entries

  below_ids : (first : KeyOf) (entries : List (KeyOf × Object)) → T (finite.Entries.below_all key_cmp first entries)
      → is_kind by first.kind ≡ true
      → AllByRecursion (λ own. nat_cmp first.id own ≡ Less) (passing passes (first_keys entries))
  below_ids first [] below kinds = tt
  below_ids first (entry ∷ entries) below kinds =
      let rest = below_ids first entries (second_true _ _ below) kinds in
      elim (is_kind by entry.0.kind) as (λ b. is_kind by entry.0.kind ≡ b
      → AllByRecursion (λ own. nat_cmp first.id own ≡ Less)
      (map (λ own. own.id) (cond (b && lists kind id (finite.get objects entry.0)) (entry.0 ∷ filter passes (first_keys entries))
      (filter passes (first_keys entries))))) [
        | true ↦ λ same. elim (lists kind id (finite.get objects entry.0)) as
            (λ b. AllByRecursion (λ own. nat_cmp first.id own ≡ Less)
            (map (λ own. own.id) (cond b (entry.0 ∷ filter passes (first_keys entries)) (filter passes (first_keys entries))))) [
              | true ↦ (less_ids first entry.0 kinds same (first_true _ _ below), rest)
              | false ↦ rest
            ]
        | false ↦ λ differs. rest
      ] refl

  rise-passing : (entries : List (KeyOf × Object)) → T (is_sorted key_cmp entries) → IsRising (passing passes (first_keys entries))
  unfolding IsStrictlySortedBy
  rise-passing [] sorted = tt
  rise-passing (entry ∷ entries) sorted =
      let rest = rise-passing entries (second_true _ _ sorted) in
      elim (is_kind by entry.0.kind) as (λ b. is_kind by entry.0.kind ≡ b
      → IsRising (map (λ own. own.id) (cond (b && lists kind id (finite.get objects entry.0)) (entry.0 ∷ filter passes (first_keys entries))
      (filter passes (first_keys entries))))) [
        | true ↦ λ same. elim (lists kind id (finite.get objects entry.0)) as
            (λ b. IsRising (map (λ own. own.id) (cond b (entry.0 ∷ filter passes (first_keys entries))
            (filter passes (first_keys entries))))) [
              | true ↦ (below_ids entry.0 entries (first_true _ _ sorted) same, rest)
              | false ↦ rest
            ]
        | false ↦ λ differs. rest
      ] refl

  pub ids_of-rise : IsRising (ids_of by kind id objects)
  ids_of-rise = rise-passing (finite.entries objects) (finite.entries_sorted objects)

  -- rising ids that are told are those of the definition
  pub listers-are : (ids : List ℕ) → IsRising ids → ((own : ℕ) → has ids own ≡ told_of objects (key by own) kind id)
      → ids ≡ ids_of by kind id objects
  listers-are ids rise same = same_rising ids (ids_of by kind id objects) rise ids_of-rise
      (λ own. same own ∙ sym (has-ids_of objects by kind id own))

all_ids : (ids : List ℕ) → ((own : ℕ) → has ids own ≡ true → IsId own) → AllByRecursion IsId ids
all_ids [] each = tt
all_ids (first ∷ ids) each = (
  each first (ap (λ b. b || has ids first) (tied_self first)),
  all_ids ids (λ own there. each own (ap (λ b. nat_eq first own || b) there ∙ or-true (nat_eq first own))),
)

there_listed : (kind : Kind) (id : ℕ) (object : Option Object) → lists kind id object ≡ true → IsSome object
there_listed kind id None lists = absurd (false≢true lists)
there_listed kind id (Some object) lists = refl

module _ (objects : ObjectSet) (ids : (own : KeyOf) → IsSome (finite.get objects own) → IsId own.id) (by kind : Kind) (id : ℕ) where
  pub ids_of-ids : AreRisingIds (ids_of by kind id objects)
  ids_of-ids = (
    ids_of-rise objects by kind id,
    all_ids (ids_of by kind id objects) (λ own there.
        ids (key by own) (there_listed kind id (finite.get objects (key by own)) (sym (has-ids_of objects by kind id own) ∙ there))),
  )
