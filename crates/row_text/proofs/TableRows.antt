-- The rows of one table among those of all, and the order of their numbers.
use Rattle.std.proofs.Common.{◌≡◌, ℕ, ◌<◌, Bool, true, false, not, cond, ◌&&◌, ◌==◌, T, List, [], ◌∷◌, ◌++◌, map, refl, sym, ◌∙◌, ap, subst}
use Rattle.std.proofs.Common.{arith}
use Rattle.std.proofs.lemmas.Bool.Decides.{nat_tests}
use denote.Ref.{Bor}
use Rattle.std.proofs.lemmas.Cmp.{tied_itself}
use Rattle.std.specs.Prelude.{filter}
use Rattle.std.specs.Ordering.{int_cmp, is_lt, is_le, nat_cmp, ordering_then}
use Rattle.std.specs.declared.cmp.Ordering.TheVariants.{Less, Equal, Greater}
use Rattle.std.specs.declared.ops.Bound.{Bound}
use Rattle.std.specs.declared.ops.Bound.TheVariants.{Included, Excluded, Unbounded}
use Rattle.std.specs.BTreeMap.{BTreeMap, IsOrdered}
use Rattle.std.specs.BTreeMap.Range.{range_contains, is_from_start, is_past_end, entries_between}
use Rattle.std.specs.Cmp.{IsTotalOrder, nat_cmp_is, nat_cmp_total, int_cmp_total, on_total, then_total}
use Rattle.std.specs.FinMap as finite
use Rattle.std.specs.FinMap.{IsAntisymmetric, is_sorted}
use Rattle.std.specs.FinMap.Entries.{below_all}
use Rattle.std.specs.List.{AllByRecursion}
use Rattle.std.specs.List.Sorted.{IsStrictlySortedBy}
use Rattle.osm_base.specs.declared.values.row.Row.{Row}
use Rattle.osm_base.specs.map.Spots.{SpotOf, TableMap, spot_cmp}
use Rattle.osm_base.specs.map.SpotTree.{rows_in}
use Rattle.osm_base.specs.values.Key.{KeyOf}
use Rattle.osm_base.specs.values.KeyOrder.{key_cmp}
use Rattle.osm_base.proofs.KeyLaws.{both_equal, key_cmp_total, key_cmp-IsAntisymmetric}
use Rattle.osm_base.proofs.SpotOrder.{tree_cmp, tree_cmp-spot_cmp, spot_cmp_total, spot_cmp-IsAntisymmetric}
use Rattle.row_text.specs.Row.{signed_number}
use Rattle.row_text.specs.Numbered.{by_number, rows_among, rows_of, IsInFront, IsBehind}
use Rattle.row_text.proofs.Ordered.{both_left, both_right, less, entries-from_entries}

-- ---- the order of numbers

pub by_number_total : (of_areas : Bool) → IsTotalOrder (by_number of_areas)
by_number_total of_areas = then_total (on_total (signed_number of_areas) int_cmp_total) key_cmp_total

pub by_number-IsAntisymmetric : (of_areas : Bool) → IsAntisymmetric (by_number of_areas)
by_number-IsAntisymmetric of_areas key other e =
    key_cmp-IsAntisymmetric key other (both_equal (int_cmp (signed_number of_areas key) (signed_number of_areas other)) (key_cmp key other) e).1

-- ---- the rows of a table rise by their keys

same_number : (n other : ℕ) → (n == other) ≡ true → n ≡ other
same_number n other e = grind (arith, nat_tests)

pub other_number : (n other : ℕ) → (n ≡ other → ⊥) → (n == other) ≡ false
other_number n other apart = elim (n == other) as
    (λ b. (n == other) ≡ b → b ≡ false) [ true ↦ λ e. absurd (apart (same_number n other e)) | false ↦ λ e. refl ] refl

both : (a b : Bool) → a ≡ true → T b → T (a && b)
both a b e t = subst (λ a. T (a && b)) (sym e) t

key_below : (table own : ℕ) (key other : KeyOf) → own ≡ table → ordering_then (nat_cmp table own) (key_cmp key other) ≡ Less
    → key_cmp key other ≡ Less
key_below table own key other same e =
    let tied : nat_cmp table own ≡ Equal = ap (nat_cmp table) same ∙ tied_itself nat_cmp_total table in
    sym (ap (λ o. ordering_then o (key_cmp key other)) tied) ∙ e

below_among : (table : ℕ) (key : KeyOf) (entries : List (SpotOf × Row))
    → T (below_all spot_cmp (record { table = table; key = key }) entries)
    → T (below_all key_cmp key (rows_among table entries))
below_among table key [] h = tt
below_among table key (entry ∷ entries) h =
    let rest = below_among table key entries (both_right _ _ h) in
    elim (entry.0.table == table) as (λ b. (entry.0.table == table) ≡ b
    → T (below_all key_cmp key (map (λ own. (own.0.key, own.1))
    (cond b (entry ∷ filter (λ own. own.0.table == table) entries) (filter (λ own. own.0.table == table) entries))))) [
      | true ↦ λ e.
          let same : entry.0.table ≡ table = same_number entry.0.table table e in
          let below : key_cmp key entry.0.key ≡ Less = key_below table entry.0.table key entry.0.key same (less _ (both_left _ _ h)) in
          both (is_lt (key_cmp key entry.0.key)) _ (ap is_lt below) rest
      | false ↦ λ e. rest
    ] refl

pub rows_among-rising : (table : ℕ) (entries : List (SpotOf × Row)) → T (is_sorted spot_cmp entries)
    → T (is_sorted key_cmp (rows_among table entries))
rows_among-rising table [] h = tt
rows_among-rising table (entry ∷ entries) h =
    let rest = rows_among-rising table entries (both_right _ _ h) in
    elim (entry.0.table == table) as (λ b. (entry.0.table == table) ≡ b
    → T (is_sorted key_cmp (map (λ own. (own.0.key, own.1))
    (cond b (entry ∷ filter (λ own. own.0.table == table) entries) (filter (λ own. own.0.table == table) entries))))) [
      | true ↦ λ e.
          let same : entry.0.table ≡ table = same_number entry.0.table table e in
          let spot : entry.0 ≡ record { table = table; key = entry.0.key } = λ i. record { table = same i; key = entry.0.key } in
          let below = below_among table entry.0.key entries (subst (λ own. T (below_all spot_cmp own entries)) spot (both_left _ _ h)) in
          both_of (below_all key_cmp entry.0.key (rows_among table entries)) (is_sorted key_cmp (rows_among table entries)) below rest
      | false ↦ λ e. rest
    ] refl
  where
    both_of : (a b : Bool) → T a → T b → T (a && b)
    both_of true b s t = t
    both_of false b s t = absurd s

pub rows_of-rising : (tables : TableMap) (table : ℕ) → T (is_sorted key_cmp (rows_of tables table))
rows_of-rising tables table = rows_among-rising table (finite.entries tables) (finite.entries_sorted tables)

-- ---- they stand in a part of the tree

earlier : (table other : ℕ) → table < other → nat_cmp table other ≡ Less
earlier table other below = sym (nat_cmp_is table other Less below)

later : (table other : ℕ) → other < table → nat_cmp table other ≡ Greater
later table other above = sym (nat_cmp_is table other Greater above)

from_start : (table : ℕ) (bound : Bound SpotOf) (spot : SpotOf) → spot.table ≡ table → IsInFront table bound
    → is_from_start spot_cmp bound spot ≡ true
from_start table (Excluded front) spot same h =
    ap (λ o. is_lt (ordering_then o (key_cmp front.key spot.key))) (earlier front.table spot.table (omega (arith, same, h)))
from_start table (Included front) spot same h =
    ap (λ o. is_le (ordering_then o (key_cmp front.key spot.key))) (earlier front.table spot.table (omega (arith, same, h)))
from_start table Unbounded spot same h = refl

up_to_end : (table : ℕ) (bound : Bound SpotOf) (spot : SpotOf) → spot.table ≡ table → IsBehind table bound
    → is_past_end spot_cmp bound spot ≡ false
up_to_end table (Excluded back) spot same h =
    ap (λ o. is_le (ordering_then o (key_cmp back.key spot.key))) (later back.table spot.table (omega (arith, same, h)))
up_to_end table (Included back) spot same h =
    ap (λ o. is_lt (ordering_then o (key_cmp back.key spot.key))) (later back.table spot.table (omega (arith, same, h)))
up_to_end table Unbounded spot same h = refl

-- what passes one test passes a wider one before it
filter_wider : {A : Type 0} (narrow wide : A → Bool) → ((x : A) → narrow x ≡ true → wide x ≡ true) → (xs : List A)
    → filter narrow (filter wide xs) ≡ filter narrow xs
filter_wider narrow wide h [] = refl
filter_wider narrow wide h (x ∷ xs) =
    elim (narrow x) as (λ b. narrow x ≡ b → filter narrow (cond (wide x) (x ∷ filter wide xs) (filter wide xs))
    ≡ cond b (x ∷ filter narrow xs) (filter narrow xs)) [
      | true ↦ λ e.
          ap (λ w. filter narrow (cond w (x ∷ filter wide xs) (filter wide xs))) (h x e)
          ∙ ap (λ b. cond b (x ∷ filter narrow (filter wide xs)) (filter narrow (filter wide xs))) e
          ∙ ap (λ rest. x ∷ rest) (filter_wider narrow wide h xs)
      | false ↦ λ e. elim (wide x) as (λ w. filter narrow (cond w (x ∷ filter wide xs) (filter wide xs)) ≡ filter narrow xs) [
        | true ↦ ap (λ b. cond b (x ∷ filter narrow (filter wide xs)) (filter narrow (filter wide xs))) e ∙ filter_wider narrow wide h xs
        | false ↦ filter_wider narrow wide h xs
      ]
    ] refl

among_range : (table : ℕ) (front back : Bound SpotOf) → IsInFront table front → IsBehind table back → (entries : List (SpotOf × Row))
    → rows_among table (entries_between spot_cmp front back entries) ≡ rows_among table entries
among_range table front back in_front behind entries =
    ap (map (λ own. (own.0.key, own.1))) (filter_wider (λ own. own.0.table == table) (λ own. range_contains spot_cmp front back own.0)
    (λ own e.
    let same : own.0.table ≡ table = same_number own.0.table table e in
    ap (λ b. b && not (is_past_end spot_cmp back own.0)) (from_start table front own.0 same in_front)
    ∙ ap not (up_to_end table back own.0 same behind)) entries)

-- ---- a tree in order

keys_below : (spot : SpotOf) (entries : List (SpotOf × Row))
    → AllByRecursion (λ other. spot_cmp spot other ≡ Less) (map (λ entry. entry.0) entries) → T (below_all spot_cmp spot entries)
keys_below spot [] h = tt
keys_below spot (entry ∷ entries) h = both (is_lt (spot_cmp spot entry.0)) _ (ap is_lt h.0) (keys_below spot entries h.1)

keys_rise : (entries : List (SpotOf × Row)) → IsStrictlySortedBy spot_cmp (map (λ entry. entry.0) entries) → T (is_sorted spot_cmp entries)
unfolding IsStrictlySortedBy
keys_rise [] h = tt
keys_rise (entry ∷ entries) h = both_of (below_all spot_cmp entry.0 entries) (is_sorted spot_cmp entries) (keys_below entry.0 entries h.0)
    (keys_rise entries h.1)
  where
    both_of : (a b : Bool) → T a → T b → T (a && b)
    both_of true b s t = t
    both_of false b s t = absurd s

-- the rows of a table among those of its part of a tree
pub rows_in_range : (rows : BTreeMap SpotOf Row) (table : ℕ) (front back : Bound SpotOf) → IsOrdered tree_cmp rows → IsInFront table front
    → IsBehind table back
    → rows_among table (entries_between tree_cmp front back rows.entries) ≡ rows_of (rows_in rows) table
rows_in_range rows table front back ordered in_front behind =
    let rise : T (is_sorted spot_cmp rows.entries) = keys_rise rows.entries (subst (λ cmp. IsOrdered cmp rows) tree_cmp-spot_cmp ordered) in
    ap (λ cmp. rows_among table (entries_between cmp front back rows.entries)) tree_cmp-spot_cmp
    ∙ among_range table front back in_front behind rows.entries
    ∙ ap (rows_among table) (sym (entries-from_entries spot_cmp spot_cmp_total spot_cmp-IsAntisymmetric rows.entries rise))

-- a row that stands in another table
abbrev plain : Bor SpotOf × Bor Row → SpotOf × Row
plain own = (own.0.now, own.1.now)

abbrev keyed : SpotOf × Row → KeyOf × Row
keyed own = (own.0.key, own.1)

abbrev in_table : ℕ → SpotOf × Row → Bool
in_table table own = own.0.table == table

pub rows_among-other : (table : ℕ) (yielded : List (Bor SpotOf × Bor Row)) (spot : Bor SpotOf) (row : Bor Row)
    → (spot.now.table == table) ≡ false
    → rows_among table (map plain (yielded ++ (spot, row) ∷ [])) ≡ rows_among table (map plain yielded)
rows_among-other table [] spot row e = ap (λ b. map keyed (cond b (plain (spot, row) ∷ []) [])) e
rows_among-other table (own ∷ yielded) spot row e =
    let more : List (SpotOf × Row) = filter (in_table table) (map plain (yielded ++ (spot, row) ∷ [])) in
    let fewer : List (SpotOf × Row) = filter (in_table table) (map plain yielded) in
    let rest : map keyed more ≡ map keyed fewer = rows_among-other table yielded spot row e in
    elim (own.0.now.table == table) as (λ b. map keyed (cond b (plain own ∷ more) more) ≡ map keyed (cond b (plain own ∷ fewer) fewer)) [
      | true ↦ ap (λ rows. keyed (plain own) ∷ rows) rest
      | false ↦ rest
    ]
