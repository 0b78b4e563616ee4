-- Rows in the order of their spots, and rows gathered in another order.
use denote.Ref.{Bor}
use denote.Param.Members.{Mut}
use Rattle.std.proofs.Common.{◌≡◌, ℕ, Bool, true, false, T, List, [], ◌∷◌, ◌++◌, ◌&&◌, cond, Option, Some, None, refl, sym, ap, subst, ◌∙◌}
use Rattle.std.specs.Prelude.{map, reverse, not}
use mathlib.Core.List.{reverse-cons}
use Rattle.std.proofs.lemmas.List.Elements.{filter-append}
use Rattle.std.proofs.lemmas.List.{append-nil}
use Rattle.std.proofs.lemmas.Cmp.{tied_itself}
use Rattle.std.proofs.lemmas.Fn.{always_returns_same}
use Rattle.std.specs.Fn.{Called}
use Rattle.std.specs.Cmp.{nat_cmp_total}
use Rattle.std.specs.BTreeMap.{BTreeMap, IsOrdered}
use Rattle.std.specs.declared.cmp.Ordering.{Ordering}
use Rattle.std.specs.declared.cmp.Ordering.TheVariants.{Less}
use Rattle.std.specs.FinMap as finite
use Rattle.std.specs.FinMap.{find, is_sorted}
use Rattle.std.specs.FinMap.Entries.{below_all, find-append, find-where_key}
use Rattle.std.specs.List.{AllByRecursion, filter}
use Rattle.std.specs.List.Sorted.{IsStrictlySortedBy, IsStableByKey, IsStableByKeyClosure}
use Rattle.std.specs.Ordering.{eq_by_cmp, is_eq, is_lt, nat_cmp}
use Rattle.osm_base.specs.declared.values.row.Row.{Row}
use Rattle.osm_base.specs.map.Spots.{SpotOf, spot_cmp}
use Rattle.osm_base.proofs.SpotOrder.{spot_cmp_total, spot_cmp-IsAntisymmetric, tree_cmp, tree_cmp-spot_cmp}

abbrev pub SpotRows : Type 0
SpotRows = List (SpotOf × Row)

both : (a b : Bool) → T a → T b → T (a && b)
both true b s t = t
both false b s t = absurd s

first : (a b : Bool) → T (a && b) → T a
first true b t = tt
first false b t = absurd t

second : (a b : Bool) → T (a && b) → T b
second true b t = t
second false b t = absurd t

below_lt : (o : Ordering) → o ≡ Less → T (is_lt o)
below_lt o is = subst (λ own. T (is_lt own)) (sym is) tt

less_of : (o : Ordering) → T (is_lt o) → o ≡ Less
less_of Less t = refl
less_of _ t = absurd t

-- ---- a tree

keys_below : (spot : SpotOf) (entries : SpotRows)
    → AllByRecursion (λ other. spot_cmp spot other ≡ Less) (map (λ entry. entry.0) entries) → T (below_all spot_cmp spot entries)
keys_below spot [] h = tt
keys_below spot (entry ∷ entries) h =
    both (is_lt (spot_cmp spot entry.0)) (below_all spot_cmp spot entries) (below_lt (spot_cmp spot entry.0) h.0) (keys_below spot entries h.1)

keys_rise : (entries : SpotRows) → IsStrictlySortedBy spot_cmp (map (λ entry. entry.0) entries) → T (is_sorted spot_cmp entries)
unfolding IsStrictlySortedBy
keys_rise [] h = tt
keys_rise (entry ∷ entries) h = both (below_all spot_cmp entry.0 entries) (is_sorted spot_cmp entries) (keys_below entry.0 entries h.0)
    (keys_rise entries h.1)

pub tree_rises : (tree : BTreeMap SpotOf Row) → IsOrdered tree_cmp tree → T (is_sorted spot_cmp tree.entries)
tree_rises tree ordered = keys_rise tree.entries (subst (λ cmp. IsOrdered cmp tree) tree_cmp-spot_cmp ordered)

-- ---- rows in order

-- they are the map of them
pub rising_is : (rows : SpotRows) → T (is_sorted spot_cmp rows) → finite.from_sorted {R = spot_cmp} rows ≡ finite.from_entries rows
rising_is rows sorted = finite.same_map spot_cmp_total spot_cmp-IsAntisymmetric (finite.from_sorted rows) (finite.from_entries rows)
    (λ spot. finite.get-from_sorted spot_cmp rows spot sorted ∙ sym (finite.get-from_entries spot_cmp_total rows spot))

none_below : (spot : SpotOf) (rows : SpotRows) → T (below_all spot_cmp spot rows) → find spot_cmp spot rows ≡ None
none_below spot [] below = refl
none_below spot (row ∷ rows) below =
    let less = first (is_lt (spot_cmp spot row.0)) (below_all spot_cmp spot rows) below in
    ap (λ (b : Bool). cond b (Some row.1) (find spot_cmp spot rows)) (apart (spot_cmp spot row.0) less)
    ∙ none_below spot rows (second (is_lt (spot_cmp spot row.0)) (below_all spot_cmp spot rows) below)
  where
    apart : (o : Ordering) → T (is_lt o) → is_eq o ≡ false
    apart Less t = refl
    apart _ t = absurd t

-- and are found from either end
found_turned : (rows : SpotRows) → T (is_sorted spot_cmp rows) → (spot : SpotOf)
    → find spot_cmp spot (reverse rows) ≡ find spot_cmp spot rows
found_turned [] sorted spot = refl
found_turned (row ∷ rows) sorted spot =
    let rest = found_turned rows (second (below_all spot_cmp row.0 rows) (is_sorted spot_cmp rows) sorted) in
    let none = none_below row.0 rows (first (below_all spot_cmp row.0 rows) (is_sorted spot_cmp rows) sorted) in
    ap (find spot_cmp spot) (reverse-cons row rows)
    ∙ find-append spot_cmp spot_cmp_total (reverse rows) row.0 row.1 spot (rest row.0 ∙ none)
    ∙ ap (λ (o : Option Row). cond (eq_by_cmp spot_cmp spot row.0) (Some row.1) o) (rest spot)

pub rising_turned : (rows : SpotRows) → T (is_sorted spot_cmp rows)
    → finite.from_sorted {R = spot_cmp} rows ≡ finite.from_entries (reverse rows)
rising_turned rows sorted = finite.same_map spot_cmp_total spot_cmp-IsAntisymmetric (finite.from_sorted rows) (finite.from_entries (reverse rows))
    (λ spot. finite.get-from_sorted spot_cmp rows spot sorted ∙ sym (found_turned rows sorted spot)
    ∙ sym (finite.get-from_entries spot_cmp_total (reverse rows) spot))

below_through : (spot own : SpotOf) (rows : SpotRows) → T (is_lt (spot_cmp spot own)) → T (below_all spot_cmp own rows)
    → T (below_all spot_cmp spot rows)
below_through spot own [] less below = tt
below_through spot own (row ∷ rows) less below =
    let next = first (is_lt (spot_cmp own row.0)) (below_all spot_cmp own rows) below in
    both (is_lt (spot_cmp spot row.0)) (below_all spot_cmp spot rows)
    (below_lt (spot_cmp spot row.0) (spot_cmp_total.trans spot own row.0 (less_of (spot_cmp spot own) less) (less_of (spot_cmp own row.0) next)))
    (below_through spot own rows less (second (is_lt (spot_cmp own row.0)) (below_all spot_cmp own rows) below))

-- rows rise, and behind a spot
abbrev pub rises_behind : Option SpotOf → SpotRows → Bool
rises_behind None rows = is_sorted spot_cmp rows
rises_behind (Some spot) rows = below_all spot_cmp spot rows && is_sorted spot_cmp rows

pub rises_more : (spot : SpotOf) (row : SpotOf × Row) (rows : SpotRows) → T (is_lt (spot_cmp spot row.0))
    → T (rises_behind (Some row.0) rows) → T (rises_behind (Some spot) (row ∷ rows))
rises_more spot row rows less rise =
    both (is_lt (spot_cmp spot row.0) && below_all spot_cmp spot rows) (below_all spot_cmp row.0 rows && is_sorted spot_cmp rows)
    (both (is_lt (spot_cmp spot row.0)) (below_all spot_cmp spot rows) less
    (below_through spot row.0 rows less (first (below_all spot_cmp row.0 rows) (is_sorted spot_cmp rows) rise)))
    rise

-- ---- rows in an order by numbers

filter_turned : (may : SpotOf × Row → Bool) (rows : SpotRows) → filter may (reverse rows) ≡ reverse (filter may rows)
filter_turned may [] = refl
filter_turned may (row ∷ rows) =
    ap (filter may) (reverse-cons row rows) ∙ filter-append may (reverse rows) (row ∷ [])
    ∙ ap (λ (l : SpotRows). l ++ filter may (row ∷ [])) (filter_turned may rows) ∙ own (may row)
  where
    own : (b : Bool) → reverse (filter may rows) ++ cond b (row ∷ []) [] ≡ reverse (cond b (row ∷ filter may rows) (filter may rows))
    own true = sym (reverse-cons row (filter may rows))
    own false = append-nil (reverse (filter may rows))

-- the last row of a spot stays the last
module _ (number : SpotOf → ℕ) where
  abbrev may_tie : SpotOf → SpotOf → Bool
  may_tie spot own = not (is_lt (nat_cmp (number spot) (number own))) && not (is_lt (nat_cmp (number own) (number spot)))

  ties_itself : (spot : SpotOf) → may_tie spot spot ≡ true
  ties_itself spot = ap (λ (o : Ordering). not (is_lt o) && not (is_lt o)) (tied_itself nat_cmp_total (number spot))

  among_ties : (spot : SpotOf) (rows : SpotRows) → find spot_cmp spot (filter (λ row. may_tie spot row.0) rows) ≡ find spot_cmp spot rows
  among_ties spot rows =
      find-where_key spot_cmp (may_tie spot) spot
      (λ own same. ap (may_tie spot) (sym (spot_cmp-IsAntisymmetric spot own same))) rows
      ∙ ap (λ (b : Bool). cond b (find spot_cmp spot rows) None) (ties_itself spot)

  module _ (rows other : SpotRows) (stable : IsStableByKey (λ (row : SpotOf × Row). number row.0) nat_cmp rows other) where
    same_found : Row → (spot : SpotOf) → find spot_cmp spot (reverse other) ≡ find spot_cmp spot (reverse rows)
    same_found row spot =
        let may : SpotOf × Row → Bool = λ one. may_tie spot one.0 in
        sym (among_ties spot (reverse other))
        ∙ ap (find spot_cmp spot) (filter_turned may other ∙ ap reverse (stable (spot, row)) ∙ sym (filter_turned may rows))
        ∙ among_ties spot (reverse rows)

  found_either : (rows other : SpotRows) → IsStableByKey (λ (row : SpotOf × Row). number row.0) nat_cmp rows other → (spot : SpotOf)
      → find spot_cmp spot (reverse other) ≡ find spot_cmp spot (reverse rows)
  found_either [] [] stable spot = refl
  found_either (row ∷ rows) other stable spot = same_found (row ∷ rows) other stable row.1 spot
  found_either [] (row ∷ other) stable spot = same_found [] (row ∷ other) stable row.1 spot

  same_turned : (rows other : SpotRows) → IsStableByKey (λ (row : SpotOf × Row). number row.0) nat_cmp rows other
      → finite.from_entries {R = spot_cmp} (reverse other) ≡ finite.from_entries (reverse rows)
  same_turned rows other stable = finite.same_map spot_cmp_total spot_cmp-IsAntisymmetric (finite.from_entries (reverse other))
      (finite.from_entries (reverse rows))
      (λ spot. finite.get-from_entries spot_cmp_total (reverse other) spot ∙ found_either rows other stable spot
      ∙ sym (finite.get-from_entries spot_cmp_total (reverse rows) spot))

  -- so after a stable sort by the number of each row's spot
  pub same_sorted : {F : Type 0} {g : Mut F (Bor (SpotOf × Row) × Unit {0}) ℕ} {f : F} (rows other : SpotRows)
      → IsStableByKeyClosure g nat_cmp f rows other
      → ((a : Bor (SpotOf × Row) × Unit {0}) (r : ℕ) (f' : F) → Called g f a r f' → (r ≡ number a.0.now.0) × (f' ≡ f))
      → finite.from_entries {R = spot_cmp} (reverse other) ≡ finite.from_entries (reverse rows)
  same_sorted {g = g} {f = f} rows other stable answers = same_turned rows other
      (stable (λ (row : SpotOf × Row). number row.0) (always_returns_same g (λ a r. r ≡ number a.0.now.0) f answers))
