-- Rows that are found by their boxes are those that a filter of all rows leaves.
use Rattle.std.proofs.Common.{◌≡◌, ℕ, Bool, true, false, cond, ◌&&◌, ◌||◌, ◌==◌, T, List, [], ◌∷◌, ◌++◌, map, Option, Some, None, is_some}
use Rattle.std.proofs.Common.{refl, sym, ap, subst, ◌∙◌, arith}
use Rattle.std.proofs.lemmas.Bool.Decides.{nat_tests}
use Rattle.std.proofs.lemmas.Cmp.{tied_itself}
use Rattle.std.specs.Prelude.{filter}
use Rattle.std.specs.Ordering.{eq_by_cmp, is_eq, is_lt, nat_cmp, ordering_then}
use Rattle.std.specs.declared.cmp.Ordering.{Ordering}
use Rattle.std.specs.declared.cmp.Ordering.TheVariants.{Less, Equal, Greater}
use Rattle.std.specs.Cmp.{IsTotalOrder, nat_cmp_total}
use Rattle.std.specs.FinMap as finite
use Rattle.std.specs.FinMap.{IsAntisymmetric, find, is_sorted, nat_cmp-IsAntisymmetric}
use Rattle.std.specs.FinMap.Entries.{below_all}
use Rattle.std.specs.List.{AllByRecursion, IsDistinct, list_any}
use Rattle.std.specs.Option.{option_map_or}
use Rattle.osm_base.specs.declared.values.place.GeoBox.{GeoBox}
use Rattle.osm_base.specs.declared.values.row.Row.{Row}
use Rattle.osm_base.specs.map.Spots.{SpotOf, TableMap, spot_cmp}
use Rattle.osm_base.specs.values.Key.{KeyOf}
use Rattle.osm_base.specs.values.KeyOrder.{key_cmp}
use Rattle.osm_base.proofs.KeyLaws.{key_cmp_total, key_cmp-IsAntisymmetric}
use Rattle.osm_base.proofs.SpotOrder.{spot_cmp_total, spot_cmp-IsAntisymmetric}
use Rattle.lanes_geo.specs.Box.{box_of, meets}
use Rattle.grid_index.specs.Grid.{BoxMap, found_in, is_wanted, wanted}
use Rattle.row_text.specs.Numbered.{by_number, rows_among, rows_of}
use Rattle.row_text.proofs.Ordered.{both_left, both_right, entries-from_entries, once-rising}
use Rattle.row_text.proofs.TableRows.{by_number_total, by_number-IsAntisymmetric, rows_among-rising}
use Rattle.map_query.specs.Answer.{is_in, only, places_of}
use Rattle.map_query.specs.RowBoxes.{IsBoxed, box_in, rows_at}

both : (a b : Bool) → T a → T b → T (a && b)
both true b s t = t
both false b s t = absurd s

equal : (o : Ordering) → is_eq o ≡ true → o ≡ Equal
equal Less e = absurd (cc)
equal Equal e = refl
equal Greater e = absurd (cc)

-- ---- a filter of pairs by their second parts

abbrev keep : {X : Type 0} → (X → Bool) → Option X → Option X
keep test None = None
keep test (Some x) = cond (test x) (Some x) None

module _ {K X : Type 0} (R : K → K → Ordering) (total : IsTotalOrder R) (same : IsAntisymmetric R) (test : X → Bool) where
  abbrev kept : List (K × X) → List (K × X)
  kept pairs = filter (λ pair. test pair.1) pairs

  pub none_tied : (pairs : List (K × X)) (key : K) → AllByRecursion (λ other. eq_by_cmp R key other ≡ false) (map (λ pair. pair.0) pairs)
      → find R key pairs ≡ None
  none_tied [] key h = refl
  none_tied (pair ∷ pairs) key h = ap (λ b. cond b (Some pair.1) (find R key pairs)) h.0 ∙ none_tied pairs key h.1

  find_kept : (pairs : List (K × X)) (key : K) → IsDistinct (eq_by_cmp R) (map (λ pair. pair.0) pairs)
      → find R key (kept pairs) ≡ keep test (find R key pairs)
  unfolding IsDistinct
  find_kept [] key once = refl
  find_kept (pair ∷ pairs) key once = go (find_kept pairs key once.1) (eq_by_cmp R key pair.0) (test pair.1) refl refl
    where
      go : (find R key (kept pairs) ≡ keep test (find R key pairs)) → (b c : Bool) → eq_by_cmp R key pair.0 ≡ b → test pair.1 ≡ c
          → find R key (cond c (pair ∷ kept pairs) (kept pairs)) ≡ keep test (cond b (Some pair.1) (find R key pairs))
      go rest true true e f = ap (λ b. cond b (Some pair.1) (find R key (kept pairs))) e ∙ sym (ap (λ c. cond c (Some pair.1) None) f)
      go rest true false e f =
          let own : pair.0 ≡ key = sym (same key pair.0 (equal (R key pair.0) e)) in
          let none : find R key pairs ≡ None = subst (λ k. find R k pairs ≡ None) own (none_tied pairs pair.0 once.0) in
          rest ∙ ap (keep test) none ∙ sym (ap (λ c. cond c (Some pair.1) None) f)
      go rest false true e f = ap (λ b. cond b (Some pair.1) (find R key (kept pairs))) e ∙ rest
      go rest false false e f = rest

  below_kept : (key : K) (pairs : List (K × X)) → T (below_all R key pairs) → T (below_all R key (kept pairs))
  below_kept key [] h = h
  below_kept key (pair ∷ pairs) h =
      let rest = below_kept key pairs (both_right _ _ h) in
      elim (test pair.1) as (λ b. T (below_all R key (cond b (pair ∷ kept pairs) (kept pairs))))
      [ true ↦ both _ _ (both_left _ _ h) rest | false ↦ rest ]

  sorted_kept : (pairs : List (K × X)) → T (is_sorted R pairs) → T (is_sorted R (kept pairs))
  sorted_kept [] h = h
  sorted_kept (pair ∷ pairs) h =
      let rest = sorted_kept pairs (both_right _ _ h) in
      elim (test pair.1) as (λ b. T (is_sorted R (cond b (pair ∷ kept pairs) (kept pairs))))
      [ true ↦ both _ _ (below_kept pair.0 pairs (both_left _ _ h)) rest | false ↦ rest ]

  -- pairs are put into another order before they are kept, or after
  kept_in_order : (C : K → K → Ordering) → IsTotalOrder C → (pairs : List (K × X)) → T (is_sorted C pairs)
      → finite.entries (finite.from_entries {R = R} (kept pairs)) ≡ kept (finite.entries (finite.from_entries {R = R} pairs))
  kept_in_order C whole pairs rises =
      let ordered : List (K × X) = finite.entries (finite.from_entries {R = R} pairs) in
      let up : T (is_sorted R ordered) = finite.entries_sorted (finite.from_entries {R = R} pairs) in
      let each : (key : K) → finite.get (finite.from_entries {R = R} (kept pairs)) key
      ≡ finite.get (finite.from_entries {R = R} (kept ordered)) key = λ key.
      finite.get-from_entries total (kept pairs) key
      ∙ (find_kept pairs key (once-rising R total same C whole pairs rises)
      ∙ (ap (keep test) (sym (finite.get-from_entries total pairs key) ∙ finite.get-entries (finite.from_entries {R = R} pairs) key)
      ∙ (sym (find_kept ordered key (once-rising R total same R total ordered up))
      ∙ sym (finite.get-from_entries total (kept ordered) key)))) in
      ap finite.entries (finite.same_map total same _ _ each) ∙ entries-from_entries R total same (kept ordered) (sorted_kept ordered up)

-- ---- the rows of a table, and those at keys

abbrev pub at : ℕ → KeyOf → SpotOf
at table key = record { table = table; key = key }

pub same_number : (n other : ℕ) → (n == other) ≡ true → n ≡ other
same_number n other e = grind (arith, nat_tests)

own_number : (n : ℕ) → (n == n) ≡ true
own_number n = grind (arith, nat_tests)

-- in one table spots are ordered as their keys are
pub in_table : (table own : ℕ) (key other : KeyOf) → own ≡ table → spot_cmp (at table key) (at own other) ≡ key_cmp key other
in_table table own key other same =
    let tied : nat_cmp table own ≡ Equal = ap (nat_cmp table) same ∙ tied_itself nat_cmp_total table in
    ap (λ o. ordering_then o (key_cmp key other)) tied

pub apart_tables : (table own : ℕ) (o : Ordering) → (own == table) ≡ false → is_eq (ordering_then (nat_cmp table own) o) ≡ false
apart_tables table own o apart =
    elim (nat_cmp table own) as (λ n. nat_cmp table own ≡ n → is_eq (ordering_then n o) ≡ false) [
      | Less ↦ λ e. refl
      | Greater ↦ λ e. refl
      | Equal ↦ λ e.
          let same : table ≡ own = nat_cmp-IsAntisymmetric table own e in
          let yes : (own == table) ≡ true = grind (arith, nat_tests) in
          absurd (cc)
    ] refl

find_among : (table : ℕ) (key : KeyOf) (rows : List (SpotOf × Row))
    → find key_cmp key (rows_among table rows) ≡ find spot_cmp (at table key) rows
find_among table key [] = refl
find_among table key (entry ∷ rows) = go (find_among table key rows) (entry.0.table == table) refl
  where
    own : KeyOf
    own = entry.0.key

    go : (find key_cmp key (rows_among table rows) ≡ find spot_cmp (at table key) rows) → (b : Bool) → (entry.0.table == table) ≡ b
        → find key_cmp key (map (λ own. (own.0.key, own.1))
        (cond b (entry ∷ filter (λ own. own.0.table == table) rows) (filter (λ own. own.0.table == table) rows)))
        ≡ find spot_cmp (at table key) (entry ∷ rows)
    go rest true e =
        ap (cond (is_eq (key_cmp key own)) (Some entry.1)) rest
        ∙ ap (λ o. cond (is_eq o) (Some entry.1) (find spot_cmp (at table key) rows))
        (sym (in_table table entry.0.table key own (same_number entry.0.table table e)))
    go rest false e = rest ∙ ap (λ b. cond b (Some entry.1) (find spot_cmp (at table key) rows))
        (sym (apart_tables table entry.0.table (key_cmp key own) e))

pub find_of : (tables : TableMap) (table : ℕ) (key : KeyOf) → find key_cmp key (rows_of tables table) ≡ finite.get tables (at table key)
find_of tables table key = find_among table key (finite.entries tables) ∙ sym (finite.get-entries tables (at table key))

abbrev IsOf : ℕ → List (SpotOf × GeoBox) → Type 0
IsOf table boxes = AllByRecursion (λ spot. spot.table ≡ table) (map (λ entry. entry.0) boxes)

abbrev keys_in : List (SpotOf × GeoBox) → List KeyOf
keys_in boxes = map (λ spot. spot.key) (map (λ entry. entry.0) boxes)

cond_none : {X : Type 0} (b : Bool) → cond {A = Option X} b None None ≡ None
cond_none true = refl
cond_none false = refl

module _ (tables : TableMap) (table : ℕ) where
  abbrev found : List (SpotOf × GeoBox) → List (KeyOf × Row)
  found boxes = rows_at tables table (keys_in boxes)

  find_at : (key : KeyOf) (boxes : List (SpotOf × GeoBox)) → IsOf table boxes
      → find key_cmp key (found boxes) ≡ cond (is_some (find spot_cmp (at table key) boxes)) (finite.get tables (at table key)) None
  find_at key [] of = refl
  find_at key (entry ∷ boxes) of =
      go (find_at key boxes of.1) (is_eq (key_cmp key own)) (finite.get tables (at table own)) refl refl
      ∙ ap (λ o. cond (is_some (cond (is_eq o) (Some entry.1) far)) here None) (sym (in_table table entry.0.table key own of.0))
    where
      own : KeyOf
      own = entry.0.key

      here : Option Row
      here = finite.get tables (at table key)

      far : Option GeoBox
      far = find spot_cmp (at table key) boxes

      go : (find key_cmp key (found boxes) ≡ cond (is_some far) here None) → (b : Bool) (o : Option Row) → is_eq (key_cmp key own) ≡ b
          → finite.get tables (at table own) ≡ o
          → find key_cmp key (only own o ++ found boxes) ≡ cond (is_some (cond b (Some entry.1) far)) here None
      go rest true None e got =
          let none : here ≡ None = ap (λ k. finite.get tables (at table k)) (key_cmp-IsAntisymmetric key own (equal (key_cmp key own) e))
          ∙ got in
          rest ∙ (ap (λ o. cond (is_some far) o None) none ∙ (cond_none (is_some far) ∙ sym none))
      go rest true (Some row) e got =
          let there : here ≡ Some row = ap (λ k. finite.get tables (at table k))
          (key_cmp-IsAntisymmetric key own (equal (key_cmp key own) e)) ∙ got in
          ap (λ b. cond b (Some row) (find key_cmp key (found boxes))) e ∙ sym there
      go rest false None e got = rest
      go rest false (Some row) e got = ap (λ b. cond b (Some row) (find key_cmp key (found boxes))) e ∙ rest

  below_at : (key : KeyOf) (boxes : List (SpotOf × GeoBox)) → IsOf table boxes → T (below_all spot_cmp (at table key) boxes)
      → T (below_all key_cmp key (found boxes))
  below_at key [] of h = tt
  below_at key (entry ∷ boxes) of h =
      let rest = below_at key boxes of.1 (both_right _ _ h) in
      let first : T (is_lt (key_cmp key entry.0.key)) =
      subst (λ o. T (is_lt o)) (in_table table entry.0.table key entry.0.key of.0) (both_left _ _ h) in
      elim (finite.get tables (at table entry.0.key)) as
      (λ o. T (below_all key_cmp key (only entry.0.key o ++ found boxes))) [ None ↦ rest | Some row ↦ both _ _ first rest ]

  sorted_at : (boxes : List (SpotOf × GeoBox)) → IsOf table boxes → T (is_sorted spot_cmp boxes) → T (is_sorted key_cmp (found boxes))
  sorted_at [] of h = tt
  sorted_at (entry ∷ boxes) of h =
      let rest = sorted_at boxes of.1 (both_right _ _ h) in
      let spot : entry.0 ≡ at table entry.0.key = λ i. record { table = of.0 i; key = entry.0.key } in
      let below = below_at entry.0.key boxes of.1 (subst (λ own. T (below_all spot_cmp own boxes)) spot (both_left _ _ h)) in
      elim (finite.get tables (at table entry.0.key)) as
      (λ o. T (is_sorted key_cmp (only entry.0.key o ++ found boxes))) [ None ↦ rest | Some row ↦ both _ _ below rest ]

-- ---- what the boxes tell

or_true : (b : Bool) → (b || true) ≡ true
or_true true = refl
or_true false = refl

and_left : (a b : Bool) → (a && b) ≡ true → a ≡ true
and_left true b e = refl
and_left false b e = absurd (cc)

-- what holds of each spot that is tied to one of these holds of all
all_in : (P : SpotOf → Type 0) (spots : List SpotOf) → ((spot : SpotOf) → list_any (eq_by_cmp spot_cmp spot) spots ≡ true → P spot)
    → AllByRecursion P spots
all_in P [] h = tt
all_in P (spot ∷ spots) h = (
  h spot (ap (λ o. is_eq o || list_any (eq_by_cmp spot_cmp spot) spots) (tied_itself spot_cmp_total spot)),
  all_in P spots (λ other e. h other (ap (λ rest. eq_by_cmp spot_cmp other spot || rest) e ∙ or_true (eq_by_cmp spot_cmp other spot))),
)

near_or_not : (asked : GeoBox) (found : Option Row) (b : Bool) → b ≡ true
    → cond (is_some (cond (b && option_map_or (meets asked) (box_in found) false) (box_in found) None)) found None
    ≡ keep (is_in asked) found
near_or_not asked None true e = refl
near_or_not asked (Some row) true e = go (box_of (places_of row.geometry))
  where
    go : (around : Option GeoBox) → cond (is_some (cond (option_map_or (meets asked) around false) around None)) (Some row) None
        ≡ cond (option_map_or (meets asked) around false) (Some row) None
    go None = refl
    go (Some box) = elim (meets asked box) as
        (λ b. cond (is_some (cond b (Some box) None)) (Some row) None ≡ cond b (Some row) None) [ true ↦ refl | false ↦ refl ]
near_or_not asked found false e = absurd (cc)

module _ (tables : TableMap) (boxes : BoxMap) (table : ℕ) (asked : GeoBox) (boxed : IsBoxed tables boxes) where
  abbrev near : BoxMap
  near = wanted (meets asked) boxes table

  near_at : (spot : SpotOf) → finite.get near spot ≡ cond (is_wanted (meets asked) boxes table spot) (finite.get boxes spot) None
  near_at spot = finite.get-retain_keys boxes (is_wanted (meets asked) boxes table) spot
      (λ other tied. ap (is_wanted (meets asked) boxes table) (sym (spot_cmp-IsAntisymmetric spot other tied)))

  one_of : (spot : SpotOf) (b : Bool) → is_wanted (meets asked) boxes table spot ≡ b → is_some (finite.get near spot) ≡ true
      → spot.table ≡ table
  one_of spot true e there = same_number spot.table table (and_left _ _ e)
  one_of spot false e there =
      let none : is_some (finite.get near spot) ≡ false = ap is_some (near_at spot ∙ ap (λ b. cond b (finite.get boxes spot) None) e) in
      absurd (cc)

  near_of : IsOf table (finite.entries near)
  near_of = all_in (λ spot. spot.table ≡ table) (finite.keys near)
      (λ spot any. one_of spot (is_wanted (meets asked) boxes table spot) refl (finite.contains_key-keys near spot ∙ any))

  pub rising : T (is_sorted key_cmp (rows_at tables table (found_in boxes table asked)))
  rising = sorted_at tables table (finite.entries near) near_of (finite.entries_sorted near)

  near_get : (key : KeyOf) → cond (is_some (finite.get near (at table key))) (finite.get tables (at table key)) None
      ≡ keep (is_in asked) (finite.get tables (at table key))
  near_get key =
      let spot : SpotOf = at table key in
      let all : Option GeoBox → Option GeoBox = λ box. cond ((table == table) && option_map_or (meets asked) box false) box None in
      ap (λ box. cond (is_some box) (finite.get tables spot) None) (near_at spot ∙ ap all (boxed spot))
      ∙ near_or_not asked (finite.get tables spot) (table == table) (own_number table)

  -- the rows whose boxes are found are those whose boxes meet the asked one
  pub found_rows : rows_at tables table (found_in boxes table asked) ≡ filter (λ own. is_in asked own.1) (rows_of tables table)
  found_rows =
      let one : List (KeyOf × Row) = rows_at tables table (found_in boxes table asked) in
      let other : List (KeyOf × Row) = filter (λ own. is_in asked own.1) (rows_of tables table) in
      let all : T (is_sorted key_cmp (rows_of tables table)) =
      rows_among-rising table (finite.entries tables) (finite.entries_sorted tables) in
      let each : (key : KeyOf) → finite.get (finite.from_entries {R = key_cmp} one) key
      ≡ finite.get (finite.from_entries {R = key_cmp} other) key = λ key.
      finite.get-from_entries key_cmp_total one key
      ∙ (find_at tables table key (finite.entries near) near_of
      ∙ (ap (λ box. cond (is_some box) (finite.get tables (at table key)) None) (sym (finite.get-entries near (at table key)))
      ∙ (near_get key
      ∙ (ap (keep (is_in asked)) (sym (find_of tables table key))
      ∙ (sym (find_kept key_cmp key_cmp_total key_cmp-IsAntisymmetric (is_in asked) (rows_of tables table) key
      (once-rising key_cmp key_cmp_total key_cmp-IsAntisymmetric key_cmp key_cmp_total (rows_of tables table) all))
      ∙ sym (finite.get-from_entries key_cmp_total other key)))))) in
      sym (entries-from_entries key_cmp key_cmp_total key_cmp-IsAntisymmetric one rising)
      ∙ (ap finite.entries (finite.same_map key_cmp_total key_cmp-IsAntisymmetric _ _ each)
      ∙ entries-from_entries key_cmp key_cmp_total key_cmp-IsAntisymmetric other
      (sorted_kept key_cmp key_cmp_total key_cmp-IsAntisymmetric (is_in asked) (rows_of tables table) all))

  -- and in the order of their numbers
  pub found_in_order : (of_areas : Bool) → finite.entries
      (finite.from_entries {R = by_number of_areas} (rows_at tables table (found_in boxes table asked)))
      ≡ filter (λ own. is_in asked own.1) (finite.entries (finite.from_entries {R = by_number of_areas} (rows_of tables table)))
  found_in_order of_areas =
      let all : T (is_sorted key_cmp (rows_of tables table)) =
      rows_among-rising table (finite.entries tables) (finite.entries_sorted tables) in
      ap (λ rows. finite.entries (finite.from_entries {R = by_number of_areas} rows)) found_rows
      ∙ kept_in_order (by_number of_areas) (by_number_total of_areas) (by_number-IsAntisymmetric of_areas)
      (is_in asked) key_cmp key_cmp_total (rows_of tables table) all
