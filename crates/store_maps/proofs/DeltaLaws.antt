-- What is told of rows that differ is the delta of the tables.
use Rattle.std.proofs.Common.{◌≡◌, ◌≢◌, ◌<◌, ◌≤◌, ℕ, zero, suc, ◌+◌, Bool, true, false, ◌||◌, cond, if◌then◌else◌, List, [], ◌∷◌, ◌++◌}
use Rattle.std.proofs.Common.{length, map, Option, Some, None, refl, sym, ap, subst, ◌∙◌, arith, inl, inr}
use mathlib.Core.Bool.{false≢true, true≢false}
use Rattle.std.specs.Cmp.{Equal-is, nat_cmp_is, unsigned_tied}
use Rattle.std.specs.declared.cmp.Ordering.{Ordering}
use Rattle.std.specs.declared.cmp.Ordering.TheVariants.{Less, Equal, Greater}
use Rattle.std.specs.FinMap as finite
use Rattle.std.specs.List.{AllByRecursion, cons_option, filter_map, flat_map, list_any, range_with_len}
use Rattle.std.specs.List.Sorted.{IsStrictlySortedBy}
use Rattle.std.specs.Ordering.{eq_by_cmp, is_eq, nat_cmp, on, ordering_then, then_cmp}
use Rattle.std.proofs.lemmas.Bool.{cases_eq, cases_lt}
use Rattle.std.proofs.lemmas.Cmp.{tied_itself}
use Rattle.std.proofs.lemmas.List.Folds.{list_any-append}
use Rattle.osm_base.specs.declared.values.row.Row.{Row}
use Rattle.osm_base.specs.declared.values.row.RowChange.{RowChange}
use Rattle.osm_base.specs.declared.values.row.TableRow.{TableRow}
use Rattle.osm_base.specs.map.Spots.{SpotOf, TableMap, changed, changed_all, spot_cmp, spot_of, with_row}
use Rattle.osm_base.specs.values.Key.{KeyOf}
use Rattle.osm_base.specs.values.KeyOrder.{key_cmp}
use Rattle.osm_base.proofs.KeyLaws.{key_cmp-IsAntisymmetric, key_cmp_total}
use Rattle.osm_base.proofs.SpotOrder.{spot_cmp-IsAntisymmetric, spot_cmp_total}
use Rattle.store_maps.specs.Delta.{IsDelta, RowsAt, is_at, row_in, told_cmp}
use Rattle.store_maps.specs.SameRows.{same_found}
use Rattle.store_maps.specs.Told.{change_in, told_all, told_key}
use Rattle.store_maps.proofs.RowEquality.{same_found-is, same_found-itself}

abbrev at : ℕ → KeyOf → SpotOf
at table key = record { table = table; key = key }

abbrev IsRight : RowsAt → RowsAt → RowChange → Type 0
IsRight old new change = (change.row ≡ new (spot_of change)) × (old (spot_of change) ≢ new (spot_of change))

all-append : (P : RowChange → Type 0) (one other : List RowChange) → AllByRecursion P one → AllByRecursion P other
    → AllByRecursion P (one ++ other)
all-append P [] other first second = second
all-append P (change ∷ one) other first second = (first.0, all-append P one other first.1 second)

or-true : (b : Bool) → (b || true) ≡ true
or-true true = refl
or-true false = refl

module _ (old new : KeyOf → List TableRow) where
  abbrev old_at : RowsAt
  old_at spot = row_in (old spot.key) spot.table

  abbrev new_at : RowsAt
  new_at spot = row_in (new spot.key) spot.table

  abbrev told_from : KeyOf → ℕ → ℕ → List RowChange
  told_from key first count = filter_map (change_in key (old key) (new key)) (range_with_len first count)

  each_from : (key : KeyOf) (first count : ℕ) → AllByRecursion (IsRight old_at new_at) (told_from key first count)
  each_from key first zero = tt
  each_from key first (suc count) =
      let rest = told_from key (first + 1) count in
      let was = row_in (old key) first in
      let is = row_in (new key) first in
      elim (same_found was is) as (λ b. same_found was is ≡ b
      → AllByRecursion (IsRight old_at new_at)
      (cons_option (if b then None else Some (record { table = first; key = key; row = is })) rest)) [
        | true ↦ λ _. each_from key (first + 1) count
        | false ↦ λ differs. (
          (refl, λ same. false≢true (sym differs ∙ ap (same_found was) (sym same) ∙ same_found-itself was)),
          each_from key (first + 1) count,
        )
      ] refl

  each_key : (tables : ℕ) (key : KeyOf) → AllByRecursion (IsRight old_at new_at) (told_key tables key (old key) (new key))
  unfolding told_key
  each_key tables key = each_from key 0 tables

  pub each_all : (tables : ℕ) (keys : List KeyOf) → AllByRecursion (IsRight old_at new_at) (told_all tables old new keys)
  each_all tables [] = tt
  each_all tables (key ∷ keys) = all-append (IsRight old_at new_at) (told_key tables key (old key) (new key)) (told_all tables old new keys)
      (each_key tables key) (each_all tables keys)

  abbrev tells : SpotOf → List RowChange → Bool
  tells spot changes = list_any (λ change. is_at spot (spot_of change)) changes

  itself : (spot : SpotOf) → is_at spot spot ≡ true
  itself spot = (Equal-is (spot_cmp spot spot)).1 (tied_itself spot_cmp_total spot)

  all_from : (key : KeyOf) (table first count : ℕ) → first ≤ table → table < first + count → old_at (at table key) ≢ new_at (at table key)
      → tells (at table key) (told_from key first count) ≡ true
  all_from key table first zero least most differs = absurd (omega (arith, least, most))
  all_from key table first (suc count) least most differs =
      let rest = told_from key (first + 1) count in
      let was = row_in (old key) first in
      let is = row_in (new key) first in
      elim (cases_eq table first) [
        | inl same ↦ elim (same_found was is) as
            (λ b. same_found was is ≡ b → tells (at table key)
            (cons_option (if b then None else Some (record { table = first; key = key; row = is })) rest)
            ≡ true) [
              | true ↦ λ equal. absurd (differs (ap (row_in (old key)) same ∙ same_found-is was is equal
                  ∙ sym (ap (row_in (new key)) same)))
              | false ↦ λ _. ap (λ b. b || tells (at table key) rest)
                  (ap (λ number. is_at (at table key) (at number key)) (sym same) ∙ itself (at table key))
            ] refl
        | inr other ↦ elim (same_found was is) as
            (λ b. tells (at table key) (cons_option (if b then None else Some (record { table = first; key = key; row = is })) rest)
            ≡ true) [
              | true ↦ all_from key table (first + 1) count (omega (arith, least, other)) (omega (arith, most)) differs
              | false ↦ ap (λ b. is_at (at table key) (at first key) || b)
                  (all_from key table (first + 1) count (omega (arith, least, other)) (omega (arith, most)) differs)
                  ∙ or-true (is_at (at table key) (at first key))
            ]
      ]

  all_key : (tables table : ℕ) (key : KeyOf) → table < tables → old_at (at table key) ≢ new_at (at table key)
      → tells (at table key) (told_key tables key (old key) (new key)) ≡ true
  unfolding told_key
  all_key tables table key below differs = all_from key table 0 tables (omega arith) (omega (arith, below)) differs

  pub all_all : (tables : ℕ) (keys : List KeyOf) (spot : SpotOf) → spot.table < tables → list_any (eq_by_cmp key_cmp spot.key) keys ≡ true
      → old_at spot ≢ new_at spot → tells spot (told_all tables old new keys) ≡ true
  all_all tables [] spot below among differs = absurd (false≢true among)
  all_all tables (key ∷ keys) spot below among differs =
      let rest = told_all tables old new keys in
      list_any-append (λ change. is_at spot (spot_of change)) (told_key tables key (old key) (new key)) rest
      ∙ elim (eq_by_cmp key_cmp spot.key key) as
      (λ b. eq_by_cmp key_cmp spot.key key ≡ b → (b || list_any (eq_by_cmp key_cmp spot.key) keys) ≡ true
      → (tells spot (told_key tables key (old key) (new key)) || tells spot rest) ≡ true) [
        | true ↦ λ same _.
            let is : spot.key ≡ key = key_cmp-IsAntisymmetric spot.key key ((Equal-is (key_cmp spot.key key)).0 same) in
            ap (λ b. b || tells spot rest) (subst (λ (own : KeyOf). tells spot (told_key tables own (old own) (new own)) ≡ true) is
            (all_key tables spot.table spot.key below differs))
        | false ↦ λ _ later. ap (λ b. tells spot (told_key tables key (old key) (new key)) || b)
            (all_all tables keys spot below later differs) ∙ or-true (tells spot (told_key tables key (old key) (new key)))
      ] refl among

-- Each spot is told once.

module _ (old new : KeyOf → List TableRow) where
  spots-append : (one other : List RowChange) → map spot_of (one ++ other) ≡ map spot_of one ++ map spot_of other
  spots-append [] other = refl
  spots-append (change ∷ one) other = ap (λ rest. spot_of change ∷ rest) (spots-append one other)

  -- all of these come after that one
  abbrev After : SpotOf → List SpotOf → Type 0
  After spot spots = AllByRecursion (λ other. told_cmp spot other ≡ Less) spots

  after-append : (spot : SpotOf) (one other : List SpotOf) → After spot one → After spot other → After spot (one ++ other)
  after-append spot [] other first second = second
  after-append spot (next ∷ one) other first second = (first.0, after-append spot one other first.1 second)

  same_key-then : (key : KeyOf) (table other : ℕ) → table < other → told_cmp (at table key) (at other key) ≡ Less
  same_key-then key table other below = ap (λ order. ordering_then order (nat_cmp table other)) (tied_itself key_cmp_total key)
      ∙ sym (nat_cmp_is table other Less below)

  earlier-then : (key later : KeyOf) (table other : ℕ) → key_cmp key later ≡ Less → told_cmp (at table key) (at other later) ≡ Less
  earlier-then key later table other is = ap (λ order. ordering_then order (nat_cmp table other)) is

  after_from : (key : KeyOf) (table first count : ℕ) → table < first
      → After (at table key) (map spot_of (told_from old new key first count))
  after_from key table first zero below = tt
  after_from key table first (suc count) below =
      let rest = told_from old new key (first + 1) count in
      let was = row_in (old key) first in
      let is = row_in (new key) first in
      elim (same_found was is) as (λ b. After (at table key)
      (map spot_of (cons_option (if b then None else Some (record { table = first; key = key; row = is })) rest))) [
        | true ↦ after_from key table (first + 1) count (omega (arith, below))
        | false ↦ (same_key-then key table first below, after_from key table (first + 1) count (omega (arith, below)))
      ]

  -- those of a later key come after those of an earlier one
  later_from : (key later : KeyOf) (table first count : ℕ) → key_cmp key later ≡ Less
      → After (at table key) (map spot_of (told_from old new later first count))
  later_from key later table first zero is = tt
  later_from key later table first (suc count) is =
      let rest = told_from old new later (first + 1) count in
      let was = row_in (old later) first in
      let now = row_in (new later) first in
      elim (same_found was now) as (λ b. After (at table key)
      (map spot_of (cons_option (if b then None else Some (record { table = first; key = later; row = now })) rest))) [
        | true ↦ later_from key later table (first + 1) count is
        | false ↦ (earlier-then key later table first is, later_from key later table (first + 1) count is)
      ]

  later_key : (tables table : ℕ) (key later : KeyOf) → key_cmp key later ≡ Less
      → After (at table key) (map spot_of (told_key tables later (old later) (new later)))
  unfolding told_key
  later_key tables table key later is = later_from key later table 0 tables is

  later_all : (tables table : ℕ) (key : KeyOf) (keys : List KeyOf) → AllByRecursion (λ later. key_cmp key later ≡ Less) keys
      → After (at table key) (map spot_of (told_all tables old new keys))
  later_all tables table key [] all = tt
  later_all tables table key (later ∷ keys) all =
      subst (After (at table key)) (sym (spots-append (told_key tables later (old later) (new later)) (told_all tables old new keys)))
      (after-append (at table key) (map spot_of (told_key tables later (old later) (new later)))
      (map spot_of (told_all tables old new keys)) (later_key tables table key later all.0) (later_all tables table key keys all.1))

  -- the spots of a key, and then others that come after each of them
  sorted_from : (key : KeyOf) (first count : ℕ) (behind : List SpotOf) → ((table : ℕ) → After (at table key) behind)
      → IsStrictlySortedBy told_cmp behind
      → IsStrictlySortedBy told_cmp (map spot_of (told_from old new key first count) ++ behind)
  unfolding IsStrictlySortedBy
  sorted_from key first zero behind above sorted = sorted
  sorted_from key first (suc count) behind above sorted =
      let rest = told_from old new key (first + 1) count in
      let was = row_in (old key) first in
      let is = row_in (new key) first in
      elim (same_found was is) as (λ b. IsStrictlySortedBy told_cmp
      (map spot_of (cons_option (if b then None else Some (record { table = first; key = key; row = is })) rest) ++ behind)) [
        | true ↦ sorted_from key (first + 1) count behind above sorted
        | false ↦ (
          after-append (at first key) (map spot_of rest) behind (after_from key first (first + 1) count (omega arith))
              (above first),
          sorted_from key (first + 1) count behind above sorted,
        )
      ]

  sorted_key : (tables : ℕ) (key : KeyOf) (behind : List SpotOf) → ((table : ℕ) → After (at table key) behind)
      → IsStrictlySortedBy told_cmp behind
      → IsStrictlySortedBy told_cmp (map spot_of (told_key tables key (old key) (new key)) ++ behind)
  unfolding told_key
  sorted_key tables key behind above sorted = sorted_from key 0 tables behind above sorted

  pub once_all : (tables : ℕ) (keys : List KeyOf) → IsStrictlySortedBy key_cmp keys
      → IsStrictlySortedBy told_cmp (map spot_of (told_all tables old new keys))
  unfolding IsStrictlySortedBy
  once_all tables [] rise = tt
  once_all tables (key ∷ keys) rise =
      subst (IsStrictlySortedBy told_cmp) (sym (spots-append (told_key tables key (old key) (new key)) (told_all tables old new keys)))
      (sorted_key tables key (map spot_of (told_all tables old new keys)) (λ table. later_all tables table key keys rise.0)
      (once_all tables keys rise.1))

-- the delta of two tables, where what is told is right, all of it and each once
pub told-delta : (old new : KeyOf → List TableRow) (before after : RowsAt) (tables : ℕ) (keys : List KeyOf)
    → ((spot : SpotOf) → row_in (old spot.key) spot.table ≡ before spot) → ((spot : SpotOf) → row_in (new spot.key) spot.table ≡ after spot)
    → ((spot : SpotOf) → tables ≤ spot.table → before spot ≡ after spot)
    → ((spot : SpotOf) → list_any (eq_by_cmp key_cmp spot.key) keys ≡ false → before spot ≡ after spot)
    → IsStrictlySortedBy key_cmp keys → IsDelta before after (told_all tables old new keys)
told-delta old new before after tables keys was is past outside rise =
    let changes : List RowChange = told_all tables old new keys in
    record {
      each = subst (λ (rows : RowsAt). AllByRecursion
          (λ change. (change.row ≡ after (spot_of change)) × (rows (spot_of change) ≢ after (spot_of change))) changes)
          (λ i spot. was spot i)
          (subst (λ (rows : RowsAt). AllByRecursion
          (λ change. (change.row ≡ rows (spot_of change)) × (old_at old new (spot_of change) ≢ rows (spot_of change))) changes)
          (λ i spot. is spot i) (each_all old new tables keys));
      all = λ spot differs. elim (cases_lt spot.table tables) [
        | inr behind ↦ absurd (differs (past spot behind))
        | inl below ↦ elim (list_any (eq_by_cmp key_cmp spot.key) keys) as
            (λ b. list_any (eq_by_cmp key_cmp spot.key) keys ≡ b → list_any (λ change. is_at spot (spot_of change)) changes ≡ true) [
              | true ↦ λ among. all_all old new tables keys spot below among (λ same. differs (sym (was spot) ∙ same ∙ is spot))
              | false ↦ λ not. absurd (differs (outside spot not))
            ] refl
      ];
      once = once_all old new tables keys rise;
    }

-- Changes made one after another.

got : (tables : TableMap) (change : RowChange) (spot : SpotOf)
    → finite.get (changed tables change) spot ≡ cond (is_at spot (spot_of change)) change.row (finite.get tables spot)
got tables change spot = go change.row
  where
    go : (row : Option Row) → finite.get (with_row tables (spot_of change) row) spot
        ≡ cond (is_at spot (spot_of change)) row (finite.get tables spot)
    go None = finite.get-remove spot_cmp_total tables (spot_of change) spot
    go (Some row) = finite.get-insert spot_cmp_total tables (spot_of change) row spot

-- all of these give the new row at their spots
got-all : (after : RowsAt) (changes : List RowChange) (tables : TableMap) (spot : SpotOf)
    → AllByRecursion (λ change. change.row ≡ after (spot_of change)) changes
    → finite.get (changed_all tables changes) spot
    ≡ cond (list_any (λ change. is_at spot (spot_of change)) changes) (after spot) (finite.get tables spot)
got-all after [] tables spot all = refl
got-all after (change ∷ changes) tables spot all =
    let later = list_any (λ own. is_at spot (spot_of own)) changes in
    got-all after changes (changed tables change) spot all.1
    ∙ ap (cond later (after spot)) (got tables change spot
    ∙ elim (is_at spot (spot_of change)) as (λ b. is_at spot (spot_of change) ≡ b
    → cond b change.row (finite.get tables spot) ≡ cond b (after spot) (finite.get tables spot)) [
      | true ↦ λ same. all.0 ∙ ap after (sym (spot_cmp-IsAntisymmetric spot (spot_of change)
          ((Equal-is (spot_cmp spot (spot_of change))).0 same)))
      | false ↦ λ _. refl
    ] refl)
    ∙ in_turn (is_at spot (spot_of change)) later (after spot) (finite.get tables spot)
  where
    in_turn : {X : Type 0} (first later : Bool) (x y : X) → cond later x (cond first x y) ≡ cond (first || later) x y
    in_turn true true x y = refl
    in_turn true false x y = refl
    in_turn false true x y = refl
    in_turn false false x y = refl

right_rows : (old new : RowsAt) (changes : List RowChange)
    → AllByRecursion (λ change. (change.row ≡ new (spot_of change)) × (old (spot_of change) ≢ new (spot_of change))) changes
    → AllByRecursion (λ change. change.row ≡ new (spot_of change)) changes
right_rows old new [] all = tt
right_rows old new (change ∷ changes) all = (all.0.0, right_rows old new changes all.1)

-- a delta leads from the one to the other; whether two rows are the same is told by a test
pub delta-applied : (old new : TableMap) (changes : List RowChange) → IsDelta (finite.get old) (finite.get new) changes
    → changed_all old changes ≡ new
delta-applied old new changes delta = finite.same_map spot_cmp_total spot_cmp-IsAntisymmetric (changed_all old changes) new each
  where
    each : (spot : SpotOf) → finite.get (changed_all old changes) spot ≡ finite.get new spot
    each spot =
        got-all (finite.get new) changes old spot (right_rows (finite.get old) (finite.get new) changes delta.each)
        ∙ elim (list_any (λ change. is_at spot (spot_of change)) changes) as
        (λ b. list_any (λ change. is_at spot (spot_of change)) changes ≡ b
        → cond b (finite.get new spot) (finite.get old spot) ≡ finite.get new spot) [
          | true ↦ λ _. refl
          | false ↦ λ untold. elim (same_found (finite.get old spot) (finite.get new spot)) as
              (λ b. same_found (finite.get old spot) (finite.get new spot) ≡ b → finite.get old spot ≡ finite.get new spot) [
                | true ↦ λ same. same_found-is (finite.get old spot) (finite.get new spot) same
                | false ↦ λ differs. absurd (false≢true (sym untold
                    ∙ delta.all spot (λ same. false≢true (sym differs ∙ ap (same_found (finite.get old spot)) (sym same)
                    ∙ same_found-itself (finite.get old spot)))))
              ] refl
        ] refl
