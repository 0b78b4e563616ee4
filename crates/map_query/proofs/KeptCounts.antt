-- Numbers of rows that change with the rows.
use Rattle.std.proofs.Common.{◌≡◌, ℕ, zero, suc, ◌+◌, ◌==◌, Bool, true, false, cond, List, [], ◌∷◌, ◌++◌, length, Option, Some, None, is_some}
use Rattle.std.proofs.Common.{refl, sym, ap, ◌∙◌, arith, map, subst, take}
use denote.Ref.{Bor}
use Rattle.std.specs.Option.{option_copied}
use Rattle.std.specs.Ordering.{eq_by_cmp, is_eq}
use Rattle.std.specs.declared.cmp.Ordering.{Ordering}
use Rattle.std.specs.Cmp.{IsTotalOrder}
use Rattle.std.specs.FinMap as finite
use Rattle.std.specs.FinMap.{IsAntisymmetric}
use Rattle.std.specs.List.{IsDistinct, slice_get}
use Rattle.osm_base.specs.declared.values.row.Row.{Row}
use Rattle.osm_base.specs.declared.values.row.RowChange.{RowChange}
use Rattle.osm_base.specs.map.Spots.{TableMap, changed, spot_of, with_row}
use Rattle.osm_base.specs.values.Key.{KeyOf}
use Rattle.osm_base.specs.values.KeyOrder.{key_cmp}
use Rattle.osm_base.proofs.KeyLaws.{key_cmp_total, key_cmp-IsAntisymmetric}
use Rattle.row_text.specs.Numbered.{by_number, rows_by_number, rows_of}
use Rattle.row_text.proofs.Ordered.{entries-from_entries, once-rising}
use Rattle.row_text.proofs.TableRows.{by_number_total, by_number-IsAntisymmetric, rows_of-rising}
use Rattle.map_query.specs.Counted.{AreCounts, AreNoted, counted_on}
use Rattle.map_query.proofs.KeptBoxes.{get_with_row}
use Rattle.map_query.proofs.NearRows.{apart_tables, at, find_of, in_table, none_tied, same_number}

-- ---- the rows of a table in another order

module _ {K X : Type 0} (R : K → K → Ordering) (total : IsTotalOrder R) (same : IsAntisymmetric R) where
  -- a map of pairs whose keys differ has as many entries
  len-from_entries : (pairs : List (K × X)) → IsDistinct (eq_by_cmp R) (map (λ pair. pair.0) pairs)
      → finite.len (finite.from_entries {R = R} pairs) ≡ length pairs
  unfolding IsDistinct
  len-from_entries [] once = finite.len-empty R X
  len-from_entries (pair ∷ pairs) once =
      let none : finite.get (finite.from_entries {R = R} pairs) pair.0 ≡ None =
      finite.get-from_entries total pairs pair.0 ∙ none_tied R total same (λ _. true) pairs pair.0 once.0 in
      let rest = len-from_entries pairs once.1 in
      let more : finite.len (finite.from_entries {R = R} (pair ∷ pairs)) ≡ finite.len (finite.from_entries {R = R} pairs) + 1 =
      finite.len-insert total (finite.from_entries pairs) pair.0 pair.1
      ∙ ap (λ o. cond (is_some o) (finite.len (finite.from_entries {R = R} pairs)) (finite.len (finite.from_entries {R = R} pairs) + 1)) none in
      omega (arith, rest, more)

-- as many rows stand in the order of their numbers as a table has
pub length-rows_by_number : (of_areas : Bool) (tables : TableMap) (table : ℕ)
    → length (rows_by_number of_areas tables table) ≡ length (rows_of tables table)
length-rows_by_number of_areas tables table =
    sym (finite.len-entries (finite.from_entries {R = by_number of_areas} (rows_of tables table)))
    ∙ len-from_entries (by_number of_areas) (by_number_total of_areas) (by_number-IsAntisymmetric of_areas) (rows_of tables table)
    (once-rising (by_number of_areas) (by_number_total of_areas) (by_number-IsAntisymmetric of_areas) key_cmp key_cmp_total
    (rows_of tables table) (rows_of-rising tables table))

-- ---- the rows of a table as a map by their keys

abbrev own : TableMap → ℕ → finite.FinMap key_cmp Row
own tables table = finite.from_entries {R = key_cmp} (rows_of tables table)

own_get : (tables : TableMap) (table : ℕ) (key : KeyOf) → finite.get (own tables table) key ≡ finite.get tables (at table key)
own_get tables table key = finite.get-from_entries key_cmp_total (rows_of tables table) key ∙ find_of tables table key

own_len : (tables : TableMap) (table : ℕ) → length (rows_of tables table) ≡ finite.len (own tables table)
own_len tables table =
    ap length (sym (entries-from_entries key_cmp key_cmp_total key_cmp-IsAntisymmetric (rows_of tables table)
    (rows_of-rising tables table)))
    ∙ sym (finite.len-entries (own tables table))

abbrev with_key : finite.FinMap key_cmp Row → KeyOf → Option Row → finite.FinMap key_cmp Row
with_key rows key None = finite.remove rows key
with_key rows key (Some row) = finite.insert rows key row

get_with_key : (rows : finite.FinMap key_cmp Row) (key : KeyOf) (row : Option Row) (other : KeyOf)
    → finite.get (with_key rows key row) other ≡ cond (eq_by_cmp key_cmp other key) row (finite.get rows other)
get_with_key rows key None other = finite.get-remove key_cmp_total rows key other
get_with_key rows key (Some row) other = finite.get-insert key_cmp_total rows key row other

len_with_key : (rows : finite.FinMap key_cmp Row) (key : KeyOf) (row : Option Row)
    → finite.len (with_key rows key row) ≡ counted_on (is_some (finite.get rows key)) (is_some row) (finite.len rows)
len_with_key rows key None = finite.len-remove key_cmp_total rows key
len_with_key rows key (Some row) = finite.len-insert key_cmp_total rows key row

-- a row of the table is one of its map
own_with_row : (tables : TableMap) (table : ℕ) (key : KeyOf) (row : Option Row)
    → own (with_row tables (at table key) row) table ≡ with_key (own tables table) key row
own_with_row tables table key row = finite.same_map key_cmp_total key_cmp-IsAntisymmetric _ _ (λ other.
    own_get (with_row tables (at table key) row) table other
    ∙ (get_with_row tables (at table key) row (at table other)
    ∙ (ap (λ o. cond (is_eq o) row (finite.get tables (at table other))) (in_table table table other key refl)
    ∙ (ap (cond (eq_by_cmp key_cmp other key) row) (sym (own_get tables table other))
    ∙ sym (get_with_key (own tables table) key row other)))))

-- a row of another table leaves it as it is
own_without_row : (tables : TableMap) (table other : ℕ) (key : KeyOf) (row : Option Row) → (other == table) ≡ false
    → own (with_row tables (at other key) row) table ≡ own tables table
own_without_row tables table other key row apart = finite.same_map key_cmp_total key_cmp-IsAntisymmetric _ _ (λ own_key.
    own_get (with_row tables (at other key) row) table own_key
    ∙ (get_with_row tables (at other key) row (at table own_key)
    ∙ (ap (λ b. cond b row (finite.get tables (at table own_key))) (apart_tables table other (key_cmp own_key key) apart)
    ∙ sym (own_get tables table own_key))))

-- what a change makes of the number of rows of its table
count_of_change : (tables : TableMap) (change : RowChange)
    → length (rows_of (changed tables change) change.table)
    ≡ counted_on (is_some (finite.get tables (spot_of change))) (is_some change.row) (length (rows_of tables change.table))
count_of_change tables change =
    let table = change.table in
    let key = change.key in
    own_len (changed tables change) table
    ∙ (ap finite.len (own_with_row tables table key change.row)
    ∙ (len_with_key (own tables table) key change.row
    ∙ (ap (λ row. counted_on (is_some row) (is_some change.row) (finite.len (own tables table))) (own_get tables table key)
    ∙ ap (counted_on (is_some (finite.get tables (spot_of change))) (is_some change.row)) (sym (own_len tables table)))))

-- and of another one
count_beside : (tables : TableMap) (change : RowChange) (table : ℕ) → (change.table == table) ≡ false
    → length (rows_of (changed tables change) table) ≡ length (rows_of tables table)
count_beside tables change table apart =
    own_len (changed tables change) table
    ∙ (ap finite.len (own_without_row tables table change.table change.key change.row apart) ∙ sym (own_len tables table))

-- numbers that are noted with a change are those of the rows behind it
noted_change : (tables : TableMap) (change : RowChange) (old new : List (Option ℕ)) → AreCounts tables old
    → AreNoted change.table (is_some (finite.get tables (spot_of change))) (is_some change.row) old new
    → AreCounts (changed tables change) new
noted_change tables change old new are noted table count e =
    let found = noted table count e in
    go (change.table == table) refl found.0 (are table found.0 found.1.0) found.1.1
  where
    was : Bool
    was = is_some (finite.get tables (spot_of change))

    is : Bool
    is = is_some change.row

    go : (b : Bool) → (change.table == table) ≡ b → (before : ℕ) → before ≡ length (rows_of tables table)
        → count ≡ cond (change.table == table) (counted_on was is before) before
        → count ≡ length (rows_of (changed tables change) table)
    go true here before own e =
        e ∙ (ap (λ b. cond b (counted_on was is before) before) here
        ∙ (ap (counted_on was is) own
        ∙ subst (λ table. counted_on was is (length (rows_of tables table)) ≡ length (rows_of (changed tables change) table))
        (same_number change.table table here) (sym (count_of_change tables change))))
    go false beside before own e =
        e ∙ (ap (λ b. cond b (counted_on was is before) before) beside ∙ (own ∙ sym (count_beside tables change table beside)))

-- ---- the numbers as they stand in a list

abbrev AreAt : (ℕ → ℕ) → List (Option ℕ) → Type 0
AreAt cause_number counts = (table count : ℕ) → slice_get counts table ≡ Some (Some count) → count ≡ cause_number table

more_at : (cause_number : ℕ → ℕ) (counts : List (Option ℕ)) (count : ℕ) → AreAt cause_number counts → count ≡ cause_number (length counts)
    → AreAt cause_number (counts ++ Some count ∷ [])
more_at cause_number [] count are is zero found e = let same : count ≡ found = cc in sym same ∙ is
more_at cause_number [] count are is (suc table) found e = absurd (cc)
more_at cause_number (first ∷ counts) count are is zero found e = are zero found e
more_at cause_number (first ∷ counts) count are is (suc table) found e =
    more_at (λ i. cause_number (suc i)) counts count (λ table. are (suc table)) is table found e

-- one table more is counted
pub counts_more : (tables : TableMap) (counts : List (Option ℕ)) (table count : ℕ) → length counts ≡ table → AreCounts tables counts
    → count ≡ length (rows_of tables table) → AreCounts tables (counts ++ Some count ∷ [])
counts_more tables counts table count long are is =
    more_at (λ table. length (rows_of tables table)) counts count are (is ∙ ap (λ table. length (rows_of tables table)) (sym long))

copied_some : (found : Option (Bor Row)) → is_some (option_copied found) ≡ is_some found
copied_some None = refl
copied_some (Some row) = refl

-- numbers that are noted with a change are those of the rows behind it
pub kept_change : (tables after : TableMap) (change : RowChange) (found : Option (Bor Row)) (was is : Bool) (old new : List (Option ℕ))
    → option_copied found ≡ finite.get tables (spot_of change) → was ≡ is_some found → is ≡ is_some change.row
    → after ≡ changed tables change → AreCounts tables old → AreNoted change.table was is old new → AreCounts after new
kept_change tables after change found was is old new got was_is is_is then are noted =
    let before : was ≡ is_some (finite.get tables (spot_of change)) = was_is ∙ (sym (copied_some found) ∙ ap is_some got) in
    subst (λ (tables : TableMap). AreCounts tables new) (sym then)
    (noted_change tables change old new are
    (subst (λ was. AreNoted change.table was (is_some change.row) old new) before
    (subst (λ is. AreNoted change.table was is old new) is_is noted)))

-- a list that is written back as a whole
pub written : (n : ℕ) (counts rest : List (Option ℕ)) → length counts ≡ n → take n (counts ++ rest) ≡ counts
written n counts rest long = subst (λ n. take n (counts ++ rest) ≡ counts) long (whole counts)
  where
    whole : (counts : List (Option ℕ)) → take (length counts) (counts ++ rest) ≡ counts
    whole [] = refl
    whole (count ∷ counts) = ap (λ counts. count ∷ counts) (whole counts)
