-- The text of a table is that of its rows alone.
use Rattle.std.proofs.Common.{◌≡◌, ℕ, Bool, true, false, cond, ◌&&◌, T, List, [], ◌∷◌, map, refl, ◌∙◌, ap}
use Rattle.std.specs.Prelude.{filter, nat_eq}
use Rattle.std.specs.Ordering.{is_lt}
use Rattle.std.specs.declared.cmp.Ordering.{Ordering}
use Rattle.std.specs.FinMap as finite
use Rattle.std.specs.FinMap.{is_sorted}
use Rattle.std.specs.FinMap.Entries.{below_all}
use Rattle.osm_base.specs.declared.values.row.Row.{Row}
use Rattle.osm_base.specs.map.Spots.{SpotOf, TableMap, spot_cmp}
use Rattle.osm_base.specs.values.Key.{KeyOf}
use Rattle.osm_base.proofs.SpotOrder.{spot_cmp_total, spot_cmp-IsAntisymmetric}
use Rattle.row_text.specs.Numbered.{by_number, rows_among, rows_of}
use Rattle.row_text.specs.Table.{has_areas, lines_of, table_text}
use Rattle.row_text.proofs.Ordered.{both_left, both_right, entries-from_entries}
use Rattle.style_read.specs.Style.{StyleOf}
use Rattle.update_flow.specs.Changes.{only_table}

both : (a b : Bool) → T a → T b → T (a && b)
both true b p q = q
both false b p q = absurd p

-- what rises does so when some of it is left out
module _ {K X : Type 0} (cmp : K → K → Ordering) (test : K × X → Bool) where
  below_filter : (key : K) (entries : List (K × X)) → T (below_all cmp key entries) → T (below_all cmp key (filter test entries))
  below_filter key [] h = tt
  below_filter key (entry ∷ entries) h =
      let rest = below_filter key entries (both_right (is_lt (cmp key entry.0)) (below_all cmp key entries) h) in
      elim (test entry) as (λ b. T (below_all cmp key (cond b (entry ∷ filter test entries) (filter test entries)))) [
        | true ↦ both (is_lt (cmp key entry.0)) (below_all cmp key (filter test entries))
            (both_left (is_lt (cmp key entry.0)) (below_all cmp key entries) h) rest
        | false ↦ rest
      ]

  sorted_filter : (entries : List (K × X)) → T (is_sorted cmp entries) → T (is_sorted cmp (filter test entries))
  sorted_filter [] h = tt
  sorted_filter (entry ∷ entries) h =
      let rest = sorted_filter entries (both_right (below_all cmp entry.0 entries) (is_sorted cmp entries) h) in
      elim (test entry) as (λ b. T (is_sorted cmp (cond b (entry ∷ filter test entries) (filter test entries)))) [
        | true ↦
            both (below_all cmp entry.0 (filter test entries)) (is_sorted cmp (filter test entries))
            (below_filter entry.0 entries (both_left (below_all cmp entry.0 entries) (is_sorted cmp entries) h)) rest
        | false ↦ rest
      ]

-- a test leaves out no more the second time
filter_twice : {A : Type 0} (test : A → Bool) (items : List A) → filter test (filter test items) ≡ filter test items
filter_twice test [] = refl
filter_twice test (item ∷ items) =
    elim (test item) as (λ b. test item ≡ b → filter test (cond b (item ∷ filter test items) (filter test items))
    ≡ cond b (item ∷ filter test items) (filter test items)) [
      | true ↦ λ e. ap (λ b. cond b (item ∷ filter test (filter test items)) (filter test (filter test items))) e
          ∙ ap (λ rest. item ∷ rest) (filter_twice test items)
      | false ↦ λ e. filter_twice test items
    ] refl

only_rows : (all : TableMap) (table : ℕ) → rows_of (only_table table all) table ≡ rows_of all table
only_rows all table =
    let here : SpotOf × Row → Bool = λ entry. nat_eq entry.0.table table in
    ap (rows_among table) (entries-from_entries spot_cmp spot_cmp_total spot_cmp-IsAntisymmetric (filter here (finite.entries all))
    (sorted_filter spot_cmp here (finite.entries all) (finite.entries_sorted all)))
    ∙ ap (map (λ (entry : SpotOf × Row). (entry.0.key, entry.1))) (filter_twice here (finite.entries all))

pub only_text : (style : StyleOf) (all : TableMap) (table : ℕ) → table_text style (only_table table all) table ≡ table_text style all table
only_text style all table =
    ap (λ (rows : List (KeyOf × Row)). lines_of (has_areas style table)
    (finite.entries (finite.from_entries {R = by_number (has_areas style table)} rows))) (only_rows all table)
