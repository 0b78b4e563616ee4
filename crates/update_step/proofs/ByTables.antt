-- Rows of a key by table: they are what each table has of them.
use Rattle.std.proofs.Common.{◌≡◌, ◌≢◌, ◌<◌, ℕ, zero, suc, ◌+◌, Bool, true, false, not, ◌||◌, List, [], ◌∷◌, length, Some, None}
use Rattle.std.proofs.Common.{refl, sym, ap, subst, ◌∙◌, arith, nat_eq, cond, inl, inr}
use mathlib.Core.Bool.{false≢true}
use Rattle.std.specs.List.{AllByRecursion, cons_option, filter_map, list_any, range_with_len}
use Rattle.std.proofs.lemmas.Bool.{cases_eq}
use Rattle.std.proofs.lemmas.Bool.Decides.{nat_tests}
use Rattle.osm_base.specs.declared.values.row.TableRow.{TableRow}
use Rattle.osm_base.specs.map.Objects.{ObjectSet}
use Rattle.osm_base.specs.values.Key.{KeyOf}
use Rattle.row_rules.specs.Rows.{in_table, rows_below, rows_in}
use Rattle.store_maps.specs.Rows.{Fits, RiseFrom}
use Rattle.style_read.specs.declared.style.TableDef.{TableDef}
use Rattle.style_read.specs.Style.{StyleOf}
use Rattle.store_maps.specs.Append.{MayKeep}
use Rattle.store_maps.specs.Delta.{row_in}
use Rattle.store_maps.specs.SameRows.{same_found}
use Rattle.store_maps.proofs.KeptRows.{row_in-rows}
use Rattle.store_maps.proofs.RowEquality.{same_found-is}
use Rattle.update_step.specs.Turned.{IsByTable, is_turned, is_turned_in}

not_so : (b : Bool) → not b ≡ false → b ≡ true
not_so true e = refl
not_so false e = absurd (false≢true (sym e))

neither : (a b : Bool) → (a || b) ≡ false → (a ≡ false) × (b ≡ false)
neither true b e = absurd (false≢true (sym e))
neither false b e = (refl, e)

-- where no table tells them apart, each has the same of both
alike : (old new : List TableRow) (tables : List ℕ) → list_any (is_turned_in old new) tables ≡ false
    → filter_map (λ table. in_table table (row_in old table)) tables ≡ filter_map (λ table. in_table table (row_in new table)) tables
alike old new [] same = refl
alike old new (table ∷ tables) same =
    let parts = neither (is_turned_in old new table) (list_any (is_turned_in old new) tables) same in
    let here = same_found-is (row_in old table) (row_in new table) (not_so (same_found (row_in old table) (row_in new table)) parts.0) in
    λ i. cons_option (in_table table (here i)) (alike old new tables parts.1 i)

-- and so they are the same
pub still-same : (tables : ℕ) (old new : List TableRow) → IsByTable tables old → IsByTable tables new → is_turned tables old new ≡ false
    → old ≡ new
still-same tables old new was is same = sym was ∙ alike old new (range_with_len 0 tables) same ∙ is

-- those of an object are
pub rows_in-by-table : (style : StyleOf) (objects : ObjectSet) (own : KeyOf) → IsByTable (length style.tables) (rows_in style objects own)
unfolding rows_in
rows_in-by-table style objects own = λ i. rows_below (λ table. row_in-rows style objects own table i) (length style.tables)

met : (number table : ℕ) → number ≡ table → nat_eq number table ≡ true
met number table same = grind (arith, nat_tests)

apart : (number table : ℕ) → number ≢ table → nat_eq number table ≡ false
apart number table differs = grind (arith, nat_tests)

-- a table before those that rise has none of them
before : (rows : List TableRow) (table least : ℕ) → table < least → RiseFrom least rows → row_in rows table ≡ None
before [] table least below rise = refl
before (first ∷ rows) table least below rise =
    ap (λ b. cond b (Some first.row) (row_in rows table))
    (apart first.table table (λ same. let low = rise.0 in absurd (omega (arith, below, low, same))))
    ∙ before rows table (first.table + 1) (let low = rise.0 in omega (arith, below, low)) rise.1

-- what later tables have is not of the first row
behind-first : (first : TableRow) (rows : List TableRow) (from count : ℕ) → first.table < from
    → filter_map (λ table. in_table table (row_in (first ∷ rows) table)) (range_with_len from count)
    ≡ filter_map (λ table. in_table table (row_in rows table)) (range_with_len from count)
behind-first first rows from zero below = refl
behind-first first rows from (suc count) below =
    let other = apart first.table from (λ same. absurd (omega (arith, below, same))) in
    let later = behind-first first rows (from + 1) count (omega (arith, below)) in
    λ i. cons_option (in_table from (cond (other i) (Some first.row) (row_in rows from))) (later i)

-- rows that rise, each of one of the tables from a number on
each-table : (tables : List TableDef) (rows : List TableRow) (from count : ℕ) → RiseFrom from rows → AllByRecursion (Fits tables) rows
    → from + count ≡ length tables
    → filter_map (λ table. in_table table (row_in rows table)) (range_with_len from count) ≡ rows
each-table tables [] from zero rise fit end = refl
each-table tables (first ∷ rows) from zero rise fit end =
    let low = rise.0 in
    let high = fit.0.there in
    absurd (omega (arith, low, high, end))
each-table tables [] from (suc count) rise fit end = each-table tables [] (from + 1) count tt tt (omega (arith, end))
each-table tables (first ∷ rows) from (suc count) rise fit end =
    let own : TableRow = first in
    let low = rise.0 in
    elim (cases_eq first.table from) [
      | inl same ↦
          let here : row_in (first ∷ rows) from ≡ Some first.row =
          ap (λ b. cond b (Some first.row) (row_in rows from)) (met first.table from same) in
          let later = behind-first first rows (from + 1) count (omega (arith, same)) in
          let rest = each-table tables rows (from + 1) count (subst (λ n. RiseFrom (n + 1) rows) same rise.1) fit.1 (omega (arith, end)) in
          (λ i. cons_option (in_table from (here i)) (later i))
          ∙ ap (λ number. record { table = number; row = first.row } ∷
          filter_map (λ table. in_table table (row_in rows table)) (range_with_len (from + 1) count)) (sym same)
          ∙ ap (λ more. first ∷ more) rest
      | inr other ↦
          let none : row_in (first ∷ rows) from ≡ None =
          ap (λ b. cond b (Some first.row) (row_in rows from)) (apart first.table from other)
          ∙ before rows from (first.table + 1) (omega (arith, low)) rise.1 in
          let rest = each-table tables (first ∷ rows) (from + 1) count
          ((omega (arith, low, other)), rise.1) fit (omega (arith, end)) in
          ap (λ found. cons_option (in_table from found)
          (filter_map (λ table. in_table table (row_in (first ∷ rows) table)) (range_with_len (from + 1) count))) none
          ∙ rest
    ]

-- rows that may be kept
pub kept-by-table : (tables : List TableDef) (rows : List TableRow) → MayKeep tables rows → IsByTable (length tables) rows
kept-by-table tables [] kept = each-table tables [] 0 (length tables) tt tt (omega arith)
kept-by-table tables (first ∷ rows) kept = each-table tables (first ∷ rows) 0 (length tables) kept.rising kept.each (omega arith)
