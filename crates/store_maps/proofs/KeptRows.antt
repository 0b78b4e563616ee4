-- The rows that maps hold of a key are those of the tables, and may be kept.
use Rattle.std.proofs.Common.{◌≡◌, ◌≢◌, ◌<◌, ◌≤◌, ℕ, zero, suc, ◌+◌, Bool, true, false, cond, List, [], ◌∷◌, length, map, Option, Some}
use Rattle.std.proofs.Common.{None, refl, sym, ap, ◌∙◌, arith, inl, inr, nat_eq}
use Rattle.std.specs.Prelude.{◌&&◌, if◌then◌else◌}
use Rattle.std.specs.FinMap as finite
use Rattle.std.specs.List.{AllByRecursion, cons_option, filter_map, range_with_len, slice_get}
use Rattle.std.specs.Option.{option_and_then, option_map, option_map_or, option_or}
use Rattle.std.proofs.lemmas.Bool.{cases_eq, cases_lt}
use Rattle.std.proofs.lemmas.Bool.Decides.{nat_tests}
use Rattle.std.proofs.lemmas.List.{length-map}
use Rattle.std.proofs.lemmas.Option.{slice_get_past}
use Rattle.osm_base.specs.declared.values.object.Object.{Object}
use Rattle.osm_base.specs.declared.values.row.Cell.{Cell}
use Rattle.osm_base.specs.declared.values.row.Geometry.{Geometry}
use Rattle.osm_base.specs.declared.values.row.Row.{Row}
use Rattle.osm_base.specs.declared.values.row.TableRow.{TableRow}
use Rattle.osm_base.specs.map.Known.{Known}
use Rattle.osm_base.specs.map.Objects.{ObjectSet}
use Rattle.osm_base.specs.map.Spots.{SpotOf}
use Rattle.osm_base.specs.values.Key.{KeyOf}
use Rattle.style_read.specs.declared.style.TableDef.{TableDef}
use Rattle.style_read.specs.Style.{StyleOf}
use Rattle.row_rules.specs.Material.{Material, material_known, material_of}
use Rattle.row_rules.specs.Objects.{is_of_kind}
use Rattle.row_rules.specs.Row.{cells_of, row, row_from, row_of, tables, wants, with_geometry}
use Rattle.row_rules.specs.Rows.{in_table, rows_below, rows_in, rows_known}
use Rattle.row_rules.specs.Shape.{geometry_of}
use Rattle.row_rules.proofs.TableMap.{get-tables}
use Rattle.store_maps.specs.Rows.{AreKept, AreRising, Fits, RiseFrom, columns_in}
use Rattle.store_maps.specs.Append.{MayKeep}
use Rattle.store_maps.specs.Delta.{kept_row, row_in}
use Rattle.store_maps.specs.Maps.{Maps, kept_rows, rows_at, unless_empty}
use Rattle.store_maps.specs.Stands.{HoldsRows}

either_way : {X : Type 0} (b : Bool) (x : X) → cond b x x ≡ x
either_way true x = refl
either_way false x = refl

or-none : {X : Type 0} (x : Option X) → option_or x None ≡ x
or-none None = refl
or-none (Some x) = refl

nothing : {A : Type 0} {x : A} → None ≡ Some x → ⊥
nothing e = cc

apart : (number table : ℕ) → table ≢ number → nat_eq number table ≡ false
apart number table differs = grind (arith, nat_tests)

met : (number table : ℕ) → table ≡ number → nat_eq number table ≡ true
met number table same = grind (arith, nat_tests)

module _ (row_at : ℕ → Option Row) (table : ℕ) where
  abbrev from : ℕ → ℕ → List TableRow
  from first count = filter_map (λ number. in_table number (row_at number)) (range_with_len first count)

  -- one more in front
  first_in : (first : ℕ) (own : Option Row) (rest : List TableRow)
      → row_in (cons_option (in_table first own) rest) table
      ≡ cond (nat_eq first table) (option_or own (row_in rest table)) (row_in rest table)
  first_in first None rest = sym (either_way (nat_eq first table) (row_in rest table))
  first_in first (Some row) rest = refl

  outside : (first count : ℕ) → ((number : ℕ) → first ≤ number → number < first + count → table ≢ number)
      → row_in (from first count) table ≡ None
  outside first zero other = refl
  outside first (suc count) other =
      let rest = from (first + 1) count in
      first_in first (row_at first) rest
      ∙ ap (λ b. cond b (option_or (row_at first) (row_in rest table)) (row_in rest table))
      (apart first table (other first (omega arith) (omega arith)))
      ∙ outside (first + 1) count (λ number least most. other number (omega (arith, least)) (omega (arith, most)))

  inside : (first count : ℕ) → first ≤ table → table < first + count → row_in (from first count) table ≡ row_at table
  inside first zero least most = absurd (omega (arith, least, most))
  inside first (suc count) least most =
      let rest = from (first + 1) count in
      first_in first (row_at first) rest
      ∙ elim (cases_eq table first) [
        | inl same ↦
            ap (λ b. cond b (option_or (row_at first) (row_in rest table)) (row_in rest table)) (met first table same)
            ∙ ap (option_or (row_at first)) (outside (first + 1) count
            (λ number low high again. absurd (omega (arith, low, high, again, same))))
            ∙ or-none (row_at first)
            ∙ ap row_at (sym same)
        | inr other ↦
            ap (λ b. cond b (option_or (row_at first) (row_in rest table)) (row_in rest table)) (apart first table other)
            ∙ inside (first + 1) count (omega (arith, least, other)) (omega (arith, most))
      ]

  -- the row of a table among those of all tables
  row_in-below : (count : ℕ) → (count ≤ table → row_at table ≡ None) → row_in (rows_below row_at count) table ≡ row_at table
  row_in-below count past = elim (cases_lt table count) [
    | inl below ↦ inside 0 count (omega arith) (omega (arith, below))
    | inr behind ↦ outside 0 count (λ number low high same. absurd (omega (arith, low, high, same, behind))) ∙ sym (past behind)
  ]

pub row_from-past : (style : StyleOf) (table : ℕ) (material : Material) (key : KeyOf) → length style.tables ≤ table
    → row_from style table material key ≡ None
row_from-past style table material key past =
    ap (option_and_then (λ definition. option_and_then (row_of style.selections material definition key) (material.object key)))
    (slice_get_past style.tables table past)

pub row_in-rows : (style : StyleOf) (objects : ObjectSet) (key : KeyOf) (table : ℕ)
    → row_in (rows_in style objects key) table ≡ row style objects table key
unfolding rows_in
row_in-rows style objects key table =
    row_in-below (λ number. row style objects number key) table (length style.tables)
    (row_from-past style table (material_of style objects key) key)

kept-unless : (rows : List TableRow) → kept_rows (unless_empty rows) ≡ rows
kept-unless [] = refl
kept-unless (first ∷ rest) = refl

-- the row that maps hold at a spot is that of the objects
pub kept_row-is : (style : StyleOf) (maps : Maps) (objects : ObjectSet) → HoldsRows maps (rows_in style objects) → (spot : SpotOf)
    → kept_row maps spot ≡ row style objects spot.table spot.key
kept_row-is style maps objects holds spot =
    ap (λ found. row_in (kept_rows found) spot.table) (holds.at spot.key.kind spot.key.id)
    ∙ ap (λ rows. row_in rows spot.table) (kept-unless (rows_in style objects spot.key))
    ∙ row_in-rows style objects spot.key spot.table

-- and that of the tables
pub kept_row-tables : (style : StyleOf) (maps : Maps) (objects : ObjectSet) → HoldsRows maps (rows_in style objects) → (spot : SpotOf)
    → kept_row maps spot ≡ finite.get (tables style objects) spot
kept_row-tables style maps objects holds spot = kept_row-is style maps objects holds spot ∙ sym (get-tables style objects spot)

-- Rows that are built may be kept.

rise : (row_at : ℕ → Option Row) (count first least : ℕ) → least ≤ first
    → RiseFrom least (filter_map (λ number. in_table number (row_at number)) (range_with_len first count))
rise row_at zero first least low = tt
rise row_at (suc count) first least low =
    let rest = filter_map (λ number. in_table number (row_at number)) (range_with_len (first + 1) count) in
    elim (row_at first) as (λ own. RiseFrom least (cons_option (in_table first own) rest)) [
      | None ↦ rise row_at count (first + 1) least (omega (arith, low))
      | Some row ↦ (low, rise row_at count (first + 1) (first + 1) (omega arith))
    ]

fit : (tables : List TableDef) (row_at : ℕ → Option Row)
    → ((table : ℕ) (row : Row) → row_at table ≡ Some row → length row.cells ≡ columns_in tables table)
    → (count first : ℕ) → first + count ≤ length tables
    → AllByRecursion (Fits tables) (filter_map (λ number. in_table number (row_at number)) (range_with_len first count))
fit tables row_at has zero first within = tt
fit tables row_at has (suc count) first within =
    let rest = filter_map (λ number. in_table number (row_at number)) (range_with_len (first + 1) count) in
    elim (row_at first) as (λ own. row_at first ≡ own → AllByRecursion (Fits tables) (cons_option (in_table first own) rest)) [
      | None ↦ λ _. fit tables row_at has count (first + 1) (omega (arith, within))
      | Some row ↦ λ is. (
        record { there = omega (arith, within); cells = has first row is },
        fit tables row_at has count (first + 1) (omega (arith, within)),
      )
    ] refl

with_cells : (cells : List Cell) (geometry : Option Geometry) (own : Row) → with_geometry cells geometry ≡ Some own → own.cells ≡ cells
with_cells cells None own e = absurd (nothing e)
with_cells cells (Some shape) own e = cc

chosen_cells : (wanted : Bool) (cells : List Cell) (geometry : Option Geometry) (own : Row)
    → (if wanted then with_geometry cells geometry else None) ≡ Some own → own.cells ≡ cells
chosen_cells true cells geometry own e = with_cells cells geometry own e
chosen_cells false cells geometry own e = absurd (nothing e)

row_cells : (style : StyleOf) (material : Material) (key : KeyOf) (table : ℕ) (own : Row) → row_from style table material key ≡ Some own
    → length own.cells ≡ columns_in style.tables table
row_cells style material key table own is = of_table (slice_get style.tables table) is
  where
    of_object : (definition : TableDef) (object : Option Object)
        → option_and_then (row_of style.selections material definition key) object ≡ Some own → length own.cells ≡ length definition.columns
    of_object definition None e = absurd (nothing e)
    of_object definition (Some object) e =
        ap length (chosen_cells (is_of_kind key.kind object && wants material definition object)
        (cells_of style.selections material definition object)
        (geometry_of material.place material.object definition.source object) own e)
        ∙ length-map definition.columns _

    of_table : (found : Option TableDef) → option_and_then
        (λ definition. option_and_then (row_of style.selections material definition key) (material.object key)) found ≡ Some own
        → length own.cells ≡ option_map_or (λ (definition : TableDef). length definition.columns) found 0
    of_table None e = absurd (nothing e)
    of_table (Some definition) e = of_object definition (material.object key) e

keep_of : (tables : List TableDef) (rows : List TableRow) → AreRising rows → AllByRecursion (Fits tables) rows → MayKeep tables rows
keep_of tables [] rising each = tt
keep_of tables (first ∷ rest) rising each = record { some = omega arith; rising = rising; each = each }

pub may_keep : (style : StyleOf) (known : Known) (key : KeyOf) → MayKeep style.tables (rows_known style known key)
unfolding rows_known
may_keep style known key =
    let row_at = λ (table : ℕ). row_from style table (material_known style known key) key in
    keep_of style.tables (rows_below row_at (length style.tables))
    (rise row_at (length style.tables) 0 0 (omega arith))
    (fit style.tables row_at (λ table own is. row_cells style (material_known style known key) key table own is) (length style.tables) 0
    (omega arith))
