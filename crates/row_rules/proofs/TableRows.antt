-- The rows of an object in all tables, table by table and by the numbers of the tables.
use Rattle.std.proofs.Common.{◌≡◌, ◌<◌, ℕ, zero, suc, ◌+◌, false, List, [], ◌∷◌, ◌++◌, append_assoc, drop, get_or, length, Option, Some}
use Rattle.std.proofs.Common.{None, refl, sym, ap, ◌∙◌, arith}
use Rattle.std.specs.List.{cons_option, filter_map, range_with_len, slice_get}
use Rattle.std.specs.Option.{option_and_then, option_to_list}
use Rattle.std.proofs.lemmas.List.{append-nil}
use Rattle.osm_base.specs.declared.values.object.Object.{Object}
use Rattle.osm_base.specs.declared.values.row.Row.{Row}
use Rattle.osm_base.specs.declared.values.row.TableRow.{TableRow}
use Rattle.osm_base.specs.map.Known.{Known}
use Rattle.osm_base.specs.map.Objects.{ObjectSet}
use Rattle.osm_base.specs.values.Key.{KeyOf}
use Rattle.style_read.specs.declared.style.Selection.{Selection}
use Rattle.style_read.specs.declared.style.TableDef.{TableDef}
use Rattle.style_read.specs.Style.{StyleOf}
use Rattle.row_rules.specs.Agree.{Suffices}
use Rattle.row_rules.specs.Material.{Material, material_known}
use Rattle.row_rules.specs.Row.{row, row_from, row_of}
use Rattle.row_rules.specs.Rows.{in_table, rows_from, rows_in, rows_known}
use Rattle.row_rules.specs.Wanted.{may_have_rows}
use Rattle.row_rules.proofs.Locality.{row_from-suffices}
use Rattle.row_rules.proofs.Unwanted.{row_from-unwanted}

rows-same : (one other : ℕ → Option Row) → ((table : ℕ) → one table ≡ other table) → (numbers : List ℕ)
    → filter_map (λ table. in_table table (one table)) numbers ≡ filter_map (λ table. in_table table (other table)) numbers
rows-same one other same [] = refl
rows-same one other same (number ∷ numbers) =
    ap (λ found. cons_option (in_table number found) (filter_map (λ table. in_table table (one table)) numbers)) (same number)
    ∙ ap (cons_option (in_table number (other number))) (rows-same one other same numbers)

rows-none : (row : ℕ → Option Row) → ((table : ℕ) → row table ≡ None) → (numbers : List ℕ)
    → filter_map (λ table. in_table table (row table)) numbers ≡ []
rows-none row none [] = refl
rows-none row none (number ∷ numbers) =
    ap (λ found. cons_option (in_table number found) (filter_map (λ table. in_table table (row table)) numbers)) (none number)
    ∙ rows-none row none numbers

onto : {X : Type 0} (xs rest : List X) (more : Option X) → (xs ++ option_to_list more) ++ rest ≡ xs ++ cons_option more rest
onto xs rest None = ap (λ front. front ++ rest) (append-nil xs)
onto xs rest (Some x) = append_assoc xs (x ∷ []) rest

-- the item at a place, and those behind it
pub drop_item : {X : Type 0} (xs : List X) (i : ℕ) (x : X) → i < length xs → x ≡ get_or xs i x → drop i xs ≡ x ∷ drop (i + 1) xs
drop_item [] i x lt is = absurd (omega (arith, lt))
drop_item (y ∷ xs) zero x lt is = ap (λ z. z ∷ xs) (sym is)
drop_item (y ∷ xs) (suc i) x lt is = drop_item xs i x (omega (arith, lt)) is
    ∙ ap (λ k. x ∷ drop k (y ∷ xs)) (let e : suc (i + 1) ≡ suc i + 1 = omega arith in e)

module _ (selections : List Selection) (from : Material) (key : KeyOf) (object : Object) where
  abbrev row_at : List TableDef → ℕ → Option Row
  row_at tables number = option_and_then (λ table. row_of selections from table key object) (slice_get tables number)

  counted : (row : ℕ → Option Row) (tables : List TableDef) (number : ℕ) → ((more : ℕ) → row (number + more) ≡ row_at tables more)
      → rows_from selections from key object number tables
      ≡ filter_map (λ table. in_table table (row table)) (range_with_len number (length tables))
  counted row [] number each = refl
  counted row (table ∷ tables) number each =
      let here : number + 0 ≡ number = omega arith in
      ap (λ found. cons_option (in_table number found) (rows_from selections from key object (number + 1) tables))
      (sym (each 0) ∙ ap row here)
      ∙ ap (cons_option (in_table number (row number)))
      (counted row tables (number + 1) (λ more. let next : (number + 1) + more ≡ number + suc more = omega arith in
      ap row next ∙ each (suc more)))

  -- one more table is done
  pub rows-more : (tables : List TableDef) (i number : ℕ) (table : TableDef) (rows new all : List TableRow) (found : Option Row)
      → number ≡ i → drop i tables ≡ table ∷ drop (i + 1) tables
      → found ≡ row_of selections from table key object → new ≡ rows ++ option_to_list (in_table number found)
      → rows ++ rows_from selections from key object i (drop i tables) ≡ all
      → new ++ rows_from selections from key object (i + 1) (drop (i + 1) tables) ≡ all
  rows-more tables i number table rows new all found counts is made step before =
      let rest = rows_from selections from key object (i + 1) (drop (i + 1) tables) in
      ap (λ front. front ++ rest) step
      ∙ onto rows rest (in_table number found)
      ∙ ap (λ k. rows ++ cons_option (in_table k found) rest) counts
      ∙ ap (λ row. rows ++ cons_option (in_table i row) rest) made
      ∙ ap (λ left. rows ++ rows_from selections from key object i left) (sym is)
      ∙ before

-- a key without an object has no row
pub row_from-none : (style : StyleOf) (table : ℕ) (from : Material) (key : KeyOf) → from.object key ≡ None
    → row_from style table from key ≡ None
row_from-none style table from key none =
    ap (λ found. option_and_then (λ definition. option_and_then (row_of style.selections from definition key) found)
    (slice_get style.tables table)) none
    ∙ go (slice_get style.tables table)
  where
    go : (found : Option TableDef) → option_and_then
        (λ definition. option_and_then (row_of style.selections from definition key) None) found ≡ None
    go None = refl
    go (Some definition) = refl

pub rows_known-none : (style : StyleOf) (known : Known) (key : KeyOf) → known.object key ≡ None → rows_known style known key ≡ []
unfolding rows_known
rows_known-none style known key none =
    rows-none (λ table. row_from style table (material_known style known key) key)
    (λ table. row_from-none style table (material_known style known key) key none) (range_with_len 0 (length style.tables))

-- so where no table may want it
pub rows_known-unwanted : (style : StyleOf) (known : Known) (key : KeyOf) → may_have_rows style (known.object key) ≡ false
    → rows_known style known key ≡ []
unfolding rows_known
rows_known-unwanted style known key not =
    rows-none (λ table. row_from style table (material_known style known key) key)
    (λ table. row_from-unwanted style table (material_known style known key) key not) (range_with_len 0 (length style.tables))

pub rows_known-some : (style : StyleOf) (known : Known) (key : KeyOf) (object : Object) → known.object key ≡ Some object
    → rows_from style.selections (material_known style known key) key object 0 style.tables ≡ rows_known style known key
unfolding rows_known
rows_known-some style known key object is =
    let from = material_known style known key in
    counted style.selections from key object (λ table. row_from style table from key) style.tables 0
    (λ more. ap (λ table. row_from style table from key) (let e : 0 + more ≡ more = omega arith in e)
    ∙ ap (λ found. option_and_then (λ definition. option_and_then (row_of style.selections from definition key) found)
    (slice_get style.tables more)) is)

pub rows_known-suffices : (style : StyleOf) (known : Known) (key : KeyOf) (objects : ObjectSet)
    → ((table : ℕ) → Suffices style table key known objects) → rows_known style known key ≡ rows_in style objects key
unfolding rows_known rows_in
rows_known-suffices style known key objects suffices =
    rows-same (λ table. row_from style table (material_known style known key) key) (λ table. row style objects table key)
    (λ table. row_from-suffices style table key known objects (suffices table)) (range_with_len 0 (length style.tables))
