-- The laws of the rows of an object in bytes.
use Rattle.std.proofs.Common.{◌≡◌, ◌≢◌, ℕ, ◌+◌, ◌<◌, ◌≤◌, List, [], ◌∷◌, ◌++◌, length, refl, sym, ap, ◌∙◌, append_assoc, subst, arith}
use Rattle.std.proofs.Common.{length-append, get_or, drop, drop-cons, zero, suc, true}
use Rattle.std.specs.Prelude.{◌==◌}
use Rattle.std.proofs.lemmas.Bool.{eqb-true}
use Rattle.std.proofs.lemmas.List.{append-nil, drop_all}
use Rattle.std.specs.List.{AllByRecursion}
use Rattle.osm_base.specs.declared.values.row.Row.{Row}
use Rattle.osm_base.specs.declared.values.row.TableRow.{TableRow}
use Rattle.style_read.specs.declared.style.TableDef.{TableDef}
use Rattle.value_bytes.specs.Forms.{Begins, IsFront, IsFrontless, Spells, IsNoValue}
use Rattle.value_bytes.specs.Numbers.{number_bytes, IsNumber}
use Rattle.value_bytes.proofs.ListLaws.{all_bytes-append, each_append}
use Rattle.value_bytes.proofs.NumberLaws.{length-number_bytes}
use Rattle.value_bytes.specs.Row.{row_bytes, IsRow}
use Rattle.row_store.specs.Rows.{table_row_bytes, IsTableRow, rows_bytes, AreSpelled}
use Rattle.store_maps.specs.Rows.{columns_in, RiseFrom, Fits}

-- what begins with a row of a table begins with its number
table_number : (tables : List TableDef) → length tables ≤ 256 → (bytes : List ℕ) (row : TableRow) (rest : List ℕ)
    → Begins table_row_bytes (IsTableRow tables) bytes row rest → Begins number_bytes IsNumber bytes row.table (row_bytes row.row ++ rest)
unfolding table_row_bytes
table_number tables few bytes row rest begins = record {
  is = omega (arith, begins.is.there);
  bytes_are = begins.bytes_are ∙ append_assoc (number_bytes row.table) (row_bytes row.row) rest;
}

pub table_row_front : (tables : List TableDef) → length tables ≤ 256
    → (bytes : List ℕ) (table : ℕ) (behind : List ℕ) (row : Row) (rest : List ℕ)
    → table < length tables → IsFront number_bytes IsNumber bytes table behind
    → IsFront row_bytes (IsRow (columns_in tables table)) behind row rest
    → IsFront table_row_bytes (IsTableRow tables) bytes (record { table = table; row = row }) rest
unfolding table_row_bytes
table_row_front tables few bytes table behind row rest there first second = record {
  begins = record {
    is = record { there = there; spelled = second.begins.is };
    bytes_are = first.begins.bytes_are ∙ ap (λ (l : List ℕ). number_bytes table ++ l) second.begins.bytes_are
        ∙ sym (append_assoc (number_bytes table) (row_bytes row) rest);
  };
  alone = λ other after begins.
      let same = first.alone other.table (row_bytes other.row ++ after) (table_number tables few bytes other after begins) in
      let later = second.alone other.row after
      (record { is = subst (λ n. IsRow (columns_in tables n) other.row) same.0 begins.is.spelled; bytes_are = sym same.1 }) in
      (λ i. record { table = same.0 i; row = later.0 i }, later.1);
}

pub table_row_no_number : (tables : List TableDef) → length tables ≤ 256 → (bytes : List ℕ) → IsFrontless number_bytes IsNumber bytes
    → IsFrontless table_row_bytes (IsTableRow tables) bytes
table_row_no_number tables few bytes none row rest begins =
    none row.table (row_bytes row.row ++ rest) (table_number tables few bytes row rest begins)

pub table_row_no_table : (tables : List TableDef) → length tables ≤ 256 → (bytes : List ℕ) (table : ℕ) (behind : List ℕ)
    → length tables ≤ table → IsFront number_bytes IsNumber bytes table behind → IsFrontless table_row_bytes (IsTableRow tables) bytes
table_row_no_table tables few bytes table behind past first row rest begins =
    let same = first.alone row.table (row_bytes row.row ++ rest) (table_number tables few bytes row rest begins) in
    omega (arith, same.0, begins.is.there)

pub table_row_no_row : (tables : List TableDef) → length tables ≤ 256 → (bytes : List ℕ) (table : ℕ) (behind : List ℕ)
    → IsFront number_bytes IsNumber bytes table behind → IsFrontless row_bytes (IsRow (columns_in tables table)) behind
    → IsFrontless table_row_bytes (IsTableRow tables) bytes
table_row_no_row tables few bytes table behind first none row rest begins =
    let same = first.alone row.table (row_bytes row.row ++ rest) (table_number tables few bytes row rest begins) in
    none row.row rest (record { is = subst (λ n. IsRow (columns_in tables n) row.row) same.0 begins.is.spelled; bytes_are = sym same.1 })

-- a row takes bytes
pub shorter : (bytes : List ℕ) (table : ℕ) (behind : List ℕ) (row : Row) (rest : List ℕ) (columns : ℕ)
    → IsFront number_bytes IsNumber bytes table behind → IsFront row_bytes (IsRow columns) behind row rest → length rest < length bytes
shorter bytes table behind row rest columns first second =
    omega (
      arith,
      ap (λ (l : List ℕ). length l) first.begins.bytes_are,
      length-append (number_bytes table) behind,
      length-number_bytes table,
      ap (λ (l : List ℕ). length l) second.begins.bytes_are,
      length-append (row_bytes row) rest,
    )

pub table_row_put : (row : TableRow) (old : List ℕ) → (old ++ number_bytes row.table) ++ row_bytes row.row ≡ old ++ table_row_bytes row
unfolding table_row_bytes
table_row_put row old = append_assoc old (number_bytes row.table) (row_bytes row.row)

-- these rows were read, and these bytes are left; whatever rows the bytes are go on with them
pub record HasRead (tables : List TableDef) (bytes : List ℕ) (rows : List TableRow) (rest : List ℕ) : Type 0 where
  pub are : AreSpelled tables rows
  pub bytes_are : bytes ≡ rows_bytes rows ++ rest
  pub goes_on : (all : List TableRow) → AreSpelled tables all → bytes ≡ rows_bytes all
      → (later : List TableRow) × (all ≡ rows ++ later) × AreSpelled tables later × (rest ≡ rows_bytes later)

pub read_none : (tables : List TableDef) (bytes : List ℕ) → HasRead tables bytes [] bytes
read_none tables bytes = record { are = tt; bytes_are = refl; goes_on = λ all are same. (all, refl, are, same) }

-- rows that are some bytes begin with one
first_row : (tables : List TableDef) (bytes : List ℕ) (all : List TableRow) → AreSpelled tables all → bytes ≡ rows_bytes all → bytes ≢ []
    → (row : TableRow) × (later : List TableRow) × (all ≡ row ∷ later)
    × Begins table_row_bytes (IsTableRow tables) bytes row (rows_bytes later) × AreSpelled tables later
first_row tables bytes [] are same some = absurd (some same)
first_row tables bytes (row ∷ later) are same some = (row, later, refl, record { is = are.0; bytes_are = same }, are.1)

pub read_more : (tables : List TableDef) (bytes : List ℕ) (rows : List TableRow) (rest : List ℕ) (row : TableRow) (behind : List ℕ)
    → HasRead tables bytes rows rest → rest ≢ [] → IsFront table_row_bytes (IsTableRow tables) rest row behind
    → HasRead tables bytes (rows ++ row ∷ []) behind
read_more tables bytes rows rest row behind before some front = record {
  are = each_append (IsTableRow tables) rows (row ∷ []) before.are (front.begins.is, tt);
  bytes_are = before.bytes_are ∙ ap (λ (l : List ℕ). rows_bytes rows ++ l) front.begins.bytes_are
      ∙ sym (append_assoc (rows_bytes rows) (table_row_bytes row) behind)
      ∙ ap (λ (l : List ℕ). (rows_bytes rows ++ l) ++ behind) (sym (append-nil (table_row_bytes row)))
      ∙ ap (λ (l : List ℕ). l ++ behind) (sym (all_bytes-append table_row_bytes rows (row ∷ [])));
  goes_on = λ all are same.
      let (later, split, spelled, ends) = before.goes_on all are same in
      let (next, others, later_is, begins, rest_are) = first_row tables rest later spelled ends some in
      let one = front.alone next (rows_bytes others) begins in (
        others,
        split ∙ ap (λ (l : List TableRow). rows ++ l) (later_is ∙ ap (λ r. r ∷ others) one.0) ∙ sym (append_assoc rows (row ∷ []) others),
        rest_are,
        sym one.1,
      );
}

pub read_refused : (tables : List TableDef) (bytes : List ℕ) (rows : List TableRow) (rest : List ℕ)
    → HasRead tables bytes rows rest → rest ≢ [] → IsFrontless table_row_bytes (IsTableRow tables) rest
    → IsNoValue rows_bytes (AreSpelled tables) bytes
read_refused tables bytes rows rest before some none all are same =
    let (later, split, spelled, ends) = before.goes_on all are same in
    let (next, others, later_is, begins, rest_are) = first_row tables rest later spelled ends some in
    none next (rows_bytes others) begins

-- no row has no bytes
none_left : (tables : List TableDef) (later : List TableRow) → [] ≡ rows_bytes later → later ≡ []
unfolding table_row_bytes
none_left tables [] same = refl
none_left tables (row ∷ later) same =
    absurd (omega (
      arith,
      ap (λ (l : List ℕ). length l) same,
      length-append (number_bytes row.table ++ row_bytes row.row) (rows_bytes later),
      length-append (number_bytes row.table) (row_bytes row.row),
      length-number_bytes row.table,
    ))

pub read_all : (tables : List TableDef) (bytes : List ℕ) (rows : List TableRow) → HasRead tables bytes rows []
    → Spells rows_bytes (AreSpelled tables) bytes rows
read_all tables bytes rows before = record {
  is = before.are;
  bytes_are = before.bytes_are ∙ append-nil (rows_bytes rows);
  alone = λ all are same.
      let (later, split, spelled, ends) = before.goes_on all are same in
      split ∙ ap (λ (l : List TableRow). rows ++ l) (none_left tables later ends) ∙ append-nil rows;
}

-- a row more of those that rise
pub rise_step : (rows : List TableRow) (place least : ℕ) (row : TableRow) → place < length rows → row ≡ get_or rows place row
    → RiseFrom least (drop place rows) → (least ≤ row.table) × RiseFrom (row.table + 1) (drop (place + 1) rows)
rise_step rows place least row within is rise =
    let next : suc place ≡ place + 1 = omega arith in
    let cut : drop place rows ≡ row ∷ drop (place + 1) rows =
    drop-cons rows place row within ∙ ap (λ (r : TableRow). r ∷ drop (suc place) rows) (sym is) ∙ ap (λ (n : ℕ). row ∷ drop n rows) next in
    subst (λ l. RiseFrom least l) cut rise

pub rise_back : (rows : List TableRow) (place least : ℕ) (row : TableRow) → place < length rows → row ≡ get_or rows place row
    → least ≤ row.table → RiseFrom (row.table + 1) (drop (place + 1) rows) → RiseFrom least (drop place rows)
rise_back rows place least row within is above rise =
    let next : suc place ≡ place + 1 = omega arith in
    let cut : drop place rows ≡ row ∷ drop (place + 1) rows =
    drop-cons rows place row within ∙ ap (λ (r : TableRow). r ∷ drop (suc place) rows) (sym is) ∙ ap (λ (n : ℕ). row ∷ drop n rows) next in
    subst (λ l. RiseFrom least l) (sym cut) (above, rise)

-- all of them, where none is left
pub rise_none : (rows : List TableRow) (place least : ℕ) → length rows ≤ place → RiseFrom least (drop place rows)
rise_none rows place least past = subst (λ l. RiseFrom least l) (sym (drop_all place rows past)) tt

-- rows that fit and have spellings
pub row_spelled : (tables : List TableDef) (row : TableRow) → Fits tables row → IsRow (length row.row.cells) row.row → IsTableRow tables row
row_spelled tables row fits is = record { there = fits.there; spelled = subst (λ n. IsRow n row.row) fits.cells is }

pub fits_at : (tables : List TableDef) (rows : List TableRow) (place : ℕ) (row : TableRow) → AllByRecursion (Fits tables) rows
    → place < length rows
    → row ≡ get_or rows place row → Fits tables row
fits_at tables [] place row each within is = absurd (omega arith)
fits_at tables (first ∷ rows) zero row each within is = subst (Fits tables) (sym is) each.0
fits_at tables (first ∷ rows) (suc place) row each within is = fits_at tables rows place row each.1 (omega arith) is

-- no bytes are left
pub nothing_left : (bytes : List ℕ) → true ≡ (length bytes == 0) → bytes ≡ []
nothing_left [] same = refl
nothing_left (byte ∷ bytes) same = absurd (omega (arith, eqb-true (suc (length bytes)) 0 (sym same)))
