-- The rows of a key with another for one table.
use Rattle.std.proofs.Common.{◌≡◌, ◌≢◌, inl, inr, ◌<◌, ◌≤◌, ◌+◌, zero, suc, ℕ, Bool, true, false, cond, List, [], ◌∷◌, ◌++◌, length, get_or}
use Rattle.std.proofs.Common.{Option, Some, None, refl, sym, ap, subst, ◌∙◌, arith, nat_eq}
use Rattle.std.specs.Prelude.{nat_lt}
use Rattle.std.specs.List.{AllByRecursion, filter, insert, remove}
use Rattle.std.specs.Option.{IfSome}
use Rattle.std.proofs.lemmas.Bool.{cases_order}
use Rattle.std.proofs.lemmas.Bool.Decides.{nat_tests}
use Rattle.osm_base.specs.declared.values.row.Row.{Row}
use Rattle.osm_base.specs.declared.values.row.TableRow.{TableRow}
use Rattle.style_read.specs.declared.style.TableDef.{TableDef}
use Rattle.store_maps.specs.Append.{MayKeep}
use Rattle.store_maps.specs.Delta.{row_in}
use Rattle.store_maps.specs.Maps.{kept_rows}
use Rattle.store_maps.specs.Rows.{AreKept, AreRising, Fits, RiseFrom}
use Rattle.row_store.specs.Tables.{StandsAt, own_row, turned}

abbrev Rows : Type 0
Rows = List TableRow

abbrev before : ℕ → Rows → Rows
before table rows = filter (λ own. nat_lt own.table table) rows

abbrev behind : ℕ → Rows → Rows
behind table rows = filter (λ own. nat_lt table own.table) rows

is_less : (one other : ℕ) → one < other → nat_lt one other ≡ true
is_less one other less = grind (arith, nat_tests, less)

not_less : (one other : ℕ) → other ≤ one → nat_lt one other ≡ false
not_less one other low = grind (arith, nat_tests, low)

met : (one other : ℕ) → one ≡ other → nat_eq one other ≡ true
met one other same = grind (arith, nat_tests, same)

meets : (one other : ℕ) → nat_eq one other ≡ true → one ≡ other
meets one other same = grind (arith, nat_tests, same)

unmet : (one other : ℕ) → one ≢ other → nat_eq one other ≡ false
unmet one other differs = grind (arith, nat_tests, differs)

-- of rows behind a table none stands before it, and all stand behind
none_before : (table least : ℕ) (rows : Rows) → table ≤ least → RiseFrom least rows → before table rows ≡ []
none_before table least [] low rise = refl
none_before table least (row ∷ rows) low rise =
    ap (λ (b : Bool). cond b (row ∷ before table rows) (before table rows)) (not_less row.table table (omega (arith, low, rise.0)))
    ∙ none_before table (row.table + 1) rows (omega (arith, low, rise.0)) rise.1

all_behind : (table least : ℕ) (rows : Rows) → table < least → RiseFrom least rows → behind table rows ≡ rows
all_behind table least [] low rise = refl
all_behind table least (row ∷ rows) low rise =
    ap (λ (b : Bool). cond b (row ∷ behind table rows) (behind table rows)) (is_less table row.table (omega (arith, low, rise.0)))
    ∙ ap (λ (l : Rows). row ∷ l) (all_behind table (row.table + 1) rows (omega (arith, low, rise.0)) rise.1)

next : (table : ℕ) (row : TableRow) (rows : Rows) (at : ℕ) → StandsAt (row ∷ rows) table (suc at) → StandsAt rows table at
next table row rows at stands = record {
  within = omega (arith, stands.within);
  before = λ place own less. stands.before (suc place) own (omega (arith, less));
  behind = λ own within. stands.behind own (omega (arith, within));
}

-- the row at the front stands before the table, or not
front_less : (table : ℕ) (row : TableRow) (rows : Rows) (at : ℕ) → StandsAt (row ∷ rows) table (suc at) → row.table < table
front_less table row rows at stands = stands.before zero row (omega arith)

front_past : (table : ℕ) (row : TableRow) (rows : Rows) → StandsAt (row ∷ rows) table zero → table ≤ row.table
front_past table row rows stands = stands.behind row (omega arith)

first_stays : (table : ℕ) (row : TableRow) (rows : Rows) → row.table < table → before table (row ∷ rows) ≡ row ∷ before table rows
first_stays table row rows less =
    ap (λ (b : Bool). cond b (row ∷ before table rows) (before table rows)) (is_less row.table table less)

first_goes : (table : ℕ) (row : TableRow) (rows : Rows) → row.table ≤ table → behind table (row ∷ rows) ≡ behind table rows
first_goes table row rows low =
    ap (λ (b : Bool). cond b (row ∷ behind table rows) (behind table rows)) (not_less table row.table low)

-- where the row of a table stands
pub place_is : (table : ℕ) (rows : Rows) (at least : ℕ) → RiseFrom least rows → StandsAt rows table at → at ≡ length (before table rows)
place_is table [] at least rise stands = omega (arith, stands.within)
place_is table (row ∷ rows) zero least rise stands =
    sym (ap (λ (l : Rows). length l)
    (none_before table table (row ∷ rows) (omega arith) (front_past table row rows stands, rise.1)))
place_is table (row ∷ rows) (suc at) least rise stands =
    ap (λ (n : ℕ). suc n) (place_is table rows at (row.table + 1) rise.1 (next table row rows at stands))
    ∙ sym (ap (λ (l : Rows). length l) (first_stays table row rows (front_less table row rows at stands)))

-- without a row of the table the rows are those before and behind
pub none_taken : (table : ℕ) (rows : Rows) (at least : ℕ) → RiseFrom least rows → StandsAt rows table at
    → ((own : TableRow) → at < length rows → (get_or rows at own).table ≢ table) → rows ≡ before table rows ++ behind table rows
none_taken table [] at least rise stands none = refl
none_taken table (row ∷ rows) zero least rise stands none =
    let past = front_past table row rows stands in
    let apart = none row (omega arith) in
    sym (ap (λ (l : Rows). l ++ behind table (row ∷ rows)) (none_before table table (row ∷ rows) (omega arith) (past, rise.1))
    ∙ all_behind table (table + 1) (row ∷ rows) (omega arith) (omega (arith, past, apart), rise.1))
none_taken table (row ∷ rows) (suc at) least rise stands none =
    let less = front_less table row rows at stands in
    ap (λ (l : Rows). row ∷ l) (none_taken table rows at (row.table + 1) rise.1 (next table row rows at stands)
    (λ own within. none own (omega (arith, within))))
    ∙ sym (ap (λ (l : Rows). l ++ behind table (row ∷ rows)) (first_stays table row rows less)
    ∙ ap (λ (l : Rows). row ∷ (before table rows ++ l)) (first_goes table row rows (omega (arith, less))))

-- with one they are those once it is taken out
pub one_taken : (table : ℕ) (rows : Rows) (at least : ℕ) → RiseFrom least rows → StandsAt rows table at → at < length rows
    → ((own : TableRow) → (get_or rows at own).table ≡ table) → remove rows at ≡ before table rows ++ behind table rows
one_taken table [] at least rise stands within one = absurd (omega (arith, within))
one_taken table (row ∷ rows) zero least rise stands within one =
    let same : row.table ≡ table = one row in
    sym (ap (λ (l : Rows). l ++ behind table (row ∷ rows))
    (none_before table table (row ∷ rows) (omega arith) (front_past table row rows stands, rise.1))
    ∙ first_goes table row rows (omega (arith, same))
    ∙ all_behind table (row.table + 1) rows (omega (arith, same)) rise.1)
one_taken table (row ∷ rows) (suc at) least rise stands within one =
    let less = front_less table row rows at stands in
    ap (λ (l : Rows). row ∷ l) (one_taken table rows at (row.table + 1) rise.1 (next table row rows at stands)
    (omega (arith, within)) (λ own. one own))
    ∙ sym (ap (λ (l : Rows). l ++ behind table (row ∷ rows)) (first_stays table row rows less)
    ∙ ap (λ (l : Rows). row ∷ (before table rows ++ l)) (first_goes table row rows (omega (arith, less))))

-- a row is put between
put_between : (front back : Rows) (row : TableRow) → insert (front ++ back) (length front) row ≡ front ++ row ∷ [] ++ back
put_between [] back row = refl
put_between (first ∷ front) back row = ap (λ (l : Rows). first ∷ l) (put_between front back row)

pub row_put : (table : ℕ) (rows now : Rows) (at : ℕ) (row : Row) → now ≡ before table rows ++ behind table rows → at ≡ length (before table rows)
    → insert now at (record { table = table; row = row }) ≡ turned rows table (Some row)
row_put table rows now at row is place =
    ap (λ (l : Rows). insert l at (record { table = table; row = row })) is
    ∙ ap (λ (n : ℕ). insert (before table rows ++ behind table rows) n (record { table = table; row = row })) place
    ∙ put_between (before table rows) (behind table rows) (record { table = table; row = row })

append_nothing : (rows : Rows) → rows ++ [] ≡ rows
append_nothing [] = refl
append_nothing (row ∷ rows) = ap (λ (l : Rows). row ∷ l) (append_nothing rows)

pub none_put : (table : ℕ) (rows now : Rows) → now ≡ before table rows ++ behind table rows → now ≡ turned rows table None
none_put table rows now is = is ∙ ap (λ (l : Rows). l ++ behind table rows) (sym (append_nothing (before table rows)))

-- The row of each table then.
abbrev first_of : Option Row → Option Row → Option Row
first_of None other = other
first_of (Some row) other = Some row

first_of-cond : (b : Bool) (row : Row) (found other : Option Row) → cond b (Some row) (first_of found other) ≡ first_of (cond b (Some row) found) other
first_of-cond true row found other = refl
first_of-cond false row found other = refl

row_in-append : (front back : Rows) (table : ℕ) → row_in (front ++ back) table ≡ first_of (row_in front table) (row_in back table)
row_in-append [] back table = refl
row_in-append (row ∷ front) back table =
    ap (λ (found : Option Row). cond (nat_eq row.table table) (Some row.row) found) (row_in-append front back table)
    ∙ first_of-cond (nat_eq row.table table) row.row (row_in front table) (row_in back table)

module _ (test : TableRow → Bool) (table : ℕ) where
  abbrev Passing : Rows → Rows
  Passing rows = filter test rows

  -- where the rows of the table pass
  row_in-passes : ((own : TableRow) → own.table ≡ table → test own ≡ true) → (rows : Rows) → row_in (Passing rows) table ≡ row_in rows table
  row_in-passes passes [] = refl
  row_in-passes passes (row ∷ rows) =
      elim (nat_eq row.table table) as
      (λ b. nat_eq row.table table ≡ b → row_in (Passing (row ∷ rows)) table ≡ cond b (Some row.row) (row_in rows table)) [
        | true ↦ λ same.
            ap (λ (b : Bool). row_in (cond b (row ∷ Passing rows) (Passing rows)) table) (passes row (meets row.table table same))
            ∙ ap (λ (b : Bool). cond b (Some row.row) (row_in (Passing rows) table)) same
        | false ↦ λ differs.
            elim (test row) as (λ b. row_in (cond b (row ∷ Passing rows) (Passing rows)) table ≡ row_in rows table) [
              | true ↦ ap (λ (b : Bool). cond b (Some row.row) (row_in (Passing rows) table)) differs ∙ row_in-passes passes rows
              | false ↦ row_in-passes passes rows
            ]
      ] refl

  -- and where none does
  row_in-fails : ((own : TableRow) → own.table ≡ table → test own ≡ false) → (rows : Rows) → row_in (Passing rows) table ≡ None
  row_in-fails fails [] = refl
  row_in-fails fails (row ∷ rows) =
      elim (nat_eq row.table table) as (λ b. nat_eq row.table table ≡ b → row_in (Passing (row ∷ rows)) table ≡ None) [
        | true ↦ λ same.
            ap (λ (b : Bool). row_in (cond b (row ∷ Passing rows) (Passing rows)) table) (fails row (meets row.table table same))
            ∙ row_in-fails fails rows
        | false ↦ λ differs.
            elim (test row) as (λ b. row_in (cond b (row ∷ Passing rows) (Passing rows)) table ≡ None) [
              | true ↦ ap (λ (b : Bool). cond b (Some row.row) (row_in (Passing rows) table)) differs ∙ row_in-fails fails rows
              | false ↦ row_in-fails fails rows
            ]
      ] refl

own_here : (own : ℕ) (row : Option Row) → row_in (own_row own row) own ≡ row
own_here own None = refl
own_here own (Some row) = ap (λ (b : Bool). cond b (Some row) None) (met own own refl)

own_beside : (own : ℕ) (row : Option Row) (table : ℕ) → own ≢ table → row_in (own_row own row) table ≡ None
own_beside own None table apart = refl
own_beside own (Some row) table apart = ap (λ (b : Bool). cond b (Some row) None) (unmet own table apart)

first_none : (found : Option Row) → first_of found None ≡ found
first_none None = refl
first_none (Some row) = refl

-- the row of the table is the one that was given, and the others are as they were
pub row_in-turned : (rows : Rows) (own : ℕ) (row : Option Row) (table : ℕ)
    → row_in (turned rows own row) table ≡ cond (nat_eq table own) row (row_in rows table)
row_in-turned rows own row table =
    let front = before own rows in
    let back = behind own rows in
    let parts : row_in (turned rows own row) table ≡ first_of (first_of (row_in front table) (row_in (own_row own row) table)) (row_in back table) =
    row_in-append (front ++ own_row own row) back table
    ∙ ap (λ (found : Option Row). first_of found (row_in back table)) (row_in-append front (own_row own row) table) in
    elim (cases_order table own) [
      | inl same ↦
          let gone : row_in front table ≡ None =
          row_in-fails (λ one. nat_lt one.table own) table (λ one is. not_less one.table own (omega (arith, same, is))) rows in
          let left : row_in back table ≡ None =
          row_in-fails (λ one. nat_lt own one.table) table (λ one is. not_less own one.table (omega (arith, same, is))) rows in
          parts
          ∙ ap (λ (found : Option Row). first_of (first_of found (row_in (own_row own row) table)) (row_in back table)) gone
          ∙ ap (λ (found : Option Row). first_of (row_in (own_row own row) table) found) left
          ∙ first_none (row_in (own_row own row) table)
          ∙ ap (λ (n : ℕ). row_in (own_row own row) n) same
          ∙ own_here own row
          ∙ sym (ap (λ (b : Bool). cond b row (row_in rows table)) (met table own same))
      | inr (inl less) ↦
          let there : row_in front table ≡ row_in rows table =
          row_in-passes (λ one. nat_lt one.table own) table (λ one is. is_less one.table own (omega (arith, less, is))) rows in
          let left : row_in back table ≡ None =
          row_in-fails (λ one. nat_lt own one.table) table (λ one is. not_less own one.table (omega (arith, less, is))) rows in
          let none = own_beside own row table (λ is. absurd (omega (arith, less, is))) in
          parts
          ∙ ap (λ (found : Option Row). first_of (first_of (row_in front table) (row_in (own_row own row) table)) found) left
          ∙ first_none (first_of (row_in front table) (row_in (own_row own row) table))
          ∙ ap (λ (found : Option Row). first_of (row_in front table) found) none
          ∙ first_none (row_in front table)
          ∙ there
          ∙ sym (ap (λ (b : Bool). cond b row (row_in rows table)) (unmet table own (λ is. absurd (omega (arith, less, is)))))
      | inr (inr more) ↦
          let gone : row_in front table ≡ None =
          row_in-fails (λ one. nat_lt one.table own) table (λ one is. not_less one.table own (omega (arith, more, is))) rows in
          let there : row_in back table ≡ row_in rows table =
          row_in-passes (λ one. nat_lt own one.table) table (λ one is. is_less own one.table (omega (arith, more, is))) rows in
          let none = own_beside own row table (λ is. absurd (omega (arith, more, is))) in
          parts
          ∙ ap (λ (found : Option Row). first_of (first_of found (row_in (own_row own row) table)) (row_in back table)) gone
          ∙ ap (λ (found : Option Row). first_of found (row_in back table)) none
          ∙ there
          ∙ sym (ap (λ (b : Bool). cond b row (row_in rows table)) (unmet table own (λ is. absurd (omega (arith, more, is)))))
    ]

-- They rise, and each fits its table.
rise_lower : (low high : ℕ) (rows : Rows) → low ≤ high → RiseFrom high rows → RiseFrom low rows
rise_lower low high [] less rise = tt
rise_lower low high (row ∷ rows) less rise = (omega (arith, less, rise.0), rise.1)

-- rows before a table, and then rows from it on
rise_on : (table least : ℕ) (rows back : Rows) → RiseFrom least rows → least ≤ table → RiseFrom table back
    → RiseFrom least (before table rows ++ back)
rise_on table least [] back rise low then = rise_lower least table back low then
rise_on table least (row ∷ rows) back rise low then = elim (cases_order row.table table) [
  | inl same ↦
      subst (λ (l : Rows). RiseFrom least (l ++ back))
      (sym (none_before table table (row ∷ rows) (omega arith) (omega (arith, same), rise.1))) (rise_lower least table back low then)
  | inr (inl less) ↦
      subst (λ (l : Rows). RiseFrom least (l ++ back)) (sym (first_stays table row rows less))
      (rise.0, rise_on table (row.table + 1) rows back rise.1 (omega (arith, less)) then)
  | inr (inr more) ↦
      subst (λ (l : Rows). RiseFrom least (l ++ back))
      (sym (none_before table table (row ∷ rows) (omega arith) (omega (arith, more), rise.1))) (rise_lower least table back low then)
]

rise_behind : (table least : ℕ) (rows : Rows) → RiseFrom least rows → RiseFrom (table + 1) (behind table rows)
rise_behind table least [] rise = tt
rise_behind table least (row ∷ rows) rise = elim (cases_order table row.table) [
  | inl same ↦
      subst (λ (l : Rows). RiseFrom (table + 1) l) (sym (first_goes table row rows (omega (arith, same))))
      (rise_behind table (row.table + 1) rows rise.1)
  | inr (inl less) ↦
      subst (λ (l : Rows). RiseFrom (table + 1) l)
      (sym (all_behind table (table + 1) (row ∷ rows) (omega arith) (omega (arith, less), rise.1))) (omega (arith, less), rise.1)
  | inr (inr more) ↦
      subst (λ (l : Rows). RiseFrom (table + 1) l) (sym (first_goes table row rows (omega (arith, more))))
      (rise_behind table (row.table + 1) rows rise.1)
]

own_rises : (table : ℕ) (row : Option Row) (back : Rows) → RiseFrom (table + 1) back → RiseFrom table (own_row table row ++ back)
own_rises table None back rise = rise_lower table (table + 1) back (omega arith) rise
own_rises table (Some row) back rise = (omega arith, rise)

joined : (one two three : Rows) → one ++ (two ++ three) ≡ one ++ two ++ three
joined [] two three = refl
joined (row ∷ one) two three = ap (λ (l : Rows). row ∷ l) (joined one two three)

turned_rises : (rows : Rows) (table : ℕ) (row : Option Row) → AreRising rows → AreRising (turned rows table row)
turned_rises rows table row rise =
    subst AreRising (joined (before table rows) (own_row table row) (behind table rows))
    (rise_on table zero rows (own_row table row ++ behind table rows) rise (omega arith)
    (own_rises table row (behind table rows) (rise_behind table zero rows rise)))

-- some of those that are so, and others
some_so : (Is : TableRow → Type 0) (test : TableRow → Bool) (rows : Rows) → AllByRecursion Is rows → AllByRecursion Is (filter test rows)
some_so Is test [] each = tt
some_so Is test (row ∷ rows) each = elim (test row) as (λ b. AllByRecursion Is (cond b (row ∷ filter test rows) (filter test rows))) [
  | true ↦ (each.0, some_so Is test rows each.1)
  | false ↦ some_so Is test rows each.1
]

both_so : (Is : TableRow → Type 0) (front back : Rows) → AllByRecursion Is front → AllByRecursion Is back → AllByRecursion Is (front ++ back)
both_so Is [] back each other = other
both_so Is (row ∷ front) back each other = (each.0, both_so Is front back each.1 other)

own_fits : (tables : List TableDef) (table : ℕ) (row : Option Row) → IfSome row (λ row. Fits tables (record { table = table; row = row }))
    → AllByRecursion (Fits tables) (own_row table row)
own_fits tables table None fits = tt
own_fits tables table (Some row) fits = (fits, tt)

may_of : (tables : List TableDef) (rows : Rows) → AreRising rows → AllByRecursion (Fits tables) rows → MayKeep tables rows
may_of tables [] rise each = tt
may_of tables (row ∷ rows) rise each = record { some = omega arith; rising = rise; each = each }

pub kept_rise : (tables : List TableDef) (found : Option Rows) → IfSome found (AreKept tables) → AreRising (kept_rows found)
kept_rise tables None kept = tt
kept_rise tables (Some rows) kept = kept.rising

kept_fit : (tables : List TableDef) (found : Option Rows) → IfSome found (AreKept tables) → AllByRecursion (Fits tables) (kept_rows found)
kept_fit tables None kept = tt
kept_fit tables (Some rows) kept = kept.each

-- the rows of a key may be kept, once a row is turned that may be kept
pub turned_kept : (tables : List TableDef) (found : Option Rows) (table : ℕ) (row : Option Row) → IfSome found (AreKept tables)
    → IfSome row (λ row. Fits tables (record { table = table; row = row })) → MayKeep tables (turned (kept_rows found) table row)
turned_kept tables found table row kept fits =
    let rows = kept_rows found in
    may_of tables (turned rows table row) (turned_rises rows table row (kept_rise tables found kept))
    (both_so (Fits tables) (before table rows ++ own_row table row) (behind table rows)
    (both_so (Fits tables) (before table rows) (own_row table row)
    (some_so (Fits tables) (λ own. nat_lt own.table table) rows (kept_fit tables found kept)) (own_fits tables table row fits))
    (some_so (Fits tables) (λ own. nat_lt table own.table) rows (kept_fit tables found kept)))
