-- Tables that the maps of rows hold: how they are read, and what a row more or fewer makes of them.
use Rattle.std.proofs.Common.{◌≡◌, inl, inr, ◌+◌, ◌*◌, ℕ, Bool, true, false, ◌||◌, cond, List, [], ◌∷◌, Option, Some, None, refl}
use Rattle.std.proofs.Common.{sym, ap, subst, ◌∙◌, arith, nat_eq, option_map}
use Rattle.std.specs.Prelude.{if◌then◌else◌}
use Rattle.std.specs.Option.{IsSome, is_some}
use Rattle.std.specs.FinMap as map
use Rattle.std.specs.Cmp.{Equal-is}
use Rattle.std.specs.Ordering.{eq_by_cmp, is_eq}
use Rattle.std.proofs.lemmas.Bool.{cases_eq}
use Rattle.std.proofs.lemmas.Cmp.{tied_itself}
use Rattle.osm_base.proofs.KeyLaws.{key_cmp_total}
use Rattle.osm_base.proofs.SpotOrder.{spot_cmp_total, spot_cmp-IsAntisymmetric}
use Rattle.osm_base.specs.declared.values.key.Kind.{Kind}
use Rattle.osm_base.specs.declared.values.key.Kind.TheVariants as kinds
use Rattle.osm_base.specs.declared.values.row.Row.{Row}
use Rattle.osm_base.specs.declared.values.row.TableRow.{TableRow}
use Rattle.osm_base.specs.map.Spots.{SpotOf, TableMap, spot_cmp, with_row}
use Rattle.osm_base.specs.values.Key.{IsId, KeyOf}
use Rattle.osm_base.specs.values.KeyOrder.{key_cmp}
use Rattle.style_read.specs.declared.style.TableDef.{TableDef}
use Rattle.bucket_records.specs.Records.{BucketMap}
use Rattle.bucket_store.specs.Image.{Image, with_value}
use Rattle.bucket_store.proofs.TypedLaws.{held_beside, held_with, held_without}
use Rattle.store_maps.specs.Asked.{row_key}
use Rattle.store_maps.specs.Delta.{kept_row, row_in}
use Rattle.store_maps.specs.Maps.{Maps, RowMap, empty_maps, kept_rows, rows_at, set, set_rows, unless_empty}
use Rattle.store_maps.proofs.ObjectMaps.{same_key}
use Rattle.store_maps.proofs.RowMaps.{got-all}
use Rattle.value_bytes.specs.Maps.{Decodes, HoldsMap, ReadAs}
use Rattle.value_bytes.proofs.MapLaws.{held_empty, read_one}
use Rattle.row_store.specs.Loading.{AreTold, Fills, is_wanted}
use Rattle.row_store.specs.Maps.{map_of}
use Rattle.row_store.specs.Rows.{AreRows, rows_bytes}
use Rattle.row_store.specs.Tables.{HoldsTables, MaySpell, turned, turned_bytes}
use Rattle.row_store.proofs.LoadLaws.{decide, met, spot_apart, spot_same, unmet}
use Rattle.row_store.proofs.MapTables.{HasRowIds, loaded_at, nodes_told, others_told, wanted_row}
use Rattle.row_store.proofs.TurnLaws.{row_in-turned}

-- maps of these rows
abbrev pub row_maps : RowMap → RowMap → Maps
row_maps nodes others = record empty_maps { node_rows = nodes; other_rows = others }

-- How they are read.
value_is : {V : Type 0} (spell : V → List ℕ) (Is : V → Type 0) (found : Option (List ℕ)) (value : Option V) (own : V) → value ≡ Some own
    → Decodes spell Is found value → Is own
value_is spell Is None None own is holds = absurd (cc (is))
value_is spell Is None (Some one) own is holds = absurd holds
value_is spell Is (Some bytes) None own is holds = absurd holds
value_is spell Is (Some bytes) (Some one) own is holds = subst Is (cc (is)) holds.0

some_row : (definitions : List TableDef) (rows : List TableRow) → AreRows definitions rows → (table : ℕ) × IsSome (row_in rows table)
some_row definitions [] are = absurd (omega (arith, are.some))
some_row definitions (first ∷ rest) are =
    (first.table, ap (λ (b : Bool). is_some (cond b (Some first.row) (row_in rest first.table))) (met first.table first.table refl))

module _ (definitions : List TableDef) (kept : ℕ → BucketMap) (tables : TableMap) (holds : HoldsTables definitions kept tables) where
  abbrev own : Maps
  own = row_maps holds.node_rows holds.other_rows

  with_id : (kind : Kind) (id : ℕ) (rows : List TableRow) → rows_at own kind id ≡ Some rows → AreRows definitions rows → IsId id
  with_id kind id rows is are =
      let some = some_row definitions rows are in
      let spot : SpotOf = record { table = some.0; key = record { kind = kind; id = id } } in
      holds.ids spot (subst IsSome (holds.rows spot)
      (subst (λ (found : Option (List TableRow)). IsSome (row_in (kept_rows found) some.0)) (sym is) some.1))

  pub row_ids : HasRowIds own
  row_ids kinds.Node id rows is =
      with_id kinds.Node id rows is
      (value_is rows_bytes (AreRows definitions) (map.get (kept 6) id) (map.get holds.node_rows id) rows is (holds.nodes id))
  row_ids kinds.Way id rows is =
      with_id kinds.Way id rows is
      (value_is rows_bytes (AreRows definitions) (map.get (kept 7) (2 * id)) (map.get holds.other_rows (2 * id)) rows is (holds.others (2 * id)))
  row_ids kinds.Relation id rows is =
      with_id kinds.Relation id rows is
      (value_is rows_bytes (AreRows definitions) (map.get (kept 7) (2 * id + 1)) (map.get holds.other_rows (2 * id + 1)) rows is
      (holds.others (2 * id + 1)))

  -- both maps tell rows
  pub table_nodes_told : (wanted : Option ℕ) → AreTold definitions wanted 6 (wanted_row wanted own) (kept 6)
  table_nodes_told wanted = nodes_told definitions wanted kept own row_ids holds.nodes

  pub table_others_told : (wanted : Option ℕ) → AreTold definitions wanted 7 (wanted_row wanted own) (kept 7)
  table_others_told wanted = others_told definitions wanted kept own row_ids holds.others

  -- and where all that they tell was read, that are the tables that are wanted
  pub tables_loaded : (wanted : Option ℕ) (new : TableMap)
      → Fills 6 (wanted_row wanted own) (λ n. IsSome (map.get (kept 6) n)) map.empty new
      → Fills 7 (wanted_row wanted own) (λ n. IsSome (map.get (kept 7) n)) map.empty new
      → (spot : SpotOf) → map.get new spot ≡ (if is_wanted wanted spot.table then map.get tables spot else None)
  tables_loaded wanted new first second spot =
      loaded_at definitions wanted kept own new holds.nodes holds.others first second spot.table spot.key.kind spot.key.id
      ∙ ap (λ (found : Option Row). if is_wanted wanted spot.table then found else None) (holds.rows spot)

-- What a row more or fewer makes of them.
kept_unless : (rows : List TableRow) → kept_rows (unless_empty rows) ≡ rows
kept_unless [] = refl
kept_unless (first ∷ rest) = refl

or_none : (b : Bool) → (b || false) ≡ b
or_none true = refl
or_none false = refl

got_with : (tables : TableMap) (spot : SpotOf) (row : Option Row) (other : SpotOf)
    → map.get (with_row tables spot row) other ≡ cond (eq_by_cmp spot_cmp other spot) row (map.get tables other)
got_with tables spot None other = map.get-remove spot_cmp_total tables spot other
got_with tables spot (Some row) other = map.get-insert spot_cmp_total tables spot row other

spot_is : (one other : SpotOf) → eq_by_cmp spot_cmp one other ≡ true → one ≡ other
spot_is one other same = spot_cmp-IsAntisymmetric one other ((Equal-is (spot_cmp one other)).0 same)

key_differs : (one other : KeyOf) → eq_by_cmp key_cmp one other ≡ false → one ≡ other → ⊥
key_differs one other differs same = absurd (let is : eq_by_cmp key_cmp one other ≡ true =
    subst (λ (key : KeyOf). eq_by_cmp key_cmp one key ≡ true) same (ap is_eq (tied_itself key_cmp_total one)) in cc (is, differs))

same_spot : (one other : SpotOf) → one.table ≡ other.table → one.key ≡ other.key → one ≡ other
same_spot one other table key = λ i. record { table = table i; key = key i }

module _ (maps : Maps) (spot : SpotOf) (row : Option Row) where
  abbrev after_rows : List TableRow
  after_rows = turned (kept_rows (rows_at maps spot.key.kind spot.key.id)) spot.table row

  abbrev after_maps : Maps
  after_maps = set_rows maps spot.key.kind spot.key.id after_rows

  got_rows : (other : SpotOf) → rows_at after_maps other.key.kind other.key.id
      ≡ cond (eq_by_cmp key_cmp other.key spot.key) (unless_empty after_rows) (rows_at maps other.key.kind other.key.id)
  got_rows other =
      got-all (λ key. after_rows) (spot.key ∷ []) maps other.key.kind other.key.id
      ∙ ap (λ (b : Bool). cond b (unless_empty after_rows) (rows_at maps other.key.kind other.key.id))
      (or_none (eq_by_cmp key_cmp other.key spot.key))

  here : (other : SpotOf) → other.key ≡ spot.key
      → row_in after_rows other.table ≡ cond (eq_by_cmp spot_cmp other spot) row (kept_row maps other)
  here other same =
      row_in-turned (kept_rows (rows_at maps spot.key.kind spot.key.id)) spot.table row other.table
      ∙ ap (λ (key : KeyOf). cond (nat_eq other.table spot.table) row (row_in (kept_rows (rows_at maps key.kind key.id)) other.table)) (sym same)
      ∙ ap (λ (b : Bool). cond b row (kept_row maps other)) (elim (cases_eq other.table spot.table) [
        | inl table ↦ met other.table spot.table table ∙ sym (spot_same other spot (same_spot other spot table same))
        | inr apart ↦ unmet other.table spot.table apart ∙ sym (spot_apart other spot (λ is. apart (ap (λ (s : SpotOf). s.table) is)))
      ])

  pub kept_row-turned : (other : SpotOf) → kept_row after_maps other ≡ cond (eq_by_cmp spot_cmp other spot) row (kept_row maps other)
  kept_row-turned other =
      elim (eq_by_cmp key_cmp other.key spot.key) as (λ b. eq_by_cmp key_cmp other.key spot.key ≡ b
      → kept_row after_maps other ≡ cond (eq_by_cmp spot_cmp other spot) row (kept_row maps other)) [
        | true ↦ λ is.
            ap (λ (found : Option (List TableRow)). row_in (kept_rows found) other.table)
            (got_rows other ∙ ap (λ (b : Bool). cond b (unless_empty after_rows) (rows_at maps other.key.kind other.key.id)) is)
            ∙ ap (λ (rows : List TableRow). row_in rows other.table) (kept_unless after_rows)
            ∙ here other (same_key other.key spot.key is)
        | false ↦ λ is.
            ap (λ (found : Option (List TableRow)). row_in (kept_rows found) other.table)
            (got_rows other ∙ ap (λ (b : Bool). cond b (unless_empty after_rows) (rows_at maps other.key.kind other.key.id)) is)
            ∙ sym (ap (λ (b : Bool). cond b row (kept_row maps other))
            (spot_apart other spot (λ same. key_differs other.key spot.key is (ap (λ (s : SpotOf). s.key) same))))
      ] refl

-- the bytes of a key become those of other rows
held_set : (definitions : List TableDef) (now : Image) (which key : ℕ) (values : RowMap) (rows : List TableRow)
    → HoldsMap rows_bytes (AreRows definitions) (now.maps which) values → MaySpell definitions rows
    → HoldsMap rows_bytes (AreRows definitions) ((with_value which key (option_map rows_bytes (unless_empty rows)) now).maps which)
    (set values key (unless_empty rows))
held_set definitions now which key values [] held may = held_without rows_bytes (AreRows definitions) now which key values held
held_set definitions now which key values (first ∷ rest) held may =
    held_with rows_bytes (AreRows definitions) now which key values (first ∷ rest) held may

module _ (definitions : List TableDef) (now : Image) (tables : TableMap) (row : Option Row)
    (holds : HoldsTables definitions now.maps tables) where
  abbrev had : Maps
  had = row_maps holds.node_rows holds.other_rows

  -- what was read under a key are its rows
  pub read_rows_are : (kind : Kind) (id : ℕ) (found : Option (List TableRow))
      → ReadAs rows_bytes (AreRows definitions) (map.get (now.maps (map_of kind)) (row_key kind id)) found → found ≡ rows_at had kind id
  read_rows_are kinds.Node id found read =
      read_one rows_bytes (AreRows definitions) (map.get (now.maps 6) id) found (map.get holds.node_rows id) read (holds.nodes id)
  read_rows_are kinds.Way id found read =
      read_one rows_bytes (AreRows definitions) (map.get (now.maps 7) (2 * id)) found (map.get holds.other_rows (2 * id)) read
      (holds.others (2 * id))
  read_rows_are kinds.Relation id found read =
      read_one rows_bytes (AreRows definitions) (map.get (now.maps 7) (2 * id + 1)) found (map.get holds.other_rows (2 * id + 1)) read
      (holds.others (2 * id + 1))

  -- the rows that the map of a kind has
  pub kind_held : (kind : Kind) → (values : RowMap) × HoldsMap rows_bytes (AreRows definitions) (now.maps (map_of kind)) values
  kind_held kinds.Node = (holds.node_rows, holds.nodes)
  kind_held kinds.Way = (holds.other_rows, holds.others)
  kind_held kinds.Relation = (holds.other_rows, holds.others)

  module _ (table : ℕ) (kind : Kind) (id : ℕ) (good : IsId id) where
    abbrev at : SpotOf
    at = record { table = table; key = record { kind = kind; id = id } }

    rows_then : (other : SpotOf) → kept_row (after_maps had at row) other ≡ map.get (with_row tables at row) other
    rows_then other =
        kept_row-turned had at row other
        ∙ ap (λ (found : Option Row). cond (eq_by_cmp spot_cmp other at) row found) (holds.rows other)
        ∙ sym (got_with tables at row other)

    ids_then : (other : SpotOf) → IsSome (map.get (with_row tables at row) other) → IsId other.key.id
    ids_then other there = elim (decide (eq_by_cmp spot_cmp other at)) [
      | inl same ↦ subst (λ (s : SpotOf). IsId s.key.id) (sym (spot_is other at same)) good
      | inr apart ↦ holds.ids other
          (subst IsSome (got_with tables at row other ∙ ap (λ (b : Bool). cond b row (map.get tables other)) apart) there)
    ]

  -- the tables that the maps hold then
  pub tables_turned : (table : ℕ) (kind : Kind) (id : ℕ) → IsId id
      → MaySpell definitions (turned (kept_rows (rows_at had kind id)) table row)
      → HoldsTables definitions (with_value (map_of kind) (row_key kind id) (turned_bytes (rows_at had kind id) table row) now).maps
      (with_row tables (record { table = table; key = record { kind = kind; id = id } }) row)
  tables_turned table kinds.Node id good may =
      let rows = turned (kept_rows (rows_at had kinds.Node id)) table row in
      record {
        node_rows = set holds.node_rows id (unless_empty rows);
        other_rows = holds.other_rows;
        nodes = held_set definitions now 6 id holds.node_rows rows holds.nodes may;
        others = held_beside rows_bytes (AreRows definitions) now 6 id holds.other_rows (option_map rows_bytes (unless_empty rows)) 7
            (λ is. absurd (omega (arith, is))) holds.others;
        rows = rows_then table kinds.Node id good;
        ids = ids_then table kinds.Node id good;
      }
  tables_turned table kinds.Way id good may =
      let rows = turned (kept_rows (rows_at had kinds.Way id)) table row in
      record {
        node_rows = holds.node_rows;
        other_rows = set holds.other_rows (2 * id) (unless_empty rows);
        nodes = held_beside rows_bytes (AreRows definitions) now 7 (2 * id) holds.node_rows (option_map rows_bytes (unless_empty rows)) 6
            (λ is. absurd (omega (arith, is))) holds.nodes;
        others = held_set definitions now 7 (2 * id) holds.other_rows rows holds.others may;
        rows = rows_then table kinds.Way id good;
        ids = ids_then table kinds.Way id good;
      }
  tables_turned table kinds.Relation id good may =
      let rows = turned (kept_rows (rows_at had kinds.Relation id)) table row in
      record {
        node_rows = holds.node_rows;
        other_rows = set holds.other_rows (2 * id + 1) (unless_empty rows);
        nodes = held_beside rows_bytes (AreRows definitions) now 7 (2 * id + 1) holds.node_rows (option_map rows_bytes (unless_empty rows)) 6
            (λ is. absurd (omega (arith, is))) holds.nodes;
        others = held_set definitions now 7 (2 * id + 1) holds.other_rows rows holds.others may;
        rows = rows_then table kinds.Relation id good;
        ids = ids_then table kinds.Relation id good;
      }

-- no rows at all
none_kept : (spot : SpotOf) → kept_row (row_maps map.empty map.empty) spot ≡ None
none_kept spot = none_at spot.key.kind spot.key.id spot.table where
  none_at : (kind : Kind) (id table : ℕ) → row_in (kept_rows (rows_at (row_maps map.empty map.empty) kind id)) table ≡ None
  none_at kinds.Node id table = ap (λ (found : Option (List TableRow)). row_in (kept_rows found) table) (map.get-empty _ id)
  none_at kinds.Way id table = ap (λ (found : Option (List TableRow)). row_in (kept_rows found) table) (map.get-empty _ (2 * id))
  none_at kinds.Relation id table = ap (λ (found : Option (List TableRow)). row_in (kept_rows found) table) (map.get-empty _ (2 * id + 1))

no_row : (spot : SpotOf) → IsSome (map.get {R = spot_cmp} (map.empty {X = Row}) spot) → ⊥
no_row spot there =
    let none : map.get {R = spot_cmp} (map.empty {X = Row}) spot ≡ None = map.get-empty spot_cmp spot in
    absurd (cc (there, none))

pub no_tables : (definitions : List TableDef) (kept : ℕ → BucketMap) → kept 6 ≡ map.empty → kept 7 ≡ map.empty
    → HoldsTables definitions kept map.empty
no_tables definitions kept nodes others = record {
  node_rows = map.empty;
  other_rows = map.empty;
  nodes = subst (λ (m : BucketMap). HoldsMap rows_bytes (AreRows definitions) m map.empty) (sym nodes)
      (held_empty rows_bytes (AreRows definitions));
  others = subst (λ (m : BucketMap). HoldsMap rows_bytes (AreRows definitions) m map.empty) (sym others)
      (held_empty rows_bytes (AreRows definitions));
  rows = λ spot. none_kept spot ∙ sym (map.get-empty _ spot);
  ids = λ spot there. absurd (no_row spot there);
}
