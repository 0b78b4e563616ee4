-- The rows that are read of two maps of rows.
use Rattle.std.proofs.Common.{◌≡◌, ◌≢◌, ◌⊎◌, inl, inr, ◌+◌, ◌*◌, ◌/◌, ◌%◌, ℕ, Bool, true, false, List, [], ◌∷◌, Option, Some, None, refl}
use Rattle.std.proofs.Common.{sym, ap, subst, ◌∙◌, arith, nat_eq}
use Rattle.std.specs.Prelude.{if◌then◌else◌}
use Rattle.std.specs.Option.{IsSome}
use Rattle.std.specs.FinMap as map
use Rattle.std.specs.Ordering.{nat_cmp}
use Rattle.std.proofs.lemmas.Bool.Decides.{nat_tests}
use Rattle.std.proofs.lemmas.Option.{same_Some}
use Rattle.osm_base.specs.declared.values.key.Kind.{Kind}
use Rattle.osm_base.specs.declared.values.key.Kind.TheVariants as kinds
use Rattle.osm_base.specs.declared.values.row.Row.{Row}
use Rattle.osm_base.specs.declared.values.row.TableRow.{TableRow}
use Rattle.osm_base.specs.map.Spots.{SpotOf, TableMap}
use Rattle.osm_base.specs.values.Key.{IsId, KeyOf}
use Rattle.style_read.specs.declared.style.TableDef.{TableDef}
use Rattle.bucket_records.specs.Records.{BucketMap}
use Rattle.store_maps.specs.Delta.{kept_row, row_in}
use Rattle.store_maps.specs.Maps.{Maps, kept_rows, rows_at}
use Rattle.value_bytes.specs.Maps.{Decodes, HoldsMap}
use Rattle.row_store.specs.Loading.{AreTold, Fills, IsTold, IsWithin, RowsBySpot, is_wanted, key_of, row_or, spot_at}
use Rattle.row_store.specs.Rows.{AreRows, rows_bytes}

-- the row that maps hold at a spot, if it is wanted
abbrev pub wanted_row : Option ℕ → Maps → RowsBySpot
wanted_row wanted maps spot = if is_wanted wanted spot.table then kept_row maps spot else None

row_in-or : (rows : List TableRow) (table : ℕ) → row_in rows table ≡ row_or rows table None
row_in-or [] table = refl
row_in-or (first ∷ rows) table = ap (λ (found : Option Row). if nat_eq first.table table then Some first.row else found)
    (row_in-or rows table)

-- what bytes say of a map of values
decoded : {V : Type 0} (spell : V → List ℕ) (Is : V → Type 0) (found : Option (List ℕ)) (value : Option V) (bytes : List ℕ)
    → found ≡ Some bytes
    → Decodes spell Is found value → (own : V) × (value ≡ Some own) × Is own × (bytes ≡ spell own)
decoded spell Is None value bytes is holds = absurd (cc (is))
decoded spell Is (Some one) None bytes is holds = absurd holds
decoded spell Is (Some one) (Some own) bytes is holds = (own, refl, holds.0, sym (same_Some one bytes is) ∙ holds.1)

none_decoded : {V : Type 0} (spell : V → List ℕ) (Is : V → Type 0) (found : Option (List ℕ)) (value : Option V) → found ≡ None
    → Decodes spell Is found value → value ≡ None
none_decoded spell Is None None is holds = refl
none_decoded spell Is None (Some own) is holds = absurd holds
none_decoded spell Is (Some one) value is holds = absurd (cc (is))

-- bytes under the number of a key tell its rows
told_at : (definitions : List TableDef) (wanted : Option ℕ) (maps : Maps) (which number : ℕ) (kind : Kind) (id : ℕ) (own : List TableRow)
    (bytes : List ℕ)
    → key_of which number ≡ record { kind = kind; id = id } → rows_at maps kind id ≡ Some own → IsId id → AreRows definitions own
    → bytes ≡ rows_bytes own
    → IsTold definitions wanted which (wanted_row wanted maps) number bytes
told_at definitions wanted maps which number kind id own bytes is rows good are spelled = record {
  own = own;
  are = are;
  bytes_are = spelled;
  id = subst (λ (key : KeyOf). IsId key.id) (sym is) good;
  at = λ table.
      ap (λ (key : KeyOf). wanted_row wanted maps (record { table = table; key = key })) is
      ∙ ap (λ (found : Option (List TableRow)). if is_wanted wanted table then row_in (kept_rows found) table else None) rows
      ∙ ap (λ (found : Option Row). if is_wanted wanted table then found else None) (row_in-or own table);
}

-- the numbers of ways and relations
even_half : (number : ℕ) → number % 2 ≡ 0 → 2 * (number / 2) ≡ number
even_half number even = omega (arith, even)

odd_half : (number : ℕ) → number % 2 ≢ 0 → 2 * (number / 2) + 1 ≡ number
odd_half number odd = omega (arith, odd)

even_tells : (number : ℕ) → nat_eq (number % 2) 0 ≡ true → number % 2 ≡ 0
even_tells number is = grind (arith, nat_tests, is)

odd_tells : (number : ℕ) → nat_eq (number % 2) 0 ≡ false → number % 2 ≢ 0
odd_tells number is = grind (arith, nat_tests, is)

cased : (b : Bool) → (b ≡ true) ⊎ (b ≡ false)
cased true = inl refl
cased false = inr refl

abbrev other_key : Bool → ℕ → KeyOf
other_key even half = if even then record { kind = kinds.Way; id = half } else record { kind = kinds.Relation; id = half }

-- each key that has rows has an id
abbrev pub HasRowIds : Maps → Type 0
HasRowIds maps = (kind : Kind) (id : ℕ) (own : List TableRow) → rows_at maps kind id ≡ Some own → IsId id

module _ (definitions : List TableDef) (wanted : Option ℕ) (kept : ℕ → BucketMap) (maps : Maps) (good : HasRowIds maps) where
  pub nodes_told : HoldsMap rows_bytes (AreRows definitions) (kept 6) maps.node_rows
      → AreTold definitions wanted 6 (wanted_row wanted maps) (kept 6)
  nodes_told held number bytes is =
      let found = decoded rows_bytes (AreRows definitions) (map.get (kept 6) number) (map.get maps.node_rows number) bytes is
      (held number) in
      told_at definitions wanted maps 6 number kinds.Node number found.0 bytes refl found.1
      (good kinds.Node number found.0 found.1) found.2 found.3

  pub others_told : HoldsMap rows_bytes (AreRows definitions) (kept 7) maps.other_rows
      → AreTold definitions wanted 7 (wanted_row wanted maps) (kept 7)
  others_told held number bytes is =
      let found = decoded rows_bytes (AreRows definitions) (map.get (kept 7) number) (map.get maps.other_rows number) bytes is
      (held number) in
      elim (cased (nat_eq (number % 2) 0)) [
        | inl even ↦
            let rows : rows_at maps kinds.Way (number / 2) ≡ Some found.0 =
            ap (λ (n : ℕ). map.get maps.other_rows n) (even_half number (even_tells number even)) ∙ found.1 in
            told_at definitions wanted maps 7 number kinds.Way (number / 2) found.0 bytes
            (ap (λ (b : Bool). other_key b (number / 2)) even) rows
            (good kinds.Way (number / 2) found.0 rows) found.2 found.3
        | inr odd ↦
            let rows : rows_at maps kinds.Relation (number / 2) ≡ Some found.0 =
            ap (λ (n : ℕ). map.get maps.other_rows n) (odd_half number (odd_tells number odd)) ∙ found.1 in
            told_at definitions wanted maps 7 number kinds.Relation (number / 2) found.0 bytes
            (ap (λ (b : Bool). other_key b (number / 2)) odd) rows
            (good kinds.Relation (number / 2) found.0 rows) found.2 found.3
      ]

doubled : (id : ℕ) → (2 * id) % 2 ≡ 0
doubled id = omega arith

halved : (id : ℕ) → (2 * id) / 2 ≡ id
halved id = omega arith

doubled_one : (id : ℕ) → (2 * id + 1) % 2 ≡ 1
doubled_one id = omega arith

halved_one : (id : ℕ) → (2 * id + 1) / 2 ≡ id
halved_one id = omega arith

zero_tells : (n : ℕ) → n ≡ 0 → nat_eq n 0 ≡ true
zero_tells n is = ap (λ (m : ℕ). nat_eq m 0) is

one_tells : (n : ℕ) → n ≡ 1 → nat_eq n 0 ≡ false
one_tells n is = ap (λ (m : ℕ). nat_eq m 0) is

abbrev spot_of_key : ℕ → KeyOf → SpotOf
spot_of_key table key = record { table = table; key = key }

-- the spot of a number
way_spot : (id table : ℕ) → spot_at 7 (2 * id) table ≡ record { table = table; key = record { kind = kinds.Way; id = id } }
way_spot id table =
    ap (λ (b : Bool). spot_of_key table (other_key b ((2 * id) / 2))) (zero_tells ((2 * id) % 2) (doubled id))
    ∙ ap (λ (n : ℕ). spot_of_key table (record { kind = kinds.Way; id = n })) (halved id)

relation_spot : (id table : ℕ) → spot_at 7 (2 * id + 1) table ≡ record { table = table; key = record { kind = kinds.Relation; id = id } }
relation_spot id table =
    ap (λ (b : Bool). spot_of_key table (other_key b ((2 * id + 1) / 2))) (one_tells ((2 * id + 1) % 2) (doubled_one id))
    ∙ ap (λ (n : ℕ). spot_of_key table (record { kind = kinds.Relation; id = n })) (halved_one id)

-- a spot is filled where its number has bytes, and elsewhere there is no row
module _ (rows : RowsBySpot) (definitions : List TableDef) (which : ℕ) (bytes : BucketMap) (values : map.FinMap nat_cmp (List TableRow))
    (new : TableMap)
    (held : HoldsMap rows_bytes (AreRows definitions) bytes values)
    (fills : Fills which rows (λ n. IsSome (map.get bytes n)) map.empty new) where
  none_within : IsWithin rows map.empty
  none_within spot = inr (map.get-empty _ spot)

  filled_at : (number : ℕ) (spot : SpotOf) → spot_at which number spot.table ≡ spot → (map.get values number ≡ None → rows spot ≡ None)
      → map.get new spot ≡ rows spot
  filled_at number spot at none = elim (map.get bytes number) as (λ found. map.get bytes number ≡ found → map.get new spot ≡ rows spot) [
    | None ↦ λ is.
        elim (fills.within none_within spot) [
          | inl same ↦ same
          | inr gone ↦ gone ∙ sym (none (none_decoded rows_bytes (AreRows definitions) (map.get bytes number) (map.get values number) is
              (held number)))
        ]
    | Some own ↦ λ is.
        subst (λ (s : SpotOf). map.get new s ≡ rows s) at
        (fills.gives none_within number (subst (λ (o : Option (List ℕ)). IsSome o) (sym is) refl) spot.table)
  ] refl

-- all rows are there, and no other
row_none : (found : Option (List TableRow)) (table : ℕ) → found ≡ None → row_in (kept_rows found) table ≡ None
row_none found table is = ap (λ (o : Option (List TableRow)). row_in (kept_rows o) table) is

unwanted : (b : Bool) (found : Option Row) → found ≡ None → (if b then found else None) ≡ None
unwanted true found none = none
unwanted false found none = refl

module _ (definitions : List TableDef) (wanted : Option ℕ) (kept : ℕ → BucketMap) (maps : Maps) (new : TableMap)
    (nodes : HoldsMap rows_bytes (AreRows definitions) (kept 6) maps.node_rows)
    (others : HoldsMap rows_bytes (AreRows definitions) (kept 7) maps.other_rows)
    (first : Fills 6 (wanted_row wanted maps) (λ n. IsSome (map.get (kept 6) n)) map.empty new)
    (second : Fills 7 (wanted_row wanted maps) (λ n. IsSome (map.get (kept 7) n)) map.empty new) where
  none_here : (table : ℕ) (found : Option Row) → found ≡ None → (if is_wanted wanted table then found else None) ≡ None
  none_here table found none = unwanted (is_wanted wanted table) found none

  pub loaded_at : (table : ℕ) (kind : Kind) (id : ℕ) → map.get new (record { table = table; key = record { kind = kind; id = id } })
      ≡ wanted_row wanted maps (record { table = table; key = record { kind = kind; id = id } })
  loaded_at table kinds.Node id =
      filled_at (wanted_row wanted maps) definitions 6 (kept 6) maps.node_rows new nodes first id
      (record { table = table; key = record { kind = kinds.Node; id = id } })
      refl (λ none. none_here table (row_in (kept_rows (map.get maps.node_rows id)) table)
      (row_none (map.get maps.node_rows id) table none))
  loaded_at table kinds.Way id =
      filled_at (wanted_row wanted maps) definitions 7 (kept 7) maps.other_rows new others second (2 * id)
      (record { table = table; key = record { kind = kinds.Way; id = id } }) (way_spot id table)
      (λ none. none_here table (row_in (kept_rows (map.get maps.other_rows (2 * id))) table)
      (row_none (map.get maps.other_rows (2 * id)) table none))
  loaded_at table kinds.Relation id =
      filled_at (wanted_row wanted maps) definitions 7 (kept 7) maps.other_rows new others second (2 * id + 1)
      (record { table = table; key = record { kind = kinds.Relation; id = id } }) (relation_spot id table)
      (λ none. none_here table (row_in (kept_rows (map.get maps.other_rows (2 * id + 1))) table)
      (row_none (map.get maps.other_rows (2 * id + 1)) table none))
