-- The map of all tables has at each spot the row that the definition says.
use Rattle.std.proofs.Common.{◌≡◌, ◌≢◌, ◌<◌, ◌≤◌, ℕ, zero, suc, ◌+◌, Bool, true, false, cond, List, [], ◌∷◌, ◌++◌, length, Option, Some}
use Rattle.std.proofs.Common.{None, refl, sym, ap, ◌∙◌, arith, inl, inr}
use Rattle.std.specs.Prelude.{◌&&◌, ◌||◌}
use Rattle.std.specs.declared.cmp.Ordering.{Ordering}
use Rattle.std.specs.declared.cmp.Ordering.TheVariants.{Less, Equal, Greater}
use Rattle.std.specs.Ordering.{eq_by_cmp, is_eq, nat_cmp, ordering_then}
use Rattle.std.specs.Cmp.{unsigned_tied}
use Rattle.std.specs.FinMap as finite
use Rattle.std.specs.List.{cons_option, filter_map, flat_map, list_any, range_with_len}
use Rattle.std.specs.Option.{is_some, option_and_then, option_map, option_or}
use Rattle.std.proofs.lemmas.Bool.{cases_eq, cases_lt}
use Rattle.std.proofs.lemmas.Bool.Decides.{nat_tests}
use Rattle.std.proofs.lemmas.Option.{slice_get_past}
use Rattle.osm_base.specs.declared.values.object.Object.{Object}
use Rattle.osm_base.specs.declared.values.row.Row.{Row}
use Rattle.osm_base.specs.map.Objects.{ObjectSet}
use Rattle.osm_base.specs.map.Spots.{SpotOf, spot_cmp}
use Rattle.osm_base.specs.values.Key.{KeyOf}
use Rattle.osm_base.specs.values.KeyOrder.{key_cmp}
use Rattle.osm_base.proofs.KeyLaws.{key_cmp-IsAntisymmetric}
use Rattle.osm_base.proofs.SpotOrder.{spot_cmp_total}
use Rattle.style_read.specs.Style.{StyleOf}
use Rattle.row_rules.specs.Material.{material_of}
use Rattle.row_rules.specs.Row.{row, row_of, tables}
use Rattle.row_rules.proofs.TableRows.{row_from-none}

is_eq-then : (first second : Ordering) → is_eq (ordering_then first second) ≡ (is_eq first && is_eq second)
is_eq-then Less second = refl
is_eq-then Equal second = refl
is_eq-then Greater second = refl

equal_of : (r : Ordering) → is_eq r ≡ true → r ≡ Equal
equal_of Less e = absurd (cc)
equal_of Equal e = refl
equal_of Greater e = absurd (cc)

either_way : {X : Type 0} (b : Bool) (x : X) → cond b x x ≡ x
either_way true x = refl
either_way false x = refl

or-none : {X : Type 0} (x : Option X) → option_or x None ≡ x
or-none None = refl
or-none (Some x) = refl

or-again : {X : Type 0} (x : Option X) (b : Bool) → option_or x (cond b x None) ≡ x
or-again None b = either_way b None
or-again (Some x) b = refl

abbrev at : ℕ → KeyOf → SpotOf
at table key = record { table = table; key = key }

module _ (spot : SpotOf) (rows : ℕ → KeyOf → Option Row) where
  abbrev found : List (SpotOf × Row) → Option Row
  found entries = finite.find spot_cmp spot entries

  abbrev entry_of : ℕ → KeyOf → Option (SpotOf × Row)
  entry_of table key = option_map (λ row. (at table key, row)) (rows table key)

  abbrev is_table : ℕ → Bool
  is_table table = eq_by_cmp nat_cmp spot.table table

  abbrev is_key : KeyOf → Bool
  is_key key = eq_by_cmp key_cmp spot.key key

  found-append : (one other : List (SpotOf × Row)) → found (one ++ other) ≡ option_or (found one) (found other)
  found-append [] other = refl
  found-append (first ∷ one) other =
      elim (eq_by_cmp spot_cmp spot first.0) as
      (λ b. cond b (Some first.1) (found (one ++ other)) ≡ option_or (cond b (Some first.1) (found one)) (found other)) [
        | true ↦ refl
        | false ↦ found-append one other
      ]

  -- one entry more in front
  found-first : (table : ℕ) (key : KeyOf) (own : Option Row) (rest : List (SpotOf × Row))
      → found (cons_option (option_map (λ row. (at table key, row)) own) rest)
      ≡ cond (is_table table && is_key key) (option_or own (found rest)) (found rest)
  found-first table key None rest = sym (either_way (is_table table && is_key key) (found rest))
  found-first table key (Some row) rest = ap (λ b. cond b (Some row) (found rest))
      (is_eq-then (nat_cmp spot.table table) (key_cmp spot.key key))

  found-elsewhere : (table : ℕ) → is_table table ≡ false → (keys : List KeyOf) → found (filter_map (entry_of table) keys) ≡ None
  found-elsewhere table other [] = refl
  found-elsewhere table other (key ∷ keys) =
      let rest = filter_map (entry_of table) keys in
      found-first table key (rows table key) rest
      ∙ ap (λ b. cond (b && is_key key) (option_or (rows table key) (found rest)) (found rest)) other
      ∙ found-elsewhere table other keys

  found-here : (table : ℕ) → is_table table ≡ true → (keys : List KeyOf)
      → found (filter_map (entry_of table) keys) ≡ cond (list_any is_key keys) (rows table spot.key) None
  found-here table here [] = refl
  found-here table here (key ∷ keys) =
      let rest = filter_map (entry_of table) keys in
      let later = found-here table here keys in
      found-first table key (rows table key) rest
      ∙ ap (λ b. cond (b && is_key key) (option_or (rows table key) (found rest)) (found rest)) here
      ∙ ap (λ x. cond (is_key key) (option_or (rows table key) x) x) later
      ∙ elim (is_key key) as (λ b. is_key key ≡ b
      → cond b (option_or (rows table key) (cond (list_any is_key keys) (rows table spot.key) None))
      (cond (list_any is_key keys) (rows table spot.key) None)
      ≡ cond (b || list_any is_key keys) (rows table spot.key) None) [
        | true ↦ λ same. ap (λ own. option_or (rows table own) (cond (list_any is_key keys) (rows table spot.key) None))
            (sym (key_cmp-IsAntisymmetric spot.key key (equal_of (key_cmp spot.key key) same)))
            ∙ or-again (rows table spot.key) (list_any is_key keys)
        | false ↦ λ _. refl
      ] refl

  module _ (keys : List KeyOf) where
    abbrev listed : ℕ → List (SpotOf × Row)
    listed table = filter_map (entry_of table) keys

    apart : (table : ℕ) → spot.table ≢ table → is_table table ≡ false
    apart table other = unsigned_tied spot.table table ∙ grind (arith, nat_tests)

    met : (table : ℕ) → spot.table ≡ table → is_table table ≡ true
    met table same = unsigned_tied spot.table table ∙ grind (arith, nat_tests)

    outside : (first count : ℕ) → ((table : ℕ) → first ≤ table → table < first + count → spot.table ≢ table)
        → found (flat_map listed (range_with_len first count)) ≡ None
    outside first zero other = refl
    outside first (suc count) other =
        found-append (listed first) (flat_map listed (range_with_len (first + 1) count))
        ∙ ap (λ x. option_or x (found (flat_map listed (range_with_len (first + 1) count))))
        (found-elsewhere first (apart first (other first (omega arith) (omega arith))) keys)
        ∙ outside (first + 1) count (λ table least most. other table (omega arith) (omega arith))

    inside : (first count : ℕ) → first ≤ spot.table → spot.table < first + count
        → found (flat_map listed (range_with_len first count)) ≡ cond (list_any is_key keys) (rows spot.table spot.key) None
    inside first zero least most = absurd (omega arith)
    inside first (suc count) least most =
        let rest = flat_map listed (range_with_len (first + 1) count) in
        found-append (listed first) rest
        ∙ elim (cases_eq spot.table first) [
          | inl same ↦
              ap (λ x. option_or x (found rest)) (found-here first (met first same) keys)
              ∙ ap (option_or (cond (list_any is_key keys) (rows first spot.key) None))
              (outside (first + 1) count (λ table low high again. absurd (omega arith)))
              ∙ or-none (cond (list_any is_key keys) (rows first spot.key) None)
              ∙ ap (λ table. cond (list_any is_key keys) (rows table spot.key) None) (sym same)
          | inr other ↦
              ap (λ x. option_or x (found rest)) (found-elsewhere first (apart first other) keys)
              ∙ inside (first + 1) count (omega arith) (omega arith)
        ]

-- a key that is not among the objects has no row
row-there : (style : StyleOf) (objects : ObjectSet) (table : ℕ) (key : KeyOf)
    → cond (list_any (eq_by_cmp key_cmp key) (finite.keys objects)) (row style objects table key) None ≡ row style objects table key
row-there style objects table key =
    go (finite.get objects key) refl (sym (finite.contains_key-keys objects key))
  where
    go : (object : Option Object) → finite.get objects key ≡ object
        → list_any (eq_by_cmp key_cmp key) (finite.keys objects) ≡ is_some (finite.get objects key)
        → cond (list_any (eq_by_cmp key_cmp key) (finite.keys objects)) (row style objects table key) None ≡ row style objects table key
    go None none listed = ap (λ b. cond b (row style objects table key) None) (listed ∙ ap is_some none)
        ∙ sym (row_from-none style table (material_of style objects key) key none)
    go (Some object) some listed = ap (λ b. cond b (row style objects table key) None) (listed ∙ ap is_some some)

-- a table that is not there has no row
row-past : (style : StyleOf) (objects : ObjectSet) (table : ℕ) (key : KeyOf) → length style.tables ≤ table
    → row style objects table key ≡ None
row-past style objects table key past =
    ap (option_and_then (λ definition. option_and_then (row_of style.selections (material_of style objects key) definition key)
    (finite.get objects key))) (slice_get_past style.tables table past)

-- what `tables` has at a spot is the row that `row` says of it
pub get-tables : (style : StyleOf) (objects : ObjectSet) (spot : SpotOf)
    → finite.get (tables style objects) spot ≡ row style objects spot.table spot.key
get-tables style objects spot =
    let count = length style.tables in
    let rows = λ (table : ℕ) (key : KeyOf). row style objects table key in
    let keys = finite.keys objects in
    finite.get-from_entries spot_cmp_total (flat_map (listed spot rows keys) (range_with_len 0 count)) spot
    ∙ elim (cases_lt spot.table count) [
      | inl below ↦ inside spot rows keys 0 count (omega arith) (omega arith) ∙ row-there style objects spot.table spot.key
      | inr past ↦ outside spot rows keys 0 count (λ table low high same. absurd (omega arith))
          ∙ sym (row-past style objects spot.table spot.key past)
    ]
