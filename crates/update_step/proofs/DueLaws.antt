-- The tiles that rows of keys make due are those that the tables do.
use Rattle.std.proofs.Common.{◌≡◌, ◌<◌, ◌≤◌, ℕ, zero, suc, ◌+◌, Bool, true, false, not, ◌&&◌, ◌||◌, List, [], ◌∷◌, ◌++◌, length, Option}
use Rattle.std.proofs.Common.{Some, None, refl, sym, ap, ◌∙◌, arith, inl, inr, ◌⊎◌}
use mathlib.Core.Bool.{false≢true}
use Rattle.std.specs.Cmp.{Equal-is}
use Rattle.std.specs.declared.cmp.Ordering.{Ordering}
use Rattle.std.specs.FinMap as finite
use Rattle.std.specs.FinMap.{IsAntisymmetric}
use Rattle.std.specs.List.{list_any, range_with_len, slice_get}
use Rattle.std.specs.Option.{is_some}
use Rattle.std.specs.Ordering.{eq_by_cmp}
use Rattle.std.proofs.lemmas.Bool.{cases_eq, cases_lt}
use Rattle.std.proofs.lemmas.List.Folds.{list_any-append}
use Rattle.osm_base.specs.declared.values.row.Row.{Row}
use Rattle.osm_base.specs.declared.values.row.TableRow.{TableRow}
use Rattle.osm_base.specs.map.Spots.{SpotOf, TableMap, spot_cmp}
use Rattle.osm_base.specs.values.Key.{KeyOf}
use Rattle.osm_base.specs.values.KeyOrder.{key_cmp}
use Rattle.osm_base.proofs.KeyLaws.{key_cmp-IsAntisymmetric}
use Rattle.osm_base.proofs.SpotOrder.{spot_cmp-IsAntisymmetric}
use Rattle.style_read.specs.declared.style.TableDef.{TableDef}
use Rattle.style_read.specs.Style.{StyleOf}
use Rattle.store_maps.specs.Delta.{RowsAt, row_in}
use Rattle.store_maps.specs.SameRows.{same_found}
use Rattle.store_maps.proofs.RowEquality.{same_found-itself}
use Rattle.tile_cover.specs.Table.{BoundsOf}
use Rattle.update_step.specs.Due.{differs_at, due_of, is_due_at, is_due_key, met_under}

alike : (a b : Bool) → (a ≡ true → b ≡ true) → (b ≡ true → a ≡ true) → a ≡ b
alike true b one other = sym (one refl)
alike false true one other = other refl
alike false false one other = refl

both : (a b : Bool) → (a && b) ≡ true → (a ≡ true) × (b ≡ true)
both true b e = (refl, e)
both false b e = absurd (false≢true e)

or-true : (a b : Bool) → b ≡ true → (a || b) ≡ true
or-true true b is = refl
or-true false b is = is

or-left : (a b : Bool) → a ≡ true → (a || b) ≡ true
or-left a b is = ap (λ own. own || b) is

-- something of a list passes
any_one : {A G : Type 0} (test : A → Bool) (xs : List A) → ((x : A) → test x ≡ true → G) → list_any test xs ≡ true → G
any_one test [] each e = absurd (false≢true e)
any_one {A} {G} test (x ∷ xs) each e = elim (test x) as (λ b. test x ≡ b → (b || list_any test xs) ≡ true → G) [
  | true ↦ λ is _. each x is
  | false ↦ λ _ later. any_one test xs each later
] refl e

-- what is there passes
any_there : {K : Type 0} {R : K → K → Ordering} → IsAntisymmetric R → (test : K → Bool) (own : K) (xs : List K)
    → list_any (eq_by_cmp R own) xs ≡ true → test own ≡ true → list_any test xs ≡ true
any_there same test own [] there is = absurd (false≢true there)
any_there {R = R} same test own (x ∷ xs) there is =
    elim (eq_by_cmp R own x) as (λ b. eq_by_cmp R own x ≡ b → (b || list_any (eq_by_cmp R own) xs) ≡ true
    → (test x || list_any test xs) ≡ true) [
      | true ↦ λ tied _. or-left (test x) (list_any test xs) (ap test (sym (same own x ((Equal-is (R own x)).0 tied))) ∙ is)
      | false ↦ λ _ later. or-true (test x) (list_any test xs) (any_there same test own xs later is)
    ] refl there

in_range : (test : ℕ → Bool) (own first count : ℕ) → first ≤ own → own < first + count → test own ≡ true
    → list_any test (range_with_len first count) ≡ true
in_range test own first zero least most is = absurd (omega (arith, least, most))
in_range test own first (suc count) least most is = elim (cases_eq own first) [
  | inl same ↦ or-left (test first) (list_any test (range_with_len (first + 1) count)) (ap test (sym same) ∙ is)
  | inr other ↦ or-true (test first) (list_any test (range_with_len (first + 1) count))
      (in_range test own (first + 1) count (omega (arith, least, other)) (omega (arith, most)) is)
]

some_met : (definition : Option TableDef) (bounds : BoundsOf) (row : Option Row) (zoom x y : ℕ)
    → met_under definition bounds row zoom x y ≡ true → is_some row ≡ true
some_met None bounds row zoom x y e = absurd (false≢true e)
some_met (Some definition) bounds None zoom x y e = absurd (false≢true e)
some_met (Some definition) bounds (Some row) zoom x y e = refl

one_of : (a b : Bool) → (a || b) ≡ true → (a ≡ true) ⊎ (b ≡ true)
one_of true b e = inl refl
one_of false b e = inr e

not_so : (b : Bool) → not b ≡ true → b ≡ true → ⊥
not_so true is e = false≢true is
not_so false is e = false≢true e

module _ (style : StyleOf) (bounds : BoundsOf) (before after : TableMap) (zoom x y : ℕ) where
  abbrev due : SpotOf → Bool
  due spot = is_due_at style bounds before after zoom x y spot

  abbrev at : ℕ → KeyOf → SpotOf
  at table key = record { table = table; key = key }

  abbrev met : ℕ → Option Row → Bool
  met table row = met_under (slice_get style.tables table) bounds row zoom x y

  -- a spot that is due has a row before or after
  kept : (spot : SpotOf) → due spot ≡ true → list_any (eq_by_cmp spot_cmp spot) (finite.keys before ++ finite.keys after) ≡ true
  kept spot is =
      let p = both (not (same_found (finite.get before spot) (finite.get after spot)))
      (met spot.table (finite.get before spot) || met spot.table (finite.get after spot)) is in
      list_any-append (eq_by_cmp spot_cmp spot) (finite.keys before) (finite.keys after)
      ∙ elim (one_of (met spot.table (finite.get before spot)) (met spot.table (finite.get after spot)) p.1) [
        | inl old ↦ or-left (list_any (eq_by_cmp spot_cmp spot) (finite.keys before))
            (list_any (eq_by_cmp spot_cmp spot) (finite.keys after))
            (sym (finite.contains_key-keys before spot)
            ∙ some_met (slice_get style.tables spot.table) bounds (finite.get before spot) zoom x y old)
        | inr new ↦ or-true (list_any (eq_by_cmp spot_cmp spot) (finite.keys before))
            (list_any (eq_by_cmp spot_cmp spot) (finite.keys after))
            (sym (finite.contains_key-keys after spot)
            ∙ some_met (slice_get style.tables spot.table) bounds (finite.get after spot) zoom x y new)
      ]

  differs : (spot : SpotOf) → due spot ≡ true → finite.get before spot ≡ finite.get after spot → ⊥
  differs spot is same =
      let p = both (not (same_found (finite.get before spot) (finite.get after spot)))
      (met spot.table (finite.get before spot) || met spot.table (finite.get after spot)) is in
      not_so (same_found (finite.get before spot) (finite.get after spot)) p.0
      (ap (same_found (finite.get before spot)) (sym same) ∙ same_found-itself (finite.get before spot))

  module _ (keys : List KeyOf) where
    abbrev at_keys : Bool
    at_keys = list_any (λ key. list_any (λ table. due (at table key)) (range_with_len 0 (length style.tables))) keys

    abbrev at_spots : Bool
    at_spots = list_any due (finite.keys before ++ finite.keys after)

    forth : at_keys ≡ true → at_spots ≡ true
    forth is = any_one (λ key. list_any (λ table. due (at table key)) (range_with_len 0 (length style.tables))) keys
        (λ key inner. any_one (λ table. due (at table key)) (range_with_len 0 (length style.tables))
        (λ table here. any_there spot_cmp-IsAntisymmetric due (at table key) (finite.keys before ++ finite.keys after)
        (kept (at table key) here) here) inner) is

    module _ (past : (spot : SpotOf) → length style.tables ≤ spot.table → finite.get before spot ≡ finite.get after spot)
        (outside : (spot : SpotOf) → list_any (eq_by_cmp key_cmp spot.key) keys ≡ false → finite.get before spot ≡ finite.get after spot)
      where
        here : (spot : SpotOf) → due spot ≡ true → at_keys ≡ true
        here spot is = elim (cases_lt spot.table (length style.tables)) [
          | inr behind ↦ absurd (differs spot is (past spot behind))
          | inl below ↦ elim (list_any (eq_by_cmp key_cmp spot.key) keys) as
              (λ b. list_any (eq_by_cmp key_cmp spot.key) keys ≡ b → at_keys ≡ true) [
                | true ↦ λ among. any_there key_cmp-IsAntisymmetric
                    (λ key. list_any (λ table. due (at table key)) (range_with_len 0 (length style.tables))) spot.key keys among
                    (in_range (λ table. due (at table spot.key)) spot.table 0 (length style.tables) (omega arith) (omega (arith, below)) is)
                | false ↦ λ none. absurd (differs spot is (outside spot none))
              ] refl
        ]

        pub at_keys-is : at_keys ≡ due_of style bounds before after zoom x y
        unfolding due_of
        at_keys-is = alike at_keys at_spots forth (any_one due (finite.keys before ++ finite.keys after) here)

-- with the rows of each key in lists
pub due-of-keys : (style : StyleOf) (bounds : BoundsOf) (before after : TableMap) (old new : KeyOf → List TableRow) (keys : List KeyOf)
    → ((spot : SpotOf) → row_in (old spot.key) spot.table ≡ finite.get before spot)
    → ((spot : SpotOf) → row_in (new spot.key) spot.table ≡ finite.get after spot)
    → ((spot : SpotOf) → length style.tables ≤ spot.table → finite.get before spot ≡ finite.get after spot)
    → ((spot : SpotOf) → list_any (eq_by_cmp key_cmp spot.key) keys ≡ false → finite.get before spot ≡ finite.get after spot)
    → (zoom x y : ℕ) → list_any (λ key. is_due_key style bounds (old key) (new key) zoom x y) keys
    ≡ due_of style bounds before after zoom x y
due-of-keys style bounds before after old new keys was is past outside zoom x y =
    ap (λ (rows : RowsAt). list_any (λ key. list_any
    (λ table. differs_at style bounds table (rows (record { table = table; key = key })) (row_in (new key) table) zoom x y)
    (range_with_len 0 (length style.tables))) keys) (λ i spot. was spot i)
    ∙ ap (λ (rows : RowsAt). list_any (λ key.
    list_any (λ table. differs_at style bounds table (finite.get before (record { table = table; key = key }))
    (rows (record { table = table; key = key })) zoom x y) (range_with_len 0 (length style.tables))) keys) (λ i spot. is spot i)
    ∙ at_keys-is style bounds before after zoom x y keys past outside
