-- The number of rows of a table among others.
use Rattle.std.proofs.Common.{◌≡◌, ℕ, suc, ◌≤◌, ◌==◌, true, false, cond, List, [], ◌∷◌, length, map, filter, refl, ap, arith}
use denote.Ref.{Bor}
use Rattle.osm_base.specs.declared.values.row.Row.{Row}
use Rattle.osm_base.specs.map.Spots.{SpotOf}
use Rattle.osm_base.specs.values.Key.{KeyOf}
use Rattle.row_text.specs.Numbered.{rows_among}

-- no more rows stand in a table than there are
pub few_among : (table : ℕ) (rows : List (SpotOf × Row)) → length (rows_among table rows) ≤ length rows
few_among table [] = omega arith
few_among table (own ∷ rows) =
    let fewer : List (SpotOf × Row) = filter (λ (spot, row). spot.table == table) rows in
    elim (own.0.table == table) as (λ b. length (map {B = KeyOf × Row} (λ (spot, row). (spot.key, row)) (cond b (own ∷ fewer) fewer))
    ≤ length (own ∷ rows)) [
      | true ↦ omega (arith, few_among table rows)
      | false ↦ omega (arith, few_among table rows)
    ]

-- nor among those that a walk over a tree has shown
pub few_yielded : (table : ℕ) (yielded : List (Bor SpotOf × Bor Row))
    → length (rows_among table (map (λ own. (own.0.now, own.1.now)) yielded)) ≤ length yielded
few_yielded table yielded = omega (arith, few_among table (map (λ own. (own.0.now, own.1.now)) yielded), shown yielded)
  where
    shown : (yielded : List (Bor SpotOf × Bor Row))
        → length (map {B = SpotOf × Row} (λ own. (own.0.now, own.1.now)) yielded) ≡ length yielded
    shown [] = refl
    shown (own ∷ rest) = ap suc (shown rest)
