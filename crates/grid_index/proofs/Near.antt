-- A search finds all that is wanted.
use Rattle.std.proofs.Common.{◌≡◌, ℕ, ◌/◌, ◌≤◌, ◌==◌, ℤ, Bool, true, false, cond, ◌&&◌, ◌||◌, List, Option, Some, None, refl, sym, ◌∙◌, ap}
use Rattle.std.proofs.Common.{subst, inl, inr, arith}
use Rattle.std.specs.Prelude.{nat_le, int_le}
use Rattle.std.specs.Option.{option_map_or}
use Rattle.std.specs.FinMap as finite
use Rattle.std.proofs.Math.Nat.{div-mul-le_self}
use Rattle.std.proofs.lemmas.Bool.{eqb-true}
use Rattle.std.proofs.lemmas.Bool.Decides.{nat_tests}
use Rattle.std.proofs.lemmas.Int.{ints}
use Rattle.std.proofs.lemmas.Nat.{le-div}
use Rattle.osm_base.specs.declared.values.place.GeoBox.{GeoBox}
use Rattle.osm_base.specs.map.Spots.{SpotOf}
use Rattle.osm_base.proofs.SpotOrder.{spot_cmp_total, spot_cmp-IsAntisymmetric}
use Rattle.lanes_geo.specs.Box.{meets}
use Rattle.grid_index.specs.declared.marks.Mark.{Mark}
use Rattle.grid_index.specs.Cells.{cells_of, column, from_edge, is_candidate, is_wide, level_of, part, row, share}
use Rattle.grid_index.specs.Grid.{BoxMap, is_wanted, wanted}
use Rattle.grid_index.specs.Marks.{IsMarked, has, mark_of, mark_number}
use Rattle.grid_index.specs.Search.{CoversLevel, IsDone, IsPart, passes}
use Rattle.grid_index.proofs.Levels.{level_of-small, reached}
use Rattle.grid_index.proofs.Marked.{AreMarked}
use Rattle.grid_index.proofs.Walks.{get-wanted}

-- ---- boxes that meet share a cell

edge_mono : (one other : ℤ) → int_le one other ≡ true → from_edge 1800000000 one ≤ from_edge 1800000000 other
edge_mono one other h = grind (arith, ints)

pole_mono : (one other : ℤ) → int_le one other ≡ true → from_edge 900000000 one ≤ from_edge 900000000 other
pole_mono one other h = grind (arith, ints)

cell_mono : (one other : ℕ) → one ≤ other → nat_le (one / 4194304) (other / 4194304) ≡ true
cell_mono one other h =
    let below : one / 4194304 ≤ other / 4194304 =
    le-div (one / 4194304) other 4194304 (omega arith) (omega (arith, h, div-mul-le_self one 4194304)) in
    grind (arith, nat_tests)

column_mono : (one other : ℤ) → int_le one other ≡ true → nat_le (column one) (column other) ≡ true
column_mono one other h = cell_mono (from_edge 1800000000 one) (from_edge 1800000000 other) (edge_mono one other h)

row_mono : (one other : ℤ) → int_le one other ≡ true → nat_le (row one) (row other) ≡ true
row_mono one other h = cell_mono (from_edge 900000000 one) (from_edge 900000000 other) (pole_mono one other h)

both_true : (a b : Bool) → (a && b) ≡ true → (a ≡ true) × (b ≡ true)
both_true true b e = (refl, e)
both_true false b e = absurd (cc)

and_true : (a b : Bool) → a ≡ true → b ≡ true → (a && b) ≡ true
and_true true b e f = f
and_true false b e f = absurd (cc)

or_true : (a b : Bool) → b ≡ true → (a || b) ≡ true
or_true true b e = refl
or_true false b e = e

met_shares : (asked box : GeoBox) → meets asked box ≡ true → share (cells_of asked) (cells_of box) ≡ true
met_shares asked box h =
    let a = both_true _ _ h in
    let b = both_true _ _ a.0 in
    let c = both_true _ _ a.1 in
    and_true _ _ (and_true _ _ (column_mono box.west asked.east b.0) (column_mono asked.west box.east b.1))
    (and_true _ _ (row_mono box.south asked.north c.0) (row_mono asked.south box.north c.1))

near_of : (exact : Bool) (asked box : GeoBox) → passes exact asked box ≡ true → is_candidate asked box ≡ true
near_of true asked box h = or_true (is_wide box) (share (cells_of asked) (cells_of box)) (met_shares asked box h)
near_of false asked box h = h

-- ---- all is found

number_mono : (level column one other : ℕ) → one ≤ other → mark_number level column one ≤ mark_number level column other
unfolding mark_number
number_mono level column one other h = omega (arith, h)

covered_box : (exact : Bool) (asked : GeoBox) (marks : List Mark) (W found : BoxMap) (spot : SpotOf) (box : GeoBox)
    → has marks (mark_of spot box) ≡ true
    → ((level : ℕ) → level ≤ 11 → CoversLevel marks spot.table W found level (cells_of asked)) → passes exact asked box ≡ true
    → IsDone W found spot
covered_box exact asked marks W found spot box marked covers passed =
    let r = reached (cells_of asked) (cells_of box) (near_of exact asked box passed) in
    let level = level_of (cells_of box) in
    covers level (level_of-small (cells_of box)) (part level (cells_of box).west) r.west r.east (mark_of spot box) marked refl
    (number_mono level (part level (cells_of box).west) (part level (cells_of asked).south) (part level (cells_of box).south) r.south)
    (number_mono level (part level (cells_of box).west) (part level (cells_of box).south) (part level (cells_of asked).north) r.north)

pub whole : (exact : Bool) (asked : GeoBox) (marks : List Mark) (boxes found : BoxMap) (table : ℕ) → AreMarked marks boxes
    → IsPart (wanted (passes exact asked) boxes table) found
    → ((level : ℕ) → level ≤ 11 → CoversLevel marks table (wanted (passes exact asked) boxes table) found level (cells_of asked))
    → found ≡ wanted (passes exact asked) boxes table
whole exact asked marks boxes found table marked part covers =
    finite.same_map spot_cmp_total spot_cmp-IsAntisymmetric found W (λ spot. elim (part spot) [ inl none ↦ at spot none | inr done ↦ done ])
  where
    W : BoxMap
    W = wanted (passes exact asked) boxes table

    boxed : (spot : SpotOf) (box : Option GeoBox) → finite.get boxes spot ≡ box → IsMarked marks spot box → (spot.table == table) ≡ true
        → option_map_or (passes exact asked) box false ≡ true → IsDone W found spot
    boxed spot None e m same passed = absurd (cc)
    boxed spot (Some box) e m same passed =
        covered_box exact asked marks W found spot box m
        (λ level small. subst (λ table. CoversLevel marks table W found level (cells_of asked)) (sym (eqb-true _ _ same))
        (covers level small)) passed

    at : (spot : SpotOf) → finite.get found spot ≡ None → IsDone W found spot
    at spot none = go (is_wanted (passes exact asked) boxes table spot) refl
      where
        go : (b : Bool) → is_wanted (passes exact asked) boxes table spot ≡ b → IsDone W found spot
        go false e = none ∙ sym (get-wanted (passes exact asked) boxes table spot ∙ ap (λ b. cond b (finite.get boxes spot) None) e)
        go true e =
            let both = both_true _ _ e in
            boxed spot (finite.get boxes spot) refl (marked spot) both.0 both.1
