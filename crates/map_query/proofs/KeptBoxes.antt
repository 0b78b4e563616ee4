-- Boxes that change with the rows that they are of.
use Rattle.std.proofs.Common.{◌≡◌, Bool, true, false, cond, List, [], ◌∷◌, Option, Some, None, refl, sym, ap, ◌∙◌}
use Rattle.std.specs.FinMap as finite
use Rattle.std.specs.Ordering.{eq_by_cmp}
use Rattle.osm_base.specs.declared.values.place.GeoBox.{GeoBox}
use Rattle.osm_base.specs.declared.values.row.Row.{Row}
use Rattle.osm_base.specs.declared.values.row.RowChange.{RowChange}
use Rattle.osm_base.specs.map.Spots.{SpotOf, TableMap, changed, spot_cmp, spot_of, with_row}
use Rattle.osm_base.proofs.SpotOrder.{spot_cmp-IsAntisymmetric, spot_cmp_total}
use Rattle.grid_index.specs.Grid.{BoxMap, with_box}
use Rattle.map_query.specs.RowBoxes.{IsBoxed, box_in, boxes_from}

pub get_with_row : (tables : TableMap) (spot : SpotOf) (row : Option Row) (other : SpotOf)
    → finite.get (with_row tables spot row) other ≡ cond (eq_by_cmp spot_cmp other spot) row (finite.get tables other)
get_with_row tables spot None other = finite.get-remove spot_cmp_total tables spot other
get_with_row tables spot (Some row) other = finite.get-insert spot_cmp_total tables spot row other

get_with_box : (boxes : BoxMap) (spot : SpotOf) (around : Option GeoBox) (other : SpotOf)
    → finite.get (with_box boxes spot.table spot.key around) other ≡ cond (eq_by_cmp spot_cmp other spot) around (finite.get boxes other)
get_with_box boxes spot None other = finite.get-remove spot_cmp_total boxes spot other
get_with_box boxes spot (Some around) other = finite.get-insert spot_cmp_total boxes spot around other

either_box : (b : Bool) (row found : Option Row) (around : Option GeoBox) → around ≡ box_in found
    → cond b (box_in row) around ≡ box_in (cond b row found)
either_box true row found around e = refl
either_box false row found around e = e

-- a row and its box change together
pub boxed_row : (tables : TableMap) (boxes : BoxMap) (spot : SpotOf) (row : Option Row) → IsBoxed tables boxes
    → IsBoxed (with_row tables spot row) (with_box boxes spot.table spot.key (box_in row))
boxed_row tables boxes spot row is other =
    get_with_box boxes spot (box_in row) other
    ∙ either_box (eq_by_cmp spot_cmp other spot) row (finite.get tables other) (finite.get boxes other) (is other)
    ∙ ap box_in (sym (get_with_row tables spot row other))

pub boxed_change : (tables : TableMap) (boxes : BoxMap) (change : RowChange) → IsBoxed tables boxes
    → IsBoxed (changed tables change) (with_box boxes change.table change.key (box_in change.row))
boxed_change tables boxes change is = boxed_row tables boxes (spot_of change) change.row is

-- the boxes of rows, one after the other
pub boxed_from : (rows : List (SpotOf × Row)) → IsBoxed (finite.from_entries {R = spot_cmp} rows) (boxes_from rows)
boxed_from [] = λ spot. finite.get-empty spot_cmp spot ∙ ap box_in (sym (finite.get-empty spot_cmp spot))
boxed_from (entry ∷ rows) = boxed_row (finite.from_entries rows) (boxes_from rows) entry.0 (Some entry.1) (boxed_from rows)

-- tables have only one map of boxes
pub same_boxes : (tables : TableMap) (one other : BoxMap) → IsBoxed tables one → IsBoxed tables other → one ≡ other
same_boxes tables one other is too = finite.same_map spot_cmp_total spot_cmp-IsAntisymmetric one other (λ spot. is spot ∙ sym (too spot))
