-- Changes in another order make the same of the tables, where those that may stand at one spot are in the order that they were in.
use Rattle.std.proofs.Common.{◌≡◌, ◌∙◌, Bool, true, false, ◌&&◌, not, cond, List, [], ◌∷◌, Option, None, Some, refl, sym, ap}
use mathlib.Core.Bool.{true≢false}
use Rattle.std.specs.Cmp.{Equal-is}
use Rattle.std.specs.FinMap as finite
use Rattle.std.specs.List.{filter}
use Rattle.std.specs.List.Sorted.{IsStableByKey, ties}
use Rattle.std.specs.Ordering.{is_lt}
use Rattle.std.proofs.lemmas.Cmp.{tied_itself}
use Rattle.std.specs.declared.cmp.Ordering.{Ordering}
use Rattle.osm_base.specs.declared.values.row.Row.{Row}
use Rattle.osm_base.specs.declared.values.row.RowChange.{RowChange}
use Rattle.osm_base.specs.map.Spots.{SpotOf, TableMap, changed, changed_all, spot_cmp, spot_of, with_row}
use Rattle.osm_base.specs.values.Key.{KeyOf}
use Rattle.osm_base.proofs.KeyLaws.{key_cmp_total, tree_cmp, tree_cmp-key_cmp}
use Rattle.osm_base.proofs.SpotOrder.{spot_cmp-IsAntisymmetric, spot_cmp_total}
use Rattle.store_maps.specs.Delta.{is_at}

-- what stands at a spot then
got : (tables : TableMap) (change : RowChange) (spot : SpotOf)
    → finite.get (changed tables change) spot ≡ cond (is_at spot (spot_of change)) change.row (finite.get tables spot)
got tables change spot = go change.row
  where
    go : (row : Option Row) → finite.get (with_row tables (spot_of change) row) spot
        ≡ cond (is_at spot (spot_of change)) row (finite.get tables spot)
    go None = finite.get-remove spot_cmp_total tables (spot_of change) spot
    go (Some row) = finite.get-insert spot_cmp_total tables (spot_of change) row spot

module _ (spot : SpotOf) (may : RowChange → Bool) (hit : (change : RowChange) → spot ≡ spot_of change → may change ≡ true) where
  apart : (change : RowChange) → may change ≡ false → is_at spot (spot_of change) ≡ false
  apart change none = elim (is_at spot (spot_of change)) as (λ b. is_at spot (spot_of change) ≡ b → b ≡ false) [
    | true ↦ λ same. absurd (true≢false (sym (hit change (spot_cmp-IsAntisymmetric spot (spot_of change)
        ((Equal-is (spot_cmp spot (spot_of change))).0 same))) ∙ none))
    | false ↦ λ _. refl
  ] refl

  -- of changes those alone count that may stand there
  chosen : (changes : List RowChange) (one other : TableMap) → finite.get one spot ≡ finite.get other spot
      → finite.get (changed_all one changes) spot ≡ finite.get (changed_all other (filter may changes)) spot
  chosen [] one other same = same
  chosen (change ∷ changes) one other same = elim (may change) as (λ b. may change ≡ b
      → finite.get (changed_all (changed one change) changes) spot
      ≡ finite.get (changed_all other (cond b (change ∷ filter may changes) (filter may changes))) spot) [
        | true ↦ λ _. chosen changes (changed one change) (changed other change)
            (got one change spot ∙ ap (cond (is_at spot (spot_of change)) change.row) same ∙ sym (got other change spot))
        | false ↦ λ no. chosen changes (changed one change) other
            (got one change spot ∙ ap (λ b. cond b change.row (finite.get one spot)) (apart change no) ∙ same)
      ] refl

pub same_changes : (one other : List RowChange) (may : SpotOf → RowChange → Bool)
    → ((spot : SpotOf) (change : RowChange) → spot ≡ spot_of change → may spot change ≡ true)
    → ((spot : SpotOf) → filter (may spot) other ≡ filter (may spot) one) → (tables : TableMap)
    → changed_all tables other ≡ changed_all tables one
same_changes one other may hit same tables =
    finite.same_map spot_cmp_total spot_cmp-IsAntisymmetric (changed_all tables other) (changed_all tables one)
    (λ spot. chosen spot (may spot) (hit spot) other tables tables refl
    ∙ ap (λ (l : List RowChange). finite.get (changed_all tables l) spot) (same spot)
    ∙ sym (chosen spot (may spot) (hit spot) one tables tables refl))

-- A sort by keys.

abbrev probe : SpotOf → RowChange
probe spot = record { table = spot.table; key = spot.key; row = None }

abbrev has_key : SpotOf → RowChange → Bool
has_key spot change = ties (λ (x y : RowChange). is_lt (tree_cmp x.key y.key)) (probe spot) change

never_below : (key : KeyOf) → is_lt (tree_cmp key key) ≡ false
never_below key =
    ap (λ (cmp : KeyOf → KeyOf → Ordering). is_lt (cmp key key)) tree_cmp-key_cmp ∙ ap is_lt (tied_itself key_cmp_total key)

at_spot : (spot : SpotOf) (change : RowChange) → spot ≡ spot_of change → has_key spot change ≡ true
at_spot spot change is =
    ap (λ (own : SpotOf). not (is_lt (tree_cmp own.key change.key)) && not (is_lt (tree_cmp change.key own.key))) is
    ∙ ap (λ (b : Bool). not b && not b) (never_below change.key)

pub same_by_keys : (one other : List RowChange) → IsStableByKey (λ (change : RowChange). change.key) tree_cmp one other
    → (tables : TableMap) → changed_all tables other ≡ changed_all tables one
same_by_keys one other stable = same_changes one other has_key at_spot (λ spot. stable (probe spot))
