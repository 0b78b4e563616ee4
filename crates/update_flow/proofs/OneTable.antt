-- The rows of one table among those of all.
use Rattle.std.proofs.Common.{◌≡◌, ℕ, Bool, Option, Some, None, refl, sym, ap, ◌∙◌, arith, nat_eq}
use Rattle.std.specs.Prelude.{if◌then◌else◌}
use Rattle.std.specs.FinMap as map
use Rattle.std.specs.FinMap.Entries.{find-where_key}
use Rattle.std.proofs.lemmas.Bool.Decides.{nat_tests}
use Rattle.osm_base.proofs.SpotOrder.{spot_cmp_total, spot_cmp-IsAntisymmetric}
use Rattle.osm_base.specs.declared.values.row.Row.{Row}
use Rattle.osm_base.specs.map.Spots.{SpotOf, TableMap, spot_cmp}
use Rattle.row_store.specs.Loading.{is_wanted}
use Rattle.update_flow.specs.Changes.{only_table}
use Rattle.update_flow.specs.Within.{wanted_of}

turned : (a b : ℕ) → nat_eq a b ≡ nat_eq b a
turned a b = grind (arith, nat_tests)

only_get : (table : ℕ) (all : TableMap) (spot : SpotOf)
    → map.get (only_table table all) spot ≡ (if nat_eq spot.table table then map.get all spot else None)
only_get table all spot =
    map.get-from_entries spot_cmp_total _ spot
    ∙ find-where_key spot_cmp (λ (s : SpotOf). nat_eq s.table table) spot
    (λ other tied. ap (λ (s : SpotOf). nat_eq s.table table) (sym (spot_cmp-IsAntisymmetric spot other tied))) (map.entries all)
    ∙ ap (λ (found : Option Row). if nat_eq spot.table table then found else None) (sym (map.get-entries all spot))

-- of the tables that are wanted stand the rows that all have there
pub wanted_get : (wanted : Option ℕ) (all : TableMap) (spot : SpotOf)
    → map.get (wanted_of wanted all) spot ≡ (if is_wanted wanted spot.table then map.get all spot else None)
wanted_get None all spot = refl
wanted_get (Some table) all spot =
    only_get table all spot ∙ ap (λ (here : Bool). if here then map.get all spot else None) (turned spot.table table)
