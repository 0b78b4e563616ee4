use Rattle.std.proofs.Common.{sym, subst}
use Rattle.std.specs.Option.{IsSome}
use Rattle.std.specs.FinMap as map
use Rattle.osm_base.specs.map.Spots.{TableMap}
use Rattle.row_store.specs.Loading.{Fills}
use Rattle.value_bytes.specs.StoreMap.{map_number}
use Rattle.value_bytes.specs.declared.store_map.StoreMap.TheVariants.{NodeRows, OtherRows}
use Rattle.row_store.proofs.loading.load_sorted.Goals as goal

pub returns-in-Ok-clause-nodes : goal.returns-in-Ok-clause-nodes
returns-in-Ok-clause-nodes g c rest now rows has nodes others =
    let Filled = Fills (map_number NodeRows) rows (λ n. IsSome (map.get (now.maps (map_number NodeRows)) n)) in
    subst (λ (found : TableMap). Filled map.empty found) (sym c.in-Ok.ensures.same)
    (subst (λ (old : TableMap). Filled old c.add_maps.new.tables) c.new-gathered.ensures.empty
    (c.in_default.ensures.nodes rest now rows has nodes others))

pub returns-in-Ok-clause-others : goal.returns-in-Ok-clause-others
returns-in-Ok-clause-others g c rest now rows has nodes others =
    let Filled = Fills (map_number OtherRows) rows (λ n. IsSome (map.get (now.maps (map_number OtherRows)) n)) in
    subst (λ (found : TableMap). Filled map.empty found) (sym c.in-Ok.ensures.same)
    (subst (λ (old : TableMap). Filled old c.add_maps.new.tables) c.new-gathered.ensures.empty
    (c.in_default.ensures.others rest now rows has nodes others))
