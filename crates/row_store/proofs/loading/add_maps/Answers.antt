-- The rows of nodes stay while the others come.
use Rattle.std.specs.Option.{IsSome}
use Rattle.std.specs.FinMap as map
use Rattle.row_store.proofs.LoadLaws.{fills_before, fills_beside}
use Rattle.value_bytes.specs.StoreMap.{map_number}
use Rattle.value_bytes.specs.declared.store_map.StoreMap.TheVariants.{NodeRows, OtherRows}
use Rattle.row_store.proofs.loading.add_maps.Goals as goal

pub returns-in-Err-clause-sound : goal.returns-in-Err-clause-sound
returns-in-Err-clause-sound g c rest now rows has nodes others = c.in-Err.ensures.sound rest now rows has nodes

pub returns-in-Ok-clause-nodes : goal.returns-in-Ok-clause-nodes
returns-in-Ok-clause-nodes g c rest now rows has nodes others =
    fills_beside (map_number NodeRows) (map_number OtherRows) rows (λ n. IsSome (map.get (now.maps (map_number NodeRows)) n))
    (λ n. IsSome (map.get (now.maps (map_number OtherRows)) n))
    (g.F.Filled.tables c.args.tables.now)
    (g.F.Filled.tables c.add_map.new.tables) (g.F.Filled.tables c.add_map-2.new.tables) (c.in_default.ensures.filled rest now rows has nodes)
    (c.in-Ok.ensures.filled rest now rows (c.in_default.ensures.looks.has rest now has) others)

pub returns-in-Ok-clause-others : goal.returns-in-Ok-clause-others
returns-in-Ok-clause-others g c rest now rows has nodes others =
    fills_before (map_number NodeRows) (map_number OtherRows) rows (λ n. IsSome (map.get (now.maps (map_number NodeRows)) n))
    (λ n. IsSome (map.get (now.maps (map_number OtherRows)) n))
    (g.F.Filled.tables c.args.tables.now)
    (g.F.Filled.tables c.add_map.new.tables) (g.F.Filled.tables c.add_map-2.new.tables) (c.in_default.ensures.filled rest now rows has nodes)
    (c.in-Ok.ensures.filled rest now rows (c.in_default.ensures.looks.has rest now has) others)

pub returns-in-Err-add_map-clause-sound : goal.returns-in-Err-add_map-clause-sound
returns-in-Err-add_map-clause-sound g c rest now rows has nodes others =
    c.in-Err-add_map.ensures.sound rest now rows (c.in_default.ensures.looks.has rest now has) others

pub returns-in-Ok-clause-spelled : goal.returns-in-Ok-clause-spelled
returns-in-Ok-clause-spelled g c rest now has =
    (c.in_default.ensures.spelled rest now has, c.in-Ok.ensures.spelled rest now (c.in_default.ensures.looks.has rest now has))
