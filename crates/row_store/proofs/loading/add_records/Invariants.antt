use Rattle.std.proofs.Common.{take}
use Rattle.std.specs.List.{AllByRecursion}
use Rattle.row_store.specs.Loading.{Among, AreRowsOf, Fills, IsTold, RowsBySpot}
use Rattle.value_bytes.specs.StoreMap.{map_number}
use Rattle.row_store.proofs.loading.add_records.Given as goal

-- the records so far are rows, and have filled in theirs
abbrev pub invariant-loop-number : goal.invariant-loop-number
invariant-loop-number g l = record {
  filled : (rows : RowsBySpot) → AllByRecursion (λ one. IsTold l.style.tables l.wanted (map_number l.map) rows one.0 one.1) l.records
      → Fills (map_number l.map) rows (Among (take l.number-index l.records)) (g.F.Filled.tables l.fn.tables) (g.F.Filled.tables l.tables);
  spelled : AllByRecursion (λ one. AreRowsOf l.style.tables (map_number l.map) one.0 one.1) (take l.number-index l.records);
}
