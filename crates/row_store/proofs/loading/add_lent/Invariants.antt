use Rattle.std.proofs.Common.{◌≡◌, ◌-◌, ◌≤◌, length, take, drop}
use Rattle.std.specs.List.{AllByRecursion}
use Rattle.bucket_records.specs.Records.{records_bytes}
use Rattle.row_store.specs.Loading.{Among, AreRowsOf, Fills, IsTold, RowsBySpot}
use Rattle.value_bytes.specs.StoreMap.{map_number}
use Rattle.row_store.proofs.loading.add_lent.Given as goal

-- the records so far are rows, and have filled in theirs; the bytes of the others are left
abbrev pub invariant-loop-place : goal.invariant-loop-place
invariant-loop-place g l = record {
  within : l.place ≤ length l.records;
  rest : l.rest ≡ records_bytes (drop l.place l.records);
  filled : (rows : RowsBySpot) → AllByRecursion (λ one. IsTold l.style.tables l.wanted (map_number l.map) rows one.0 one.1) l.records
      → Fills (map_number l.map) rows (Among (take l.place l.records)) (g.F.Filled.tables l.fn.tables) (g.F.Filled.tables l.tables);
  spelled : AllByRecursion (λ one. AreRowsOf l.style.tables (map_number l.map) one.0 one.1) (take l.place l.records);
}

abbrev pub decreases-loop-place : goal.decreases-loop-place
decreases-loop-place g l = length l.records - l.place
