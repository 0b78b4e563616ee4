use Rattle.std.proofs.Common.{Ok, take}
use Rattle.bucket_store.specs.Image.{Has, Image}
use Rattle.bucket_store.specs.Transaction.{IsReady}
use Rattle.row_store.specs.Loading.{Among}
use Rattle.update_flow.specs.maps.Migrating.{AreThere, LooksOnce, Renews}
use Rattle.update_flow.proofs.maps.migrating.renew_records.Given as goal

-- the records so far are written anew
abbrev pub invariant-loop-id : goal.invariant-loop-id
invariant-loop-id g l = record {
  ready : IsReady l.buckets;
  once : LooksOnce {T = Unit {0}} l.initial.buckets l.buckets (Ok tt);
  renews : (rest now : Image) → Has rest now l.initial.buckets → AreThere now l.records
      → (mid : Image) × Has rest mid l.buckets × Renews (Among (take l.id-index l.records)) now mid;
}
