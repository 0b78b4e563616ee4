use Rattle.std.proofs.Common.{◌<◌, ◌-◌, ◌%◌, Ok}
use Rattle.bucket_store.specs.Image.{Has, Image}
use Rattle.bucket_store.specs.Transaction.{IsReady}
use Rattle.update_flow.specs.maps.Migrating.{LooksOnce, Renews}
use Rattle.update_flow.proofs.maps.migrating.migrate_nodes.Given as goal

-- the buckets so far are written anew
abbrev pub invariant-loop-bucket : goal.invariant-loop-bucket
invariant-loop-bucket g l = record {
  ready : IsReady l.buckets;
  once : LooksOnce {T = Unit {0}} l.initial.buckets l.buckets (Ok tt);
  renews : (rest now : Image) → Has rest now l.initial.buckets
      → (mid : Image) × Has rest mid l.buckets × Renews (λ id. id % now.root.buckets < l.bucket) now mid;
}

abbrev pub decreases-loop-bucket : goal.decreases-loop-bucket
decreases-loop-bucket g l = l.count - l.bucket
