use Rattle.std.proofs.Common.{◌-◌, None}
use Rattle.bucket_store.specs.Image.{Has, Image}
use Rattle.store_check.specs.Judged.{IsBefore, SeesRows, Tells}
use Rattle.store_check.specs.Values.{NodeMap, ObjectMap}
use Rattle.store_check.specs.Finds.{Saw}
use Rattle.store_check.proofs.rows.first_wrong_rows.Given as goal

-- the rows of the buckets so far were judged, and the store was only read
abbrev pub invariant-loop-bucket : goal.invariant-loop-bucket
invariant-loop-bucket g l = record {
  saw : Saw l.initial.reading l.reading;
  sees : (rest : Image) → Has rest rest l.initial.reading.buckets.now → (nodes : NodeMap) (ways relations : ObjectMap)
      → Tells l.held rest nodes ways relations
      → SeesRows l.style rest nodes ways relations l.map (IsBefore l.map rest l.bucket) None l.wrong;
}

abbrev pub decreases-loop-bucket : goal.decreases-loop-bucket
decreases-loop-bucket g l = l.count - l.bucket
