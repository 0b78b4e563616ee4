use Rattle.std.proofs.Common.{◌-◌, ◌%◌, ◌<◌}
use Rattle.bucket_store.specs.Image.{Has, Image}
use Rattle.store_check.specs.Judging.{IsRightOf, Takes}
use Rattle.store_check.specs.Wrong.{IsLeastOf}
use Rattle.store_check.specs.Finds.{Saw}
use Rattle.store_check.proofs.judging_maps.judge_map.Given as goal

-- what is right in the buckets so far is held, the least key of what is not was seen, and the store was only read
abbrev pub invariant-loop-bucket : goal.invariant-loop-bucket
invariant-loop-bucket g l = record {
  saw : Saw l.initial.reading l.reading;
  takes : (rest : Image) → Has rest rest l.initial.reading.buckets.now
      → Takes l.asked rest l.kind (λ key. key % rest.root.buckets < l.bucket) l.initial.held l.held;
  seen : (rest : Image) → Has rest rest l.initial.reading.buckets.now
      → IsLeastOf (λ key. key % rest.root.buckets < l.bucket) (IsRightOf l.asked rest l.kind) l.least;
}

abbrev pub decreases-loop-bucket : goal.decreases-loop-bucket
decreases-loop-bucket g l = l.count - l.bucket
