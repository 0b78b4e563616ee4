use Rattle.std.proofs.Common.{◌-◌, ◌%◌, ◌<◌}
use Rattle.std.specs.FinMap as finite
use Rattle.std.specs.Option.{IsSome}
use Rattle.bucket_store.specs.Image.{Has, Image}
use Rattle.value_bytes.specs.StoreMap.{map_number}
use Rattle.back_index.specs.Filling.{IsKeptAt, mentions_tell}
use Rattle.store_check.specs.Wrong.{IsLeastOf}
use Rattle.store_check.specs.Finds.{Saw}
use Rattle.store_check.proofs.lists.wrong_kept.Given as goal

-- the least wrong one of the buckets so far, and the store was only read
abbrev pub invariant-loop-bucket : goal.invariant-loop-bucket
invariant-loop-bucket g l = record {
  saw : Saw l.initial.reading l.reading;
  least : (rest : Image) → Has rest rest l.initial.reading.buckets.now
      → IsLeastOf (λ n. IsSome (finite.get (rest.maps (map_number l.map)) n) × (n % rest.root.buckets < l.bucket))
      (IsKeptAt (mentions_tell l.mentions.all.now) (rest.maps (map_number l.map))) l.found;
}

abbrev pub decreases-loop-bucket : goal.decreases-loop-bucket
decreases-loop-bucket g l = l.count - l.bucket
