use Rattle.std.proofs.Common.{◌≡◌, true, take}
use Rattle.bucket_store.specs.Image.{Has, Image}
use Rattle.value_bytes.specs.StoreMap.{map_number}
use Rattle.back_index.specs.Filling.{mentions_tell}
use Rattle.store_check.specs.Lists.{IsLacking}
use Rattle.store_check.specs.Wrong.{IsLeastOf}
use Rattle.store_check.proofs.ListsLaws.{is_named}
use Rattle.store_check.specs.Finds.{Saw}
use Rattle.store_check.proofs.lists.lacking.Given as goal

-- the least of the ids so far that has no list, and the store was only read
abbrev pub invariant-loop-mention : goal.invariant-loop-mention
invariant-loop-mention g l = record {
  saw : Saw l.initial.reading l.reading;
  least : (rest : Image) → Has rest rest l.initial.reading.buckets.now
      → IsLeastOf (λ id. is_named (take l.mention-index l.mentions.all.now) id ≡ true)
      (λ id. ¬ IsLacking (mentions_tell l.mentions.all.now) (rest.maps (map_number l.map)) id) l.least;
}
