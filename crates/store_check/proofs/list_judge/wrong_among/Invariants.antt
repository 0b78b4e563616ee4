use Rattle.std.proofs.Common.{◌≡◌, Some, take}
use Rattle.std.specs.FinMap as finite
use Rattle.std.specs.List.{AllByRecursion}
use Rattle.bucket_records.specs.Records.{BucketMap}
use Rattle.row_store.specs.Loading.{Among}
use Rattle.back_index.specs.Filling.{IsKeptAt, mentions_tell}
use Rattle.store_check.specs.Wrong.{IsLeastOf}
use Rattle.store_check.proofs.list_judge.wrong_among.Given as goal

-- the least wrong one of the records so far
abbrev pub invariant-loop-key : goal.invariant-loop-key
invariant-loop-key l = (kept : BucketMap) → AllByRecursion (λ one. finite.get kept one.0 ≡ Some one.1) l.records
    → IsLeastOf (Among (take l.key-index l.records)) (IsKeptAt (mentions_tell l.mentions.all.now) kept) l.least
