-- One bucket and then another.
use Rattle.value_bytes.specs.declared.store_map.StoreMap.TheVariants as stored
use Rattle.store_check.specs.Judged.{IsAsked, IsOfBoth, IsOfBucket, IsOfBuckets}
use Rattle.store_check.specs.Values.{objects_of}
use Rattle.store_check.specs.Wrong.{IsRightIn}
use Rattle.store_check.proofs.Sight.{sees_then}
use Rattle.store_check.proofs.SweepLaws.{other_split}
use Rattle.store_check.proofs.FindsLaws.{both_find, finds_err, second_refuses}
use Rattle.store_check.proofs.rows.judge_others.Goals as goal

pub returns-in-Ok : goal.returns-in-Ok
returns-in-Ok g c = record {
  sees = both_find c.in_default.ensures.sees c.in-Ok.ensures.sees (λ rest had one other nodes ways relations tells.
      sees_then (IsRightIn c.args.style.now rest nodes ways relations stored.OtherRows) (IsAsked (objects_of nodes ways relations))
      (IsOfBoth rest c.args.bucket) (IsOfBucket stored.OtherRows rest c.args.bucket) (IsOfBuckets stored.OtherRows rest c.args.bucket)
      c.args.wrong.now c.judge_objects.new.wrong c.judge_apart.new.wrong
      (one nodes ways relations tells) (other nodes ways relations tells)
      (other_split rest c.args.bucket));
}

pub returns-in-Err : goal.returns-in-Err
returns-in-Err g c = record { sees = finds_err c.in-Err.ensures.sees }

pub returns-in-Err-judge_apart : goal.returns-in-Err-judge_apart
returns-in-Err-judge_apart g c = record { sees = second_refuses c.in_default.ensures.sees c.in-Err-judge_apart.ensures.sees }
