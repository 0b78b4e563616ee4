-- The keys of a bucket are those of its records.
use Rattle.std.proofs.Common.{◌≡◌, ◌%◌, ℕ, List, Some, sym, subst}
use Rattle.std.specs.FinMap as finite
use Rattle.std.specs.List.{AllByRecursion}
use Rattle.value_bytes.specs.StoreMap.{map_number}
use Rattle.store_check.specs.Judged.{IsAmong, IsAsked, IsOfBucket, SeesRows, rows_map}
use Rattle.store_check.specs.Values.{objects_of}
use Rattle.store_check.specs.Wrong.{IsRightIn}
use Rattle.store_check.proofs.FindsLaws.{both_find, finds_err, second_refuses}
use Rattle.store_check.proofs.Sight.{sees_fewer}
use Rattle.store_check.proofs.SweepLaws.{bucket_among, records_in}
use Rattle.store_check.proofs.rows.judge_bucket.Goals as goal

pub returns-in-Ok-judge_records : goal.returns-in-Ok-judge_records
returns-in-Ok-judge_records g c = record {
  sees = both_find c.in-Ok.ensures.found c.in-Ok-judge_records.ensures.sees (λ rest had are own nodes ways relations tells.
      let source = c.args.source.map in
      let records = c.in-Ok.records.items in
      let same : c.as_slice.result.now ≡ records = cc (c.as_slice.ensures.value) in
      let Is = λ (one : ℕ × List ℕ). finite.get (rest.maps (map_number source)) one.0 ≡ Some one.1 in
      let sees = own nodes ways relations tells
      (subst (λ (l : List (ℕ × List ℕ)). AllByRecursion Is l) (sym same)
      (records_in rest (map_number source) (c.args.bucket % rest.root.buckets) records are)) in
      sees_fewer (IsRightIn c.args.style.now rest nodes ways relations (rows_map source)) (IsAsked (objects_of nodes ways relations))
      (IsOfBucket source rest c.args.bucket) (IsAmong source records) c.args.wrong.now c.judge_records.new.wrong
      (bucket_among source rest c.args.bucket records are)
      (subst (λ (l : List (ℕ × List ℕ)). SeesRows c.args.style.now rest nodes ways relations (rows_map source) (IsAmong source l)
      c.args.wrong.now c.judge_records.new.wrong) same sees));
}

pub returns-in-Err : goal.returns-in-Err
returns-in-Err g c = record { sees = finds_err c.in-Err.ensures.found }

pub returns : goal.returns
returns g c = record { sees = second_refuses c.in-Ok.ensures.found c.in-Err-judge_records.ensures.sees }
