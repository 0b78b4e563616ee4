-- A bucket more was judged, and all buckets are the map.
use Rattle.std.proofs.Common.{◌≡◌, ◌<◌, ◌+◌, ◌%◌, ◌∙◌, None, sym, ap, subst, arith, mod-lt}
use Rattle.std.specs.FinMap as finite
use Rattle.std.specs.Prelude.{IsSome}
use Rattle.value_bytes.specs.StoreMap.{map_number}
use Rattle.chain_store.specs.declared.root.Root.{Root}
use Rattle.bucket_store.specs.Buckets.{bucket_count}
use Rattle.bucket_store.specs.Transaction.{chains_of}
use Rattle.store_check.specs.Judged.{GoesWith, IsAsked, IsBefore, IsOfBuckets, SeesHeld, Tells}
use Rattle.store_check.specs.Values.{objects_of}
use Rattle.store_check.specs.Wrong.{IsLeast, IsRightIn}
use Rattle.store_check.proofs.Sight.{all_seen, sees_fewer, sees_then}
use Rattle.store_check.proofs.SweepLaws.{before_split}
use Rattle.store_check.proofs.FindsLaws.{found_all, saw_then, then_refuses}
use Rattle.store_check.proofs.rows.first_wrong_rows.Goals as goal

pub loop-bucket-preserved : goal.loop-bucket-preserved
loop-bucket-preserved g c =
    let before = c.loop-bucket.invariant in
    let done = c.in_default.ensures.sees in
    let bucket = c.loop-bucket.bucket in
    record {
      saw = saw_then {Own = λ rest _. SeesHeld c.args.style.now c.args.held.now rest c.args.map (IsOfBuckets c.args.map rest bucket)
          c.loop-bucket.wrong c.judge_buckets.new.wrong} before.saw done;
      sees = λ rest had nodes ways relations tells.
          let count : c.bucket_count-count.result ≡ rest.root.buckets = c.bucket_count-count.ensures ∙ ap (λ (r : Root). r.buckets) had.root in
          sees_then (IsRightIn c.args.style.now rest nodes ways relations c.args.map) (IsAsked (objects_of nodes ways relations))
          (IsBefore c.args.map rest bucket) (IsOfBuckets c.args.map rest bucket) (IsBefore c.args.map rest (bucket + 1))
          None c.loop-bucket.wrong c.judge_buckets.new.wrong (before.sees rest had nodes ways relations tells)
          (done.so rest (before.saw.has rest had) nodes ways relations tells)
          (before_split c.args.map rest bucket (omega (arith, c.loop-bucket-test.true, count)));
    }

pub returns : goal.returns
returns g c =
    let looked = c.loop-bucket.invariant in
    record {
      least = found_all looked.saw (λ rest had nodes ways relations read ids held.
          let bucket = c.loop-bucket.bucket in
          let count : c.bucket_count-count.result ≡ rest.root.buckets = c.bucket_count-count.ensures ∙ ap (λ (r : Root). r.buckets) had.root in
          let own : bucket_count (chains_of c.args.reading.now.buckets.now) ≡ rest.root.buckets = ap (λ (r : Root). r.buckets) had.root in
          let tells : Tells c.args.held.now rest nodes ways relations = record { read = read; held = held; ids = ids } in
          let all = all_seen c.args.style.now rest nodes ways relations c.args.held.now tells c.loop-bucket.wrong c.args.map c.requires.rows
          (sees_fewer (IsRightIn c.args.style.now rest nodes ways relations c.args.map) (IsAsked (objects_of nodes ways relations))
          (λ source number. GoesWith c.args.map source × IsSome (finite.get (rest.maps (map_number source)) number)) (IsBefore c.args.map rest bucket) None c.loop-bucket.wrong
          (λ source number part.
          let low : number % rest.root.buckets < rest.root.buckets = mod-lt number (omega (arith, c.args.reading.now.unchanged.ready.some, own)) in
          (part.0, part.1, omega (arith, low, c.loop-bucket-test.false, count)))
          (c.loop-bucket.invariant.sees rest had nodes ways relations tells)) in
          subst (IsLeast (IsRightIn c.args.style.now rest nodes ways relations c.args.map)) (sym c.key.ensures.key) all);
    }

pub returns-in-Err : goal.returns-in-Err
returns-in-Err g c =
    let looked = c.loop-bucket.invariant in
    record {
      least = then_refuses {Own = λ rest _. SeesHeld c.args.style.now c.args.held.now rest c.args.map (IsOfBuckets c.args.map rest c.loop-bucket.bucket)
          c.loop-bucket.wrong c.judge_buckets.new.wrong} looked.saw c.in-Err.ensures.sees;
    }
