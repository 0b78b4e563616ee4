-- A bucket more, and all buckets are the map.
use Rattle.std.proofs.Common.{◌≡◌, ◌⊎◌, ◌<◌, ◌+◌, ◌%◌, ◌∙◌, ℕ, true, inl, inr, Option, Some, None, sym, ap, subst, arith}
use Rattle.std.specs.Prelude.{nat_lt}
use Rattle.chain_store.specs.declared.root.Root.{Root}
use Rattle.bucket_store.specs.Buckets.{bucket_count}
use Rattle.bucket_store.specs.Transaction.{chains_of}
use Rattle.row_store.proofs.LoadLaws.{bucket_split}
use Rattle.store_check.specs.Judging.{IsRightOf}
use Rattle.store_check.specs.Wrong.{IsLeastOf}
use Rattle.store_check.proofs.JudgedMaps.{all_below, below_is, is_below}
use Rattle.store_check.proofs.LeastLaws.{least_fewer}
use Rattle.store_check.proofs.Taking.{takes_fewer, takes_then}
use Rattle.store_check.proofs.FindsLaws.{found_all, saw_then, then_refuses}
use Rattle.store_check.proofs.judging_maps.judge_map.Goals as goal

pub loop-bucket-preserved : goal.loop-bucket-preserved
loop-bucket-preserved g c =
    let asked = c.args.asked in
    let kind = c.args.kind in
    let before = c.loop-bucket.invariant in
    let done = c.in_default.ensures.least in
    let bucket = c.loop-bucket.bucket in
    record {
      saw = saw_then before.saw done;
      takes = λ rest had.
          let count : c.bucket_count-count.result ≡ rest.root.buckets = c.bucket_count-count.ensures ∙ ap (λ (r : Root). r.buckets) had.root in
          takes_then asked rest kind (λ key. key % rest.root.buckets < bucket)
          (λ key. key % rest.root.buckets ≡ bucket % rest.root.buckets)
          (λ key. key % rest.root.buckets < bucket + 1) c.args.held.now c.loop-bucket.held c.judge_bucket.new.held (before.takes rest had)
          (c.in_default.ensures.takes rest (before.saw.has rest had))
          (λ key part. bucket_split key bucket rest.root.buckets (omega (arith, c.loop-bucket-test.true, count)) part);
      seen = λ rest had.
          let count : c.bucket_count-count.result ≡ rest.root.buckets = c.bucket_count-count.ensures ∙ ap (λ (r : Root). r.buckets) had.root in
          let was_seen = λ (key : ℕ). nat_lt (key % rest.root.buckets) bucket in
          least_fewer (IsRightOf asked rest kind) (λ key. key % rest.root.buckets < bucket + 1)
          (λ key. (was_seen key ≡ true) ⊎ (key % rest.root.buckets ≡ bucket % rest.root.buckets)) c.judge_bucket.new.least
          (λ key part. elim (bucket_split key bucket rest.root.buckets (omega (arith, c.loop-bucket-test.true, count)) part) [
            | inl less ↦ inl (below_is (key % rest.root.buckets) bucket less)
            | inr same ↦ inr same
          ])
          (done.so rest (before.saw.has rest had) was_seen
          (least_fewer (IsRightOf asked rest kind) (λ key. was_seen key ≡ true) (λ key. key % rest.root.buckets < bucket)
          c.loop-bucket.least (λ key is. is_below (key % rest.root.buckets) bucket is) (before.seen rest had)));
    }

pub returns-in-Err-clause-least : goal.returns-in-Err-clause-least
returns-in-Err-clause-least g c =
    let read = c.loop-bucket.invariant in
    then_refuses read.saw c.in-Err.ensures.least

pub returns-in-None-clause-takes : goal.returns-in-None-clause-takes
returns-in-None-clause-takes g c rest has =
    let count : c.bucket_count-count.result ≡ rest.root.buckets = c.bucket_count-count.ensures ∙ ap (λ (r : Root). r.buckets) has.root in
    let own : bucket_count (chains_of c.args.reading.now.buckets.now) ≡ rest.root.buckets = ap (λ (r : Root). r.buckets) has.root in
    takes_fewer c.args.asked rest c.args.kind (λ key. Unit {0}) (λ key. key % rest.root.buckets < c.loop-bucket.bucket) c.args.held.now
    c.loop-bucket.held (c.loop-bucket.invariant.takes rest has)
    (λ key any. all_below key rest.root.buckets c.loop-bucket.bucket (omega (arith, c.args.reading.now.unchanged.ready.some, own))
    (omega (arith, c.loop-bucket-test.false, count)))

pub returns-in-None-clause-least : goal.returns-in-None-clause-least
returns-in-None-clause-least g c =
    let read = c.loop-bucket.invariant in
    found_all read.saw (λ rest has.
    let count : c.bucket_count-count.result ≡ rest.root.buckets = c.bucket_count-count.ensures ∙ ap (λ (r : Root). r.buckets) has.root in
    let own : bucket_count (chains_of c.args.reading.now.buckets.now) ≡ rest.root.buckets = ap (λ (r : Root). r.buckets) has.root in
    let Is = IsRightOf c.args.asked rest c.args.kind in
    let found : c.loop-bucket.least ≡ None = sym c.key.ensures.key ∙ c.in-None.is in
    let seen = subst (λ (o : Option ℕ). IsLeastOf (λ key. key % rest.root.buckets < c.loop-bucket.bucket) Is o) found
    (c.loop-bucket.invariant.seen rest has) in
    λ key. seen key (all_below key rest.root.buckets c.loop-bucket.bucket (omega (arith, c.args.reading.now.unchanged.ready.some, own))
    (omega (arith, c.loop-bucket-test.false, count))))

pub returns-in-Some-clause-takes : goal.returns-in-Some-clause-takes
returns-in-Some-clause-takes g c rest has =
    let count : c.bucket_count-count.result ≡ rest.root.buckets = c.bucket_count-count.ensures ∙ ap (λ (r : Root). r.buckets) has.root in
    let own : bucket_count (chains_of c.args.reading.now.buckets.now) ≡ rest.root.buckets = ap (λ (r : Root). r.buckets) has.root in
    takes_fewer c.args.asked rest c.args.kind (λ key. Unit {0}) (λ key. key % rest.root.buckets < c.loop-bucket.bucket) c.args.held.now
    c.loop-bucket.held (c.loop-bucket.invariant.takes rest has)
    (λ key any. all_below key rest.root.buckets c.loop-bucket.bucket (omega (arith, c.args.reading.now.unchanged.ready.some, own))
    (omega (arith, c.loop-bucket-test.false, count)))

pub returns-in-Some-clause-least : goal.returns-in-Some-clause-least
returns-in-Some-clause-least g c =
    let read = c.loop-bucket.invariant in
    found_all read.saw (λ rest has.
    let count : c.bucket_count-count.result ≡ rest.root.buckets = c.bucket_count-count.ensures ∙ ap (λ (r : Root). r.buckets) has.root in
    let own : bucket_count (chains_of c.args.reading.now.buckets.now) ≡ rest.root.buckets = ap (λ (r : Root). r.buckets) has.root in
    let Is = IsRightOf c.args.asked rest c.args.kind in
    let found : c.loop-bucket.least ≡ Some c.in-Some.key = sym c.key.ensures.key ∙ c.in-Some.is in
    let seen = subst (λ (o : Option ℕ). IsLeastOf (λ key. key % rest.root.buckets < c.loop-bucket.bucket) Is o) found
    (c.loop-bucket.invariant.seen rest has) in (
      c.map_for.ensures,
      seen.0,
      λ key less. seen.1 key less (all_below key rest.root.buckets c.loop-bucket.bucket (omega (arith, c.args.reading.now.unchanged.ready.some, own))
          (omega (arith, c.loop-bucket-test.false, count))),
    ))
