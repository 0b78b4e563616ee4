-- The pages of a chain more are marked.
use Rattle.std.proofs.Common.{◌+◌, ◌-◌, ◌∷◌, [], arith}
use Rattle.std.specs.List.{range_with_len}
use Rattle.store_check.proofs.Steps.{ends, goes_on, none_left, range_left, stops}
use Rattle.store_check.proofs.surveying.mark_range.Goals as goal

pub returns-in-Err : goal.returns-in-Err
returns-in-Err g c =
    let n = c.loop-n.n in
    record {
      marks = stops (λ pages kept n. Unit {0}) (λ pages kept n at. ⊥) (n ∷ []) (range_with_len n (16 - n))
          (range_with_len (n + 1) (16 - (n + 1))) (range_with_len 3 13) c.args.buckets.now c.loop-n.buckets
          c.mark_other.new.buckets c.args.marks.now c.loop-n.marks c.mark_other.new.marks c.mark_other.new.marks c.in-Err.fault
          (range_left n 16 (omega (arith, c.loop-n-test.true)))
          c.loop-n.invariant.on c.in-Err.ensures.marks;
    }

pub loop-n-preserved : goal.loop-n-preserved
loop-n-preserved g c =
    let n = c.loop-n.n in
    let done = c.in_default.ensures.marks in
    record {
      begun = done.begun;
      going = done.looks.refused;
      least = omega (arith, c.loop-n.invariant.least);
      low = omega (arith, c.loop-n-test.true);
      on = goes_on (λ pages kept n. Unit {0}) (λ pages kept n at. ⊥) (n ∷ []) (range_with_len n (16 - n))
          (range_with_len (n + 1) (16 - (n + 1))) (range_with_len 3 13) c.args.buckets.now c.loop-n.buckets
          c.mark_other.new.buckets c.args.marks.now c.loop-n.marks c.mark_other.new.marks c.in_default.field-0
          (range_left n 16 (omega (arith, c.loop-n-test.true)))
          c.loop-n.invariant.on done;
    }

pub returns : goal.returns
returns g c =
    let n = c.loop-n.n in
    record {
      marks = ends (λ pages kept n. Unit {0}) (λ pages kept n at. ⊥) (range_with_len n (16 - n)) (range_with_len 3 13) c.args.buckets.now
          c.loop-n.buckets c.args.marks.now c.loop-n.marks
          (none_left n 16 (omega (arith, c.loop-n-test.false)))
          c.loop-n.invariant.on c.loop-n.invariant.begun c.loop-n.invariant.going;
    }
