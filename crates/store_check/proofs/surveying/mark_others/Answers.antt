-- Chain 0, and then chains 3 to 15.
use Rattle.std.proofs.Common.{◌∷◌, [], Err, Ok}
use Rattle.std.specs.List.{range_with_len}
use Rattle.store_check.proofs.Steps.{front, then}
use Rattle.store_check.proofs.surveying.mark_others.Goals as goal

pub returns-in-Err : goal.returns-in-Err
returns-in-Err g c = record {
  marks = front (λ pages kept n. Unit {0}) (λ pages kept n at. ⊥) (0 ∷ []) (range_with_len 3 13) c.args.buckets.now c.mark_other.new.buckets
      c.args.marks.now c.mark_other.new.marks c.mark_other.new.marks c.in-Err.fault c.in-Err.ensures.marks;
}

pub returns-in-Err-mark_range : goal.returns-in-Err-mark_range
returns-in-Err-mark_range g c = record {
  marks = then (λ pages kept n. Unit {0}) (λ pages kept n at. ⊥) (0 ∷ []) (range_with_len 3 13) c.args.buckets.now c.mark_other.new.buckets
      c.mark_range.new.buckets c.args.marks.now c.mark_other.new.marks c.mark_range.new.marks c.in_default.field-0
      (Err c.in-Err-mark_range.fault) c.in_default.ensures.marks c.in-Err-mark_range.ensures.marks;
}

pub returns-in-Ok : goal.returns-in-Ok
returns-in-Ok g c = record {
  marks = then (λ pages kept n. Unit {0}) (λ pages kept n at. ⊥) (0 ∷ []) (range_with_len 3 13) c.args.buckets.now c.mark_other.new.buckets
      c.mark_range.new.buckets c.args.marks.now c.mark_other.new.marks c.mark_range.new.marks c.in_default.field-0
      (Ok tt) c.in_default.ensures.marks c.in-Ok.ensures.marks;
}
