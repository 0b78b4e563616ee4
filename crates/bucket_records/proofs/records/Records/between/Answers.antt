-- What is cut out are the records between.
use Rattle.std.proofs.Common.{ℕ, List, length, take, drop, ap, ◌∙◌, arith}
use Rattle.bucket_records.proofs.RecordPlaces.{lies, lies_within, lies_between, ordered_within}
use Rattle.bucket_records.proofs.records.Records.between.Goals as goal

pub split_at-requires : goal.split_at-requires
split_at-requires c =
    let bytes = c.self.inside.bytes.items in
    let lie = lies bytes c.self.inside.count c.self.inside.last c.self.inside.marks.items c.args.self.now c.self.invariant c.self.view_is in
    omega (
      arith,
      c.begin_of-end.ensures,
      lies_within bytes c.args.self.now c.args.to lie.bytes_are,
      ap (λ (l : List ℕ). length l) c.as_slice.ensures.value,
    )

pub split_at-requires-2 : goal.split_at-requires-2
split_at-requires-2 c =
    omega (
      arith,
      c.begin_of-begin.ensures,
      c.begin_of-end.ensures,
      c.split_at.ensures.front_len,
      ordered_within c.args.self.now c.args.from c.args.to c.requires.order,
    )

pub returns : goal.returns
returns c =
    let bytes = c.self.inside.bytes.items in
    let lie = lies bytes c.self.inside.count c.self.inside.last c.self.inside.marks.items c.args.self.now c.self.invariant c.self.view_is in
    record {
      bytes = c.split_at-2.ensures.back ∙ ap (λ (l : List ℕ). drop c.begin_of-begin.result l) (c.split_at.ensures.front
          ∙ ap (λ (l : List ℕ). take c.begin_of-end.result l) c.as_slice.ensures.value)
          ∙ lies_between bytes c.args.self.now c.args.from c.args.to c.begin_of-begin.result c.begin_of-end.result lie.bytes_are
          c.requires.order c.begin_of-begin.ensures c.begin_of-end.ensures;
    }
