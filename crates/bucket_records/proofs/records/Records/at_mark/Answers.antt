-- The record at a mark begins there.
use Rattle.std.proofs.Common.{◌≡◌, ◌+◌, ◌*◌, ◌-◌, ◌<◌, ℕ, List, length, drop, ap, ◌∙◌, arith}
use Rattle.bucket_records.specs.Records.{records_bytes}
use Rattle.bucket_records.proofs.RecordLists.{many_within}
use Rattle.bucket_records.proofs.RecordPlaces.{lies, lies_within, lies_behind}
use Rattle.bucket_records.proofs.records.Records.at_mark.Goals as goal

pub returns-then-known-eq0 : goal.returns-then-known-eq0
returns-then-known-eq0 c =
    let lie = lies c.self.inside.bytes.items c.self.inside.count c.self.inside.last c.self.inside.marks.items c.args.self.now
    c.self.invariant c.self.view_is in
    record {
      within = omega arith;
      order = omega arith;
      some = λ some. omega (arith, some);
      rest =
          c.as_slice.ensures.value ∙ lie.bytes_are;
    }

pub index-requires : goal.index-requires
index-requires c = omega (arith, c.min-known.ensures, c.if-known-eq0.false, c.len.ensures, c.self.inside.marks.ok.0)

pub split_at-requires : goal.split_at-requires
split_at-requires c =
    let lie = lies c.self.inside.bytes.items c.self.inside.count c.self.inside.last c.self.inside.marks.items c.args.self.now
    c.self.invariant c.self.view_is in
    let inside : c.min-known.result - 1 < length c.self.inside.marks.items =
    omega (arith, c.min-known.ensures, c.if-known-eq0.false, c.len.ensures, c.self.inside.marks.ok.0) in
    let marked = lie.marked (c.min-known.result - 1) c.index.result.now inside in
    omega (
      arith,
      c.index.ensures ∙ marked.1,
      lies_within c.self.inside.bytes.items c.args.self.now (16 * (c.min-known.result - 1 + 1)) lie.bytes_are,
      ap (λ (l : List ℕ). length l) c.as_slice-2.ensures.value,
    )

pub returns : goal.returns
returns c =
    let lie = lies c.self.inside.bytes.items c.self.inside.count c.self.inside.last c.self.inside.marks.items c.args.self.now
    c.self.invariant c.self.view_is in
    let inside : c.min-known.result - 1 < length c.self.inside.marks.items =
    omega (arith, c.min-known.ensures, c.if-known-eq0.false, c.len.ensures, c.self.inside.marks.ok.0) in
    let marked = lie.marked (c.min-known.result - 1) c.index.result.now inside in
    let place : 16 * (c.min-known.result - 1 + 1) ≡ c.min-known.result * 16 = omega (arith, c.if-known-eq0.false) in
    record {
      within = omega (arith, marked.0, place);
      order = omega (arith, c.min-known.ensures);
      some = λ some. omega (arith, marked.0, place);
      rest = c.split_at.ensures.back ∙ ap (λ (l : List ℕ). drop c.index.result.now l) c.as_slice-2.ensures.value
          ∙ lies_behind c.self.inside.bytes.items c.args.self.now (16 * (c.min-known.result - 1 + 1)) c.index.result.now lie.bytes_are
          (c.index.ensures ∙ marked.1)
          ∙ ap (λ (n : ℕ). records_bytes (drop n c.args.self.now)) place;
    }

pub overflow_mul-result : goal.overflow_mul-result
overflow_mul-result c =
    let lie = lies c.self.inside.bytes.items c.self.inside.count c.self.inside.last c.self.inside.marks.items c.args.self.now
    c.self.invariant c.self.view_is in
    let inside : c.min-known.result - 1 < length c.self.inside.marks.items =
    omega (arith, c.min-known.ensures, c.if-known-eq0.false, c.len.ensures, c.self.inside.marks.ok.0) in
    let marked = lie.marked (c.min-known.result - 1) c.index.result.now inside in
    let place : 16 * (c.min-known.result - 1 + 1) ≡ c.min-known.result * 16 = omega (arith, c.if-known-eq0.false) in
    let whole = ap (λ (l : List ℕ). length l) lie.bytes_are in
    let small = c.self.inside.bytes.small in
    omega (arith, marked.0, place, many_within c.args.self.now, whole, small)
