-- A record begins behind those before it.
use Rattle.std.proofs.Common.{◌≡◌, ℕ, List, length, take, ap, sym, ◌∙◌, arith}
use Rattle.std.proofs.lemmas.List.{take_all}
use Rattle.bucket_records.specs.Records.{records_bytes}
use Rattle.bucket_records.proofs.RecordPlaces.{lies, begin_there}
use Rattle.bucket_records.proofs.records.Records.begin_of.Goals as goal

pub returns-then-place-self : goal.returns-then-place-self
returns-then-place-self c =
    let lie = lies c.self.inside.bytes.items c.self.inside.count c.self.inside.last c.self.inside.marks.items c.args.self.now
    c.self.invariant c.self.view_is in
    omega (
      arith,
      c.len.ensures,
      c.self.inside.bytes.ok.0,
      begin_there c.args.self.now c.args.place c.self.inside.bytes.items c.rest_from.result.now lie.bytes_are c.rest_from.ensures,
    )

pub returns-else-place-self : goal.returns-else-place-self
returns-else-place-self c =
    let records = c.args.self.now in
    let lie = lies c.self.inside.bytes.items c.self.inside.count c.self.inside.last c.self.inside.marks.items c.args.self.now
    c.self.invariant c.self.view_is in
    let all : take c.args.place records ≡ records = take_all c.args.place records (omega (arith, c.if-place-self.false, lie.many)) in
    let whole = ap (λ (l : List ℕ). length l) (lie.bytes_are ∙ ap records_bytes (sym all)) in
    omega (arith, c.len-else-place-self.ensures, whole, c.self.inside.bytes.ok.0)

pub overflow_sub-result : goal.overflow_sub-result
overflow_sub-result c =
    let lie = lies c.self.inside.bytes.items c.self.inside.count c.self.inside.last c.self.inside.marks.items c.args.self.now
    c.self.invariant c.self.view_is in
    omega (
      arith,
      c.len.ensures,
      c.self.inside.bytes.ok.0,
      begin_there c.args.self.now c.args.place c.self.inside.bytes.items c.rest_from.result.now lie.bytes_are c.rest_from.ensures,
    )
