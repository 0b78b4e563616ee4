-- A mark has records before it.
use Rattle.std.proofs.Common.{arith}
use Rattle.bucket_records.proofs.RecordPlaces.{lies}
use Rattle.bucket_records.proofs.records.Records.marks.Goals as goal

pub returns : goal.returns
returns c some =
    let lie = lies c.self.inside.bytes.items c.self.inside.count c.self.inside.last c.self.inside.marks.items c.args.self.now
    c.self.invariant c.self.view_is in
    let first = lie.marked 0 0 (omega (arith, some, c.len.ensures, c.self.inside.marks.ok.0)) in
    omega (arith, first.0)
