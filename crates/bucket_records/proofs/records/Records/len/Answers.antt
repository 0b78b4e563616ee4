-- There are as many records as are counted.
use Rattle.bucket_records.proofs.RecordPlaces.{lies}
use Rattle.bucket_records.proofs.records.Records.len.Goals as goal

pub returns : goal.returns
returns c =
    let lie = lies c.self.inside.bytes.items c.self.inside.count c.self.inside.last c.self.inside.marks.items c.args.self.now
    c.self.invariant c.self.view_is in
    record { len = lie.many; rise = lie.rise }
