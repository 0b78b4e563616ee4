-- The records that were found are those of the bytes.
use Rattle.bucket_records.proofs.RecordPlaces.{lies_indexed, lies_bucket, bucket_seen}
use Rattle.bucket_records.proofs.records.Records.read.Goals as goal

pub invariant_of-result : goal.invariant_of-result
invariant_of-result c =
    let found = lies_bucket c.args.buckets c.args.bucket c.args.bytes.items c.as_slice.result.now c.in-Ok.count c.in-Ok.last
    c.in-Ok.marks.items
    c.as_slice.ensures.value c.in-Ok.ensures.found in
    lies_indexed c.args.bytes.items c.in-Ok.count c.in-Ok.last c.in-Ok.marks.items found.0 found.2

pub returns-in-Ok-clause-records : goal.returns-in-Ok-clause-records
returns-in-Ok-clause-records c =
    bucket_seen c.args.buckets c.args.bucket c.args.bytes.items c.in-Ok.count c.in-Ok.last c.in-Ok.marks.items
    (lies_bucket c.args.buckets c.args.bucket c.args.bytes.items c.as_slice.result.now c.in-Ok.count c.in-Ok.last c.in-Ok.marks.items
    c.as_slice.ensures.value c.in-Ok.ensures.found)
