-- Without changes they are the records' own.
use Rattle.std.proofs.Common.{◌≡◌, sym, ap, ◌∙◌}
use Rattle.std.specs.FinMap as map
use Rattle.bucket_records.specs.Records.{BucketMap}
use Rattle.bucket_records.specs.Changes.{ChangeList, changed, map_of}
use Rattle.bucket_records.specs.Held.{HeldBucket}
use Rattle.bucket_records.proofs.MapLaws.{changed-nil, entries-map_of, no_changes}
use Rattle.bucket_records.proofs.bucket.Bucket.lent.Goals as goal

pub returns-then-is_empty : goal.returns-then-is_empty
returns-then-is_empty c =
    let records = c.self.inside.records in
    let none = no_changes c.self.inside.changes.entries (c.is_empty.ensures.0 c.if-is_empty.true) in
    let seen : map.entries c.args.self.now.values ≡ records =
    ap (λ (m : BucketMap). map.entries m) (sym (ap (λ (b : HeldBucket). b.values) c.self.view_is))
    ∙ ap (λ (l : ChangeList). map.entries (changed (map_of records) l)) none
    ∙ ap (λ (m : BucketMap). map.entries m) (changed-nil (map_of records)) ∙ entries-map_of records c.self.invariant.0 in
    record { records = sym seen }
