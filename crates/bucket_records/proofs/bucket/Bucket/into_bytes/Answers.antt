-- Without changes the bytes are the records' own, and else they are merged.
use Rattle.std.proofs.Common.{◌≡◌, ℕ, List, sym, ap, subst, ◌∙◌}
use Rattle.std.specs.FinMap as map
use Rattle.bucket_records.specs.Records.{AreRecords, BucketMap, records_bytes}
use Rattle.bucket_records.specs.Changes.{ChangeList, changed, map_of}
use Rattle.bucket_records.specs.Held.{HeldBucket}
use Rattle.bucket_records.proofs.MapLaws.{changed-nil, entries-map_of, no_changes}
use Rattle.bucket_records.proofs.bucket.Bucket.into_bytes.Goals as goal

pub returns-then-is_empty-clause-bytes : goal.returns-then-is_empty-clause-bytes
returns-then-is_empty-clause-bytes c =
    let records = c.self.inside.records in
    let none = no_changes c.self.inside.changes.entries (c.is_empty.ensures.0 c.if-is_empty.true) in
    let seen : map.entries c.args.self.values ≡ records =
    ap (λ (m : BucketMap). map.entries m) (sym (ap (λ (b : HeldBucket). b.values) c.self.view_is))
    ∙ ap (λ (l : ChangeList). map.entries (changed (map_of records) l)) none
    ∙ ap (λ (m : BucketMap). map.entries m) (changed-nil (map_of records)) ∙ entries-map_of records c.self.invariant.0 in
    c.into_bytes.ensures.bytes ∙ ap records_bytes (sym seen)

pub returns-then-is_empty-clause-rise : goal.returns-then-is_empty-clause-rise
returns-then-is_empty-clause-rise c =
    let records = c.self.inside.records in
    let none = no_changes c.self.inside.changes.entries (c.is_empty.ensures.0 c.if-is_empty.true) in
    let seen : map.entries c.args.self.values ≡ records =
    ap (λ (m : BucketMap). map.entries m) (sym (ap (λ (b : HeldBucket). b.values) c.self.view_is))
    ∙ ap (λ (l : ChangeList). map.entries (changed (map_of records) l)) none
    ∙ ap (λ (m : BucketMap). map.entries m) (changed-nil (map_of records)) ∙ entries-map_of records c.self.invariant.0 in
    subst (λ (l : List (ℕ × List ℕ)). AreRecords 0 l) (sym seen) c.self.invariant.0
