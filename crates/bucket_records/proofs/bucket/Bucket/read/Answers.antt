-- Without changes the map is that of the records.
use Rattle.std.proofs.Common.{ℕ, List, sym, ap, subst, ◌∙◌}
use Rattle.std.specs.FinMap as map
use Rattle.bucket_records.specs.Records.{IsBucket, BucketMap}
use Rattle.bucket_records.specs.Changes.{ChangeList, map_of, changed}
use Rattle.bucket_records.proofs.MapLaws.{changed-nil, entries-map_of}
use Rattle.bucket_records.proofs.bucket.Bucket.read.Goals as goal

pub returns-in-Ok-clause-map : goal.returns-in-Ok-clause-map
returns-in-Ok-clause-map c =
    let is = c.in-Ok.ensures.records in
    let seen = ap (λ (l : ChangeList). map.entries (changed (map_of c.in-Ok.records) l)) c.new.ensures.empty
    ∙ ap (λ (m : BucketMap). map.entries m) (changed-nil (map_of c.in-Ok.records)) ∙ entries-map_of c.in-Ok.records is.rise in
    subst (λ (l : List (ℕ × List ℕ)). IsBucket c.args.buckets c.args.bucket c.args.bytes.items l) (sym seen) is
