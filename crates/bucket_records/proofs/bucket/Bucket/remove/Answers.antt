-- A key that is not there is left out already, and another is changed to none.
use Rattle.std.proofs.Common.{◌≡◌, Some, None, false, not, ap, ◌∙◌}
use Rattle.std.specs.Option.{is_some}
use Rattle.std.specs.FinMap as map
use Rattle.bucket_records.specs.Records.{BucketMap}
use Rattle.bucket_records.specs.Changes.{changed, map_of}
use Rattle.bucket_records.specs.Held.{HeldBucket, with_values}
use Rattle.bucket_records.proofs.MapLaws.{changed_more, remove_absent, none_holds}
use Rattle.bucket_records.proofs.bucket.Bucket.remove.Goals as goal

pub returns-then-is_none-clause-ok : goal.returns-then-is_none-clause-ok
returns-then-is_none-clause-ok c =
    let is : is_some c.get.result ≡ false = c.is_none.ensures ∙ ap not c.if-is_none.true in
    let values = c.args.self.now.values in
    let same : values ≡ map.remove values c.args.key =
    remove_absent values c.args.key (none_holds (map.get values c.args.key ≡ None)
    (λ value. map.get values c.args.key ≡ Some value.now) c.get.result c.get.ensures is) in
    ap (λ (m : BucketMap). with_values c.args.self.now m) same

pub returns-clause-ok : goal.returns-clause-ok
returns-clause-ok c =
    let values : changed (map_of c.self.inside.records) c.insert.new.self.entries ≡ map.remove c.args.self.now.values c.args.key =
    changed_more (map_of c.self.inside.records) c.self.inside.changes.entries c.insert.new.self.entries c.args.key None
    c.in_ok-insert.ensures.updates.0
    ∙ ap (λ (b : HeldBucket). map.remove b.values c.args.key) c.self.view_is in
    let origin = ap (λ (b : HeldBucket). b.origin) c.self.view_is in
    λ i. record { values = values i; origin = origin i }
