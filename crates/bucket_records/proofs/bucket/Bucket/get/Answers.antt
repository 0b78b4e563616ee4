-- A key that was changed has its new value, and another the one in the records.
use Rattle.std.proofs.Common.{◌≡◌, ℕ, List, Option, Some, None, Vec, ap, subst, sym, ◌∙◌}
use Rattle.std.specs.BTreeMap.{is_at}
use Rattle.std.specs.Map.{lookup}
use Rattle.std.specs.Option.{MatchOption}
use Rattle.std.specs.Ordering.{nat_cmp}
use Rattle.std.specs.declared.alloc.Global.{Global}
use Rattle.bucket_records.specs.Changes.{map_of}
use Rattle.bucket_records.specs.Held.{HeldBucket}
use Rattle.bucket_records.proofs.MapLaws.{got_map}
use Rattle.bucket_records.proofs.bucket.Bucket.get.Goals as goal

pub returns-in-Some-Some : goal.returns-in-Some-Some
returns-in-Some-Some c =
    let found : lookup (is_at (nat_cmp c.args.key)) c.self.inside.changes.entries ≡ Some (Some c.in-Some-Some.value) =
    sym c.in-Some-Some.ensures.value ∙ ap (λ (o : Option (Vec ℕ Global)). Some o) c.in-Some-Some.field-0-is in
    got_map (map_of c.self.inside.records) c.self.inside.changes.entries c.args.self.now.values c.args.key
    (ap (λ (b : HeldBucket). b.values) c.self.view_is) (Some (Some c.in-Some-Some.value)) found
    ∙ ap (λ (v : Vec ℕ Global). Some v.items) (sym c.in-Some-Some.value-is)
    ∙ ap (λ (l : List ℕ). Some l) (sym c.as_slice.ensures.value)

pub returns-in-Some-None : goal.returns-in-Some-None
returns-in-Some-None c =
    let found : lookup (is_at (nat_cmp c.args.key)) c.self.inside.changes.entries ≡ Some None =
    sym c.in-Some-None.ensures.value ∙ ap (λ (o : Option (Vec ℕ Global)). Some o) c.in-Some-None.field-0-is in
    got_map (map_of c.self.inside.records) c.self.inside.changes.entries c.args.self.now.values c.args.key
    (ap (λ (b : HeldBucket). b.values) c.self.view_is) (Some None) found

pub returns-in-None : goal.returns-in-None
returns-in-None c =
    let found : lookup (is_at (nat_cmp c.args.key)) c.self.inside.changes.entries ≡ None = sym c.in-None.ensures.value in
    let got = got_map (map_of c.self.inside.records) c.self.inside.changes.entries c.args.self.now.values c.args.key
    (ap (λ (b : HeldBucket). b.values) c.self.view_is) None found in
    subst (λ (o : Option (List ℕ)). MatchOption c.recorded.result (o ≡ None) (λ value. o ≡ Some value.now)) (sym got) c.recorded.ensures
