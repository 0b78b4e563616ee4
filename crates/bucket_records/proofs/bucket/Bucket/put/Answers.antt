-- A record above the others is put behind them, and any other value among the changes.
use Rattle.std.proofs.Common.{◌≡◌, ◌∷◌, [], ℕ, List, Some, length, take, sym, ap, subst, ◌∙◌, arith, rules}
use Rattle.std.proofs.lemmas.List.{length-append, take-append-le}
use Rattle.std.specs.FinMap as map
use Rattle.bucket_records.specs.Records.{AreRecords, BucketMap, records_bytes}
use Rattle.bucket_records.specs.Changes.{ChangeList, changed, map_of}
use Rattle.bucket_records.specs.Held.{HeldBucket}
use Rattle.bucket_records.proofs.MapLaws.{changed-nil, changed_more, map_of-push, no_changes}
use Rattle.bucket_records.proofs.bucket.Bucket.put.Goals as goal

pub invariant_of-self-then-are_below : goal.invariant_of-self-then-are_below
invariant_of-self-then-are_below c =
    let longer = ap (λ (l : List (ℕ × List ℕ)). length l) c.in_ok-push.ensures.ok
    ∙ length-append c.self.inside.records ((c.args.key, c.args.value.now) ∷ []) in
    (c.in_ok-push.ensures.rise, omega (arith, c.self.invariant.1, longer))

pub returns-then-are_below-clause-ok : goal.returns-then-are_below-clause-ok
returns-then-are_below-clause-ok c =
    let none : c.self.inside.changes.entries ≡ [] = no_changes c.self.inside.changes.entries
    (c.is_empty.ensures.0 c.if-is_empty.true) in
    let above = c.are_below.ensures c.if-are_below.true in
    let more = c.in_ok-push.ensures.ok in
    let rise = subst (λ (l : List (ℕ × List ℕ)). AreRecords 0 l) more c.in_ok-push.ensures.rise in
    let before : map_of c.self.inside.records ≡ c.args.self.now.values =
    sym (changed-nil (map_of c.self.inside.records)) ∙ ap (λ (l : ChangeList). changed (map_of c.self.inside.records) l) (sym none)
    ∙ ap (λ (b : HeldBucket). b.values) c.self.view_is in
    let values : changed (map_of c.push.new.self) c.self.inside.changes.entries
    ≡ map.insert c.args.self.now.values c.args.key c.args.value.now =
    ap (λ (l : ChangeList). changed (map_of c.push.new.self) l) none ∙ changed-nil (map_of c.push.new.self)
    ∙ ap map_of more ∙ map_of-push c.self.inside.records c.args.key c.args.value.now c.self.invariant.0 rise above
    ∙ ap (λ (m : BucketMap). map.insert m c.args.key c.args.value.now) before in
    let origin : records_bytes (take c.self.inside.read c.push.new.self) ≡ c.args.self.now.origin =
    ap (λ (l : List (ℕ × List ℕ)). records_bytes (take c.self.inside.read l)) more
    ∙ ap records_bytes (take-append-le c.self.inside.read c.self.inside.records ((c.args.key, c.args.value.now) ∷ []) c.self.invariant.1)
    ∙ ap (λ (b : HeldBucket). b.origin) c.self.view_is in
    λ i. record { values = values i; origin = origin i }

pub returns-clause-ok : goal.returns-clause-ok
returns-clause-ok c =
    let copied : c.in_ok-own.own.items ≡ c.args.value.now = search rules in
    let values : changed (map_of c.self.inside.records) c.insert.new.self.entries
    ≡ map.insert c.args.self.now.values c.args.key c.args.value.now =
    changed_more (map_of c.self.inside.records) c.self.inside.changes.entries c.insert.new.self.entries c.args.key (Some c.in_ok-own.own)
    c.in_ok-insert.ensures.updates.0
    ∙ ap (λ (b : HeldBucket). map.insert b.values c.args.key c.in_ok-own.own.items) c.self.view_is
    ∙ ap (λ (l : List ℕ). map.insert c.args.self.now.values c.args.key l) copied in
    let origin = ap (λ (b : HeldBucket). b.origin) c.self.view_is in
    λ i. record { values = values i; origin = origin i }
