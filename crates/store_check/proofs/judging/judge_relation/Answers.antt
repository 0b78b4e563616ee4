use Rattle.std.proofs.Common.{◌≡◌, Option, refl, sym, subst}
use Rattle.osm_base.specs.declared.values.key.Kind.TheVariants as kinds
use Rattle.osm_base.specs.declared.values.object.Object.{Object}
use Rattle.value_bytes.specs.Objects.{object_bytes, IsStored}
use Rattle.store_check.specs.Held.{HeldOf}
use Rattle.store_check.specs.Judging.{FindsRight, Takes}
use Rattle.store_check.proofs.Taking.{relation_taken}
use Rattle.store_check.proofs.judging.judge_relation.Goals as goal

pub returns-clause-right : goal.returns-clause-right
returns-clause-right c =
    let Is = IsStored kinds.Relation in
    let found = subst (λ (o : Option Object). FindsRight object_bytes Is Is c.args.id c.args.bytes.now o) c.in-Some.is
    c.in_ok-relation.ensures.right in (
      (λ is. (found.id, (c.in-Some.relation, found.is, found.spells.bytes_are))),
      (λ is. refl),
    )

pub returns-clause-takes : goal.returns-clause-takes
returns-clause-takes c asked image there =
    let Is = IsStored kinds.Relation in
    let found = subst (λ (o : Option Object). FindsRight object_bytes Is Is c.args.id c.args.bytes.now o) c.in-Some.is
    c.in_ok-relation.ensures.right in
    subst (λ (own : HeldOf). Takes asked image kinds.Relation (λ key. c.args.id ≡ key) c.args.held.now own) (sym c.in_ok-put_relation.ensures.ok)
    (relation_taken asked image c.args.id c.args.bytes.now c.in-Some.relation c.args.held.now there found.spells)
