use Rattle.std.proofs.Common.{sym, ap, ◌∙◌, ◌++◌, subst}
use Rattle.value_bytes.specs.Objects.{object_bytes, IsStored, IsKept}
use Rattle.value_bytes.proofs.ObjectLaws.{way_put, relation_put, kept_way, kept_relation}
use Rattle.value_bytes.proofs.objects.push_object.Goals as goal

pub returns-in_ok-push_both-in-Way-clause-ok : goal.returns-in_ok-push_both-in-Way-clause-ok
returns-in_ok-push_both-in-Way-clause-ok c =
    c.in_ok-push_both-in-Way.ensures.ok ∙ way_put c.in-Way.nodes c.in-Way.tags c.args.out.now.items
    ∙ ap (λ object. c.args.out.now.items ++ object_bytes object) (sym c.in-Way.is)

pub returns-in_ok-push_both-in-Way-clause-is : goal.returns-in_ok-push_both-in-Way-clause-is
returns-in_ok-push_both-in-Way-clause-is c =
    subst (λ object. IsStored c.args.kind object) (sym c.in-Way.is)
    (kept_way c.args.kind c.in-Way.nodes c.in-Way.tags (subst (λ object. IsKept c.args.kind object) c.in-Way.is c.requires)
    c.in_ok-push_both-in-Way.ensures.one c.in_ok-push_both-in-Way.ensures.two)

pub returns-in_ok-push_both-in-Relation-clause-ok : goal.returns-in_ok-push_both-in-Relation-clause-ok
returns-in_ok-push_both-in-Relation-clause-ok c =
    c.in_ok-push_both-in-Relation.ensures.ok ∙ relation_put c.in-Relation.members c.in-Relation.tags c.args.out.now.items
    ∙ ap (λ object. c.args.out.now.items ++ object_bytes object) (sym c.in-Relation.is)

pub returns-in_ok-push_both-in-Relation-clause-is : goal.returns-in_ok-push_both-in-Relation-clause-is
returns-in_ok-push_both-in-Relation-clause-is c =
    subst (λ object. IsStored c.args.kind object) (sym c.in-Relation.is)
    (kept_relation c.args.kind c.in-Relation.members c.in-Relation.tags
    (subst (λ object. IsKept c.args.kind object) c.in-Relation.is c.requires)
    c.in_ok-push_both-in-Relation.ensures.one c.in_ok-push_both-in-Relation.ensures.two)
