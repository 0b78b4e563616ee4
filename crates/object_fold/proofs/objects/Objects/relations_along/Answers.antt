use Rattle.object_fold.proofs.OfObjects.{copy-ids, copy-rising, relations_of_ways-are, relations_of_ways-ids}
use Rattle.object_fold.proofs.objects.Objects.relations_along.Goals as goal

pub returns-clause-ids : goal.returns-clause-ids
returns-clause-ids c =
    copy-ids c.copied.result c.listers.result.now c.copied.ensures.ids
    (relations_of_ways-are c.self.inside.objects c.self.inside.listings c.args.self.now c.self.view_is c.self.invariant c.args.id
    c.listers.result.now c.listers.ensures.ids c.listers.ensures.rise)

pub returns-clause-rising : goal.returns-clause-rising
returns-clause-rising c =
    copy-rising c.copied.result c.listers.result.now c.copied.ensures.ids
    (relations_of_ways-are c.self.inside.objects c.self.inside.listings c.args.self.now c.self.view_is c.self.invariant c.args.id
    c.listers.result.now c.listers.ensures.ids c.listers.ensures.rise)
    (relations_of_ways-ids c.self.inside.objects c.self.inside.listings c.args.self.now c.self.view_is c.self.invariant c.args.id)
