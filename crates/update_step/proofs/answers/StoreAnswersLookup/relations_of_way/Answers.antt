use Rattle.std.proofs.Common.{[], ap, ◌∙◌}
use Rattle.std.specs.Option.{unwrap_or}
use Rattle.object_fold.proofs.SortedIds.{none-rise}
use Rattle.update_step.proofs.Trees.{got_id}
use Rattle.update_step.proofs.answers.StoreAnswersLookup.relations_of_way.Goals as goal

pub returns-in-Some-clause-relations : goal.returns-in-Some-clause-relations
returns-in-Some-clause-relations c = c.as_slice.ensures.ids
    ∙ ap (λ found. unwrap_or found []) (c.in-Some.ensures.value ∙ got_id c.args.self.now.along_ways c.args.id)

pub returns-in-None-clause-relations : goal.returns-in-None-clause-relations
returns-in-None-clause-relations c = ap (λ found. unwrap_or found [])
    (c.in-None.ensures.value ∙ got_id c.args.self.now.along_ways c.args.id)

pub returns-in-None-clause-rising : goal.returns-in-None-clause-rising
returns-in-None-clause-rising c = (none-rise, tt)
