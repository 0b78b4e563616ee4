use Rattle.std.proofs.Common.{ap, sym, ◌∙◌}
use Rattle.std.specs.Option.{is_some}
use Rattle.update_step.specs.Gather.{gathered_in, was_asked}
use Rattle.update_step.proofs.Trees.{got_id}
use Rattle.update_step.proofs.answers.StoreAnswers.has.Goals as goal

pub returns-in-AtNode : goal.returns-in-AtNode
returns-in-AtNode c =
    record { asked = c.has_place.ensures.there ∙ ap (was_asked (gathered_in c.args.self.now)) (sym c.in-AtNode.is) }

pub returns-in-OfKey : goal.returns-in-OfKey
returns-in-OfKey c =
    record { asked = c.has_form.ensures.there ∙ ap (was_asked (gathered_in c.args.self.now)) (sym c.in-OfKey.is) }

pub returns-in-AlongWay : goal.returns-in-AlongWay
returns-in-AlongWay c =
    record {
      asked = c.contains_key.ensures ∙ ap is_some (got_id c.args.self.now.along_ways c.in-AlongWay.id)
          ∙ ap (was_asked (gathered_in c.args.self.now)) (sym c.in-AlongWay.is);
    }

pub returns-in-AroundNode : goal.returns-in-AroundNode
returns-in-AroundNode c =
    record {
      asked = c.contains_key-in-AroundNode.ensures ∙ ap is_some (got_id c.args.self.now.around_nodes c.in-AroundNode.id)
          ∙ ap (was_asked (gathered_in c.args.self.now)) (sym c.in-AroundNode.is);
    }
