use Rattle.std.proofs.Common.{sym, ap, subst, ◌∙◌}
use Rattle.std.specs.List.{AllByRecursion}
use Rattle.osm_base.specs.values.Ids.{IsRising, has}
use Rattle.osm_base.specs.values.Key.{IsId}
use Rattle.dep_closure.specs.Questions.{of_members, of_ways}
use Rattle.dep_closure.proofs.Asked.{asks_first, asks_later}
use Rattle.dep_closure.proofs.Cuts.{on_err}
use Rattle.dep_closure.proofs.Left.{same-ids}
use Rattle.dep_closure.proofs.relations.relations_due.Goals as goal

pub returns-in_err-add_named-clause-asked_some : goal.returns-in_err-add_named-clause-asked_some
returns-in_err-add_named-clause-asked_some g c =
    on_err c.from_residual.result _
    (asks_first g.B.Back.asks c.args.back.now c.add_named.new.back (of_members c.args.change.now)
    (of_ways c.args.ways.now) c.in_err-add_named.ensures.asked_some)

pub returns-in_err-add_along-clause-asked_some : goal.returns-in_err-add_along-clause-asked_some
returns-in_err-add_along-clause-asked_some g c =
    on_err c.from_residual-in_err-add_along.result _
    (asks_later g.B.Back.asks g.met.B.Back.asks_then c.args.back.now c.add_named.new.back c.add_along.new.back
    (of_members c.args.change.now) (of_ways c.args.ways.now) c.in_ok-add_named.ensures.asks.asked c.in_err-add_along.ensures.asked_some)

pub returns-clause-rising : goal.returns-clause-rising
returns-clause-rising g c = (
  subst IsRising (sym c.into_ids.ensures.ids) c.into_ids.ensures.rise,
  same-ids c.add_along.new.relations.items c.into_ids.result
      (λ id. ap (λ ids. has ids id) c.into_ids.ensures.ids ∙ c.from_vec.ensures.same id)
      (c.in_ok-add_along.ensures.due.ids (c.in_ok-add_named.ensures.due.ids
      (subst (AllByRecursion IsId) (sym c.new-relations.ensures.items) tt))),
)
