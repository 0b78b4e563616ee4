use Rattle.std.proofs.Common.{sym, ap, subst, ◌∙◌}
use Rattle.std.specs.List.{AllByRecursion}
use Rattle.osm_base.specs.values.Ids.{IsRising, has}
use Rattle.osm_base.specs.values.Key.{IsId}
use Rattle.dep_closure.proofs.Left.{same-ids}
use Rattle.dep_closure.proofs.pending_set.with_selected.Goals as goal

pub returns-clause-rising : goal.returns-clause-rising
returns-clause-rising c = (
  subst IsRising (sym c.into_ids.ensures.ids) c.into_ids.ensures.rise,
  same-ids c.add_selected.new.ids.items c.into_ids.result (λ id. ap (λ ids. has ids id) c.into_ids.ensures.ids ∙ c.from_vec.ensures.same id)
      (c.in_ok-add_selected.ensures.selected.ids (subst (AllByRecursion IsId) (sym c.into_vec-ids.ensures.items) c.requires)),
)
