use Rattle.std.proofs.Common.{sym, ap, subst, ◌∙◌}
use Rattle.std.specs.List.{AllByRecursion}
use Rattle.osm_base.specs.values.Ids.{IsRising, has}
use Rattle.osm_base.specs.values.Key.{IsId}
use Rattle.dep_closure.proofs.Left.{same-ids}
use Rattle.dep_closure.proofs.pending_set.nodes_due.Goals as goal
use Rattle.dep_closure.proofs.pending_set.nodes_due.Goals.{then-reaches_nodes+in_ok-add_selected, else-reaches_nodes}

pub returns-clause-rising : goal.returns-clause-rising
returns-clause-rising c =
    let all : AllByRecursion IsId c.if-reaches_nodes.nodes.items = elim c.if-reaches_nodes.branch [
      | then-reaches_nodes+in_ok-add_selected w ↦ rw w.nodes-is (w.in_ok-add_selected.ensures.selected.ids c.in_ok-nodes.ensures.ids)
      | else-reaches_nodes w ↦ rw w.nodes-is c.in_ok-nodes.ensures.ids
    ] in (
      subst IsRising (sym c.into_ids.ensures.ids) c.into_ids.ensures.rise,
      same-ids c.if-reaches_nodes.nodes.items c.into_ids.result
          (λ id. ap (λ ids. has ids id) c.into_ids.ensures.ids ∙ c.from_vec.ensures.same id) all,
    )
