-- What the index answers is what the maps answer.
use Rattle.std.proofs.Common.{ℕ, List, refl}
use Rattle.back_index.specs.Index.{is_spent}
use Rattle.back_index.proofs.Reading.{on_ok}
use Rattle.update_flow.specs.maps.Laws.{neither_over, over_spent}
use Rattle.update_flow.proofs.Keeping.{fresh_asked}
use Rattle.update_flow.proofs.maps.kept.StoreTxnBack.ways_of_node.Goals as goal

pub ways_of_node-requires : goal.ways_of_node-requires
ways_of_node-requires g c = over_spent c.args.self.now c.requires

pub returns-clause-index : goal.returns-clause-index
returns-clause-index g c fresh index knows =
    let new = c.ways_of_node.new.self in
    c.ways_of_node.ensures.index ((neither_over new.stopped (is_spent new.buckets) fresh).1) index knows

pub returns-clause-spent : goal.returns-clause-spent
returns-clause-spent g c =
    let new = c.ways_of_node.new.self in
    on_ok (List ℕ) _ _ c.ways_of_node.result
    (λ still. fresh_asked c.args.self.now new.buckets _ new.stopped c.requires c.ways_of_node.ensures.asked still)
    c.ways_of_node.ensures.spent

pub returns-clause-asked : goal.returns-clause-asked
returns-clause-asked g c = record { asked = c.ways_of_node.ensures.asked; same_style = refl }
