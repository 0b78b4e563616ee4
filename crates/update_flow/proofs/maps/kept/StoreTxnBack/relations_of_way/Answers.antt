-- What the index answers is what the maps answer.
use Rattle.std.proofs.Common.{ℕ, List, refl}
use Rattle.back_index.specs.Index.{is_spent}
use Rattle.back_index.proofs.Reading.{on_ok}
use Rattle.update_flow.specs.maps.Laws.{neither_over, over_spent}
use Rattle.update_flow.proofs.Keeping.{fresh_asked}
use Rattle.update_flow.proofs.maps.kept.StoreTxnBack.relations_of_way.Goals as goal

pub relations_of_way-requires : goal.relations_of_way-requires
relations_of_way-requires g c = over_spent c.args.self.now c.requires

pub returns-clause-index : goal.returns-clause-index
returns-clause-index g c fresh index knows =
    let new = c.relations_of_way.new.self in
    c.relations_of_way.ensures.index ((neither_over new.stopped (is_spent new.buckets) fresh).1) index knows

pub returns-clause-spent : goal.returns-clause-spent
returns-clause-spent g c =
    let new = c.relations_of_way.new.self in
    on_ok (List ℕ) _ _ c.relations_of_way.result
    (λ still. fresh_asked c.args.self.now new.buckets _ new.stopped c.requires c.relations_of_way.ensures.asked still)
    c.relations_of_way.ensures.spent

pub returns-clause-asked : goal.returns-clause-asked
returns-clause-asked g c = record { asked = c.relations_of_way.ensures.asked; same_style = refl }
