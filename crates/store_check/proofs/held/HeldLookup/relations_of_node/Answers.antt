use Rattle.std.proofs.Common.{ap, ◌∙◌}
use Rattle.osm_base.specs.map.Listers.{index_of}
use Rattle.store_check.specs.Held.{HeldOf}
use Rattle.store_check.proofs.held.HeldLookup.relations_of_node.Goals as goal

pub returns-clause-relations : goal.returns-clause-relations
returns-clause-relations c = c.relations_of_node.ensures.relations
    ∙ ap (λ (own : HeldOf). (index_of own.members).relations_of_node c.args.id) c.self.view_is
