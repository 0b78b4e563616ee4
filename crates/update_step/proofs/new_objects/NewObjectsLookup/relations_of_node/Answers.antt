use Rattle.std.proofs.Common.{ap, ◌∙◌}
use Rattle.osm_base.specs.declared.values.key.Kind.TheVariants.{Node, Relation}
use Rattle.osm_base.specs.map.Listers.{ids_of}
use Rattle.osm_base.specs.map.Objects.{ObjectSet}
use Rattle.update_step.proofs.NewEntries.{relations-are}
use Rattle.update_step.proofs.new_objects.NewObjectsLookup.relations_of_node.Goals as goal

pub returns-clause-relations : goal.returns-clause-relations
returns-clause-relations c =
    c.relations_of_node.ensures.relations
    ∙ ap (λ (own : ObjectSet). ids_of Relation Node c.args.id own) c.self.invariant
    ∙ relations-are c.self.inside.change.now Node c.args.id
    ∙ ap (λ (own : ObjectSet). ids_of Relation Node c.args.id own) c.self.view_is
