use Rattle.std.proofs.Common.{refl, sym, ap, ◌∙◌}
use Rattle.osm_base.specs.declared.values.key.Kind.TheVariants as kinds
use Rattle.osm_base.specs.map.Listers.{ids_of}
use Rattle.osm_base.specs.map.Objects.{ObjectSet}
use Rattle.placed_objects.proofs.Joined.{joined_objects-lists}
use Rattle.placed_objects.proofs.objects.PlacedObjectsLookup.relations_of_node.Goals as goal

pub returns-clause-relations : goal.returns-clause-relations
returns-clause-relations c =
    c.relations_of_node.ensures.relations
    ∙ sym (joined_objects-lists c.self.inside.places c.self.inside.others kinds.Relation kinds.Node c.args.id refl)
    ∙ ap (λ (own : ObjectSet). ids_of kinds.Relation kinds.Node c.args.id own) c.self.view_is
