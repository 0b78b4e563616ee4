use Rattle.std.proofs.Common.{sym, ap, ◌∙◌}
use Rattle.osm_base.specs.map.Listers.{index_of}
use Rattle.osm_base.specs.map.Objects.{ObjectSet}
use Rattle.placed_objects.proofs.Joined.{joined_objects-index}
use Rattle.placed_objects.proofs.objects.PlacedObjects.index.Goals as goal

pub returns : goal.returns
returns c = record {
  same = ap (λ (own : ObjectSet). index_of own) c.new.ensures.objects
      ∙ sym (joined_objects-index c.self.inside.places c.self.inside.others)
      ∙ ap (λ (own : ObjectSet). index_of own) c.self.view_is;
}
