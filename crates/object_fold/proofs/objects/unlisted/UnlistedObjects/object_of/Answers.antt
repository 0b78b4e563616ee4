use Rattle.std.proofs.Common.{◌∙◌, ap}
use Rattle.std.specs.FinMap as map
use Rattle.osm_base.specs.map.Objects.{ObjectSet}
use Rattle.object_fold.proofs.OfObjects.{got}
use Rattle.object_fold.proofs.objects.unlisted.UnlistedObjects.object_of.Goals as goal

pub returns : goal.returns
returns c = record {
  object = c.get.ensures.value ∙ got c.self.inside.objects c.args.key ∙ ap (λ (own : ObjectSet). map.get own c.args.key) c.self.view_is;
}
