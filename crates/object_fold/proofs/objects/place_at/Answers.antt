use Rattle.std.proofs.Common.{◌∙◌, ap}
use Rattle.std.specs.FinMap as map
use Rattle.osm_base.specs.values.Key.{KeyOf}
use Rattle.osm_base.specs.map.Objects.{objects_in, place_in}
use Rattle.object_fold.proofs.OfObjects.{got}
use Rattle.object_fold.proofs.objects.place_at.Goals as goal

pub returns-in-Some : goal.returns-in-Some
returns-in-Some c = record {
  place = c.place_in.ensures.place
      ∙ ap place_in (c.in-Some.ensures.value ∙ got c.args.objects.now c.new.result
      ∙ ap (λ (key : KeyOf). map.get (objects_in c.args.objects.now) key) c.new.ensures.fields);
}

pub returns-in-None : goal.returns-in-None
returns-in-None c = record {
  place = ap place_in (c.in-None.ensures.value ∙ got c.args.objects.now c.new.result
      ∙ ap (λ (key : KeyOf). map.get (objects_in c.args.objects.now) key) c.new.ensures.fields);
}
