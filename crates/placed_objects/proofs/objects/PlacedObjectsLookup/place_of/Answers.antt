use Rattle.std.proofs.Common.{Option, sym, ap, ◌∙◌}
use Rattle.std.specs.Option.{option_or}
use Rattle.osm_base.specs.map.Listers.{known_of}
use Rattle.osm_base.specs.map.Objects.{ObjectSet}
use Rattle.osm_base.specs.values.Place.{PlaceOf}
use Rattle.placed_objects.proofs.Joined.{joined_objects-known}
use Rattle.placed_objects.proofs.objects.PlacedObjectsLookup.place_of.Goals as goal

pub returns-in-Some : goal.returns-in-Some
returns-in-Some c = record {
  place = ap (λ (found : Option PlaceOf). option_or found ((known_of c.self.inside.others).place c.args.id)) c.in-Some.ensures.place
      ∙ sym (joined_objects-known c.self.inside.places c.self.inside.others c.args.id)
      ∙ ap (λ (own : ObjectSet). (known_of own).place c.args.id) c.self.view_is;
}

pub returns-in-None : goal.returns-in-None
returns-in-None c = record {
  place = c.place_of.ensures.place
      ∙ ap (λ (found : Option PlaceOf). option_or found ((known_of c.self.inside.others).place c.args.id)) c.in-None.ensures.place
      ∙ sym (joined_objects-known c.self.inside.places c.self.inside.others c.args.id)
      ∙ ap (λ (own : ObjectSet). (known_of own).place c.args.id) c.self.view_is;
}
