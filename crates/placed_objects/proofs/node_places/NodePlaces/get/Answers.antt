use Rattle.std.proofs.Common.{◌≡◌, false, refl, sym, ap, subst, ◌∙◌}
use Rattle.std.specs.FinMap as map
use Rattle.osm_base.specs.values.Ids.{has}
use Rattle.object_fold.specs.RisingIds.{StandsAt}
use Rattle.placed_objects.specs.NodePlaces.{PlaceMap}
use Rattle.placed_objects.proofs.Placed.{found-none, get-as_map, get-at}
use Rattle.placed_objects.proofs.node_places.NodePlaces.get.Goals as goal

pub returns-in-Some : goal.returns-in-Some
returns-in-Some c =
    let stands = subst (λ ids. StandsAt ids c.args.id c.in-Some.at) c.deref.ensures.value c.in-Some.ensures.there in
    record {
      place = get-at c.self.inside.ids.items c.self.inside.places.items c.in-Some.at c.args.id c.index.result.now c.self.invariant stands
          c.index.ensures
          ∙ ap (λ (own : PlaceMap). map.get own c.args.id) c.self.view_is;
    }

pub returns-in-None : goal.returns-in-None
returns-in-None c =
    let not = subst (λ ids. has ids c.args.id ≡ false) c.deref.ensures.value (c.in-None.ensures.none refl) in
    record {
      place = sym (get-as_map c.self.inside.ids.items c.self.inside.places.items c.args.id
          ∙ found-none c.self.inside.ids.items c.self.inside.places.items c.args.id not)
          ∙ ap (λ (own : PlaceMap). map.get own c.args.id) c.self.view_is;
    }
