use Rattle.std.proofs.Common.{◌≡◌, false, refl, sym, ap, subst, ◌∙◌}
use Rattle.std.specs.FinMap as map
use Rattle.osm_base.specs.values.Ids.{has}
use Rattle.object_fold.specs.RisingIds.{StandsAt}
use Rattle.placed_objects.specs.NodePlaces.{PlaceMap}
use Rattle.placed_objects.proofs.Placed.{remove-none, set-none}
use Rattle.placed_objects.proofs.node_places.NodePlaces.take_out.Goals as goal

pub returns-in-Some : goal.returns-in-Some
returns-in-Some c =
    let stands = subst (λ ids. StandsAt ids c.args.id c.in-Some.at) c.deref.ensures.value c.in-Some.ensures.there in
    record {
      left = set-none c.self.inside.ids.items c.self.inside.places.items c.in-Some.at c.args.id c.self.invariant stands
          ∙ ap (λ (own : PlaceMap). map.remove own c.args.id) c.self.view_is;
    }

pub returns-in_default : goal.returns-in_default
returns-in_default c =
    let not = subst (λ ids. has ids c.args.id ≡ false) c.deref.ensures.value (c.in_default.ensures.none refl) in
    record {
      left = sym c.self.view_is ∙ remove-none c.self.inside.ids.items c.self.inside.places.items c.args.id not
          ∙ ap (λ (own : PlaceMap). map.remove own c.args.id) c.self.view_is;
    }
