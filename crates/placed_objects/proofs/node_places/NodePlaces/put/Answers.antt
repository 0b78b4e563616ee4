use Rattle.std.proofs.Common.{◌≡◌, false, refl, ap, subst, ◌∙◌}
use Rattle.std.specs.FinMap as map
use Rattle.osm_base.specs.values.Ids.{has}
use Rattle.object_fold.specs.RisingIds.{StandsAt}
use Rattle.placed_objects.specs.NodePlaces.{PlaceMap}
use Rattle.placed_objects.proofs.Placed.{as_map, pushed, set-some}
use Rattle.placed_objects.proofs.node_places.NodePlaces.put.Goals as goal

pub returns-then-is_behind-clause-ok : goal.returns-then-is_behind-clause-ok
returns-then-is_behind-clause-ok c =
    let not = subst (λ ids. has ids c.args.id ≡ false) c.deref.ensures.value (c.if-is_behind.ensures.none refl) in
    (λ i. as_map (c.in_ok-push_both.ensures.ids i) (c.in_ok-push_both.ensures.places i))
    ∙ pushed c.self.inside.ids.items c.self.inside.places.items c.args.id c.args.place c.self.invariant not
    ∙ ap (λ (own : PlaceMap). map.insert own c.args.id c.args.place) c.self.view_is

pub returns-in-Some-clause-ok : goal.returns-in-Some-clause-ok
returns-in-Some-clause-ok c =
    let stands = subst (λ ids. StandsAt ids c.args.id c.in-Some.at) c.deref-2.ensures.value c.in-Some.ensures.there in
    set-some c.self.inside.ids.items c.self.inside.places.items c.in-Some.at c.args.id c.args.place c.self.invariant stands
    ∙ ap (λ (own : PlaceMap). map.insert own c.args.id c.args.place) c.self.view_is
