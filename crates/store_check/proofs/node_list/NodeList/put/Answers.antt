use Rattle.std.proofs.Common.{◌≡◌, ◌++◌, ℕ, List, None, refl, ap, subst, ◌∙◌}
use Rattle.std.specs.FinMap as finite
use Rattle.std.specs.Ordering.{nat_cmp}
use Rattle.osm_base.specs.values.Place.{PlaceOf}
use Rattle.store_check.specs.Places.{PlaceMap}
use Rattle.store_check.proofs.PlaceFinds.{none_listed, put_behind, put_rest}
use Rattle.store_check.proofs.node_list.NodeList.put.Goals as goal

pub returns-in_ok-push-clause-ok : goal.returns-in_ok-push-clause-ok
returns-in_ok-push-clause-ok c =
    let rest = c.self.inside.rest.entries in
    ap (λ (listed : List (ℕ × PlaceOf)). finite.from_entries {R = nat_cmp} (rest ++ listed)) c.in_ok-push.ensures.items
    ∙ put_behind rest c.self.inside.listed.items c.args.id c.args.place (none_listed rest (c.if-is_empty.ensures.0 refl))
    (subst (λ listed. finite.find nat_cmp c.args.id listed ≡ None) c.deref.ensures.value (c.if-is_behind.ensures.none refl))
    ∙ ap (λ (own : PlaceMap). finite.insert own c.args.id c.args.place) c.self.view_is

pub returns-in_ok-insert-clause-ok : goal.returns-in_ok-insert-clause-ok
returns-in_ok-insert-clause-ok c =
    put_rest c.self.inside.rest c.insert.new.self c.self.inside.listed.items c.args.id c.args.place c.in_ok-insert.ensures.updates
    ∙ ap (λ (own : PlaceMap). finite.insert own c.args.id c.args.place) c.self.view_is
