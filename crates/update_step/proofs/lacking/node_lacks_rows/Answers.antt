use Rattle.std.proofs.Common.{rules, ◌≡◌, true, not, is_some, sym, ap, subst, ◌∙◌}
use Rattle.std.specs.FinMap as finite
use Rattle.osm_base.specs.declared.values.key.Kind.TheVariants as kinds
use Rattle.osm_base.specs.map.Listers.{is_kind}
use Rattle.osm_base.specs.values.Key.{KeyOf}
use Rattle.row_rules.specs.Wanted.{may_have_rows}
use Rattle.store_maps.specs.Maps.{object_in}
use Rattle.store_maps.specs.Named.{place_in}
use Rattle.update_step.proofs.Unknown.{known-unplaced, unplaced}
use Rattle.update_step.proofs.WithoutRows.{known-some, lacks-place, lacks-unwanted, none-found, not-true}
use Rattle.update_step.proofs.lacking.node_lacks_rows.Goals as goal

pub returns-then-is_none-clause-none : goal.returns-then-is_none-clause-none
returns-then-is_none-clause-none g c under maps objects held on lacks =
    let key : KeyOf = c.args.key in
    let at : c.in_ok-place.place ≡ place_in (finite.get maps.nodes key.id) =
    subst (λ (own : KeyOf). c.in_ok-place.place ≡ place_in (finite.get maps.nodes own.id)) c.key.view_is (search (rules, held)) in
    lacks-place c.args.style.now maps objects on key c.requires.node
    (sym at ∙ none-found c.in_ok-place.place (c.is_none.ensures ∙ ap not c.if-is_none.true))

pub returns-then-is_none-clause-unplaced : goal.returns-then-is_none-clause-unplaced
returns-then-is_none-clause-unplaced g c under maps held lacks =
    let key : KeyOf = c.args.key in
    let at : c.in_ok-place.place ≡ place_in (finite.get maps.nodes key.id) =
    subst (λ (own : KeyOf). c.in_ok-place.place ≡ place_in (finite.get maps.nodes own.id)) c.key.view_is (search (rules, held)) in
    unplaced maps key (sym at ∙ none-found c.in_ok-place.place (c.is_none.ensures ∙ ap not c.if-is_none.true))

pub returns-clause-none : goal.returns-clause-none
returns-clause-none g c under maps objects held on lacks =
    let key : KeyOf = c.args.key in
    let is : c.in_ok-object.object ≡ object_in maps key.kind key.id =
    (let still : g.S.MapStore.holds c.place.new.self under maps = search (rules, held) in search (rules, still)) in
    let there : is_some c.in_ok-object.object ≡ true = c.is_none-2.ensures ∙ ap not c.if-is_none-2.false in
    let known = known-some (is_kind kinds.Node key.kind) (object_in maps key.kind key.id) (ap is_some (sym is) ∙ there) in
    lacks-unwanted c.args.style.now maps objects on key known
    (ap (may_have_rows c.args.style.now) (sym is) ∙ sym c.may_have_rows.ensures.may ∙ not-true c.may_have_rows.result lacks)

pub returns-clause-unplaced : goal.returns-clause-unplaced
returns-clause-unplaced g c under maps held lacks =
    let key : KeyOf = c.args.key in
    let is : c.in_ok-object.object ≡ object_in maps key.kind key.id =
    (let still : g.S.MapStore.holds c.place.new.self under maps = search (rules, held) in search (rules, still)) in
    let there : is_some c.in_ok-object.object ≡ true = c.is_none-2.ensures ∙ ap not c.if-is_none-2.false in
    known-unplaced maps key (known-some (is_kind kinds.Node key.kind) (object_in maps key.kind key.id) (ap is_some (sym is) ∙ there))
