use Rattle.std.proofs.Common.{rules, ◌≡◌, not, is_some, sym, ap, ◌∙◌}
use Rattle.osm_base.specs.declared.values.key.Kind.TheVariants as kinds
use Rattle.osm_base.specs.map.Listers.{is_kind}
use Rattle.osm_base.specs.values.Key.{KeyOf}
use Rattle.row_rules.specs.Wanted.{may_have_rows}
use Rattle.store_maps.specs.Maps.{object_in}
use Rattle.update_step.proofs.Unknown.{known-unplaced}
use Rattle.update_step.proofs.WithoutRows.{known-other, lacks-unwanted, not-true}
use Rattle.update_step.proofs.lacking.lacks_rows.Goals as goal

pub returns-clause-none : goal.returns-clause-none
returns-clause-none g c under maps objects held on lacks =
    let key : KeyOf = c.args.key in
    let is : c.in_ok-object.object ≡ object_in maps key.kind key.id = search (rules, held) in
    let known = known-other (is_kind kinds.Node key.kind) (not (is_some (object_in maps key.kind key.id)))
    (sym c.is_of_kind.ensures.same ∙ c.if-is_of_kind.false) in
    lacks-unwanted c.args.style.now maps objects on key known
    (ap (may_have_rows c.args.style.now) (sym is) ∙ sym c.may_have_rows.ensures.may ∙ not-true c.may_have_rows.result lacks)

pub returns-clause-unplaced : goal.returns-clause-unplaced
returns-clause-unplaced g c under maps held lacks =
    let key : KeyOf = c.args.key in
    known-unplaced maps key (known-other (is_kind kinds.Node key.kind) (not (is_some (object_in maps key.kind key.id)))
    (sym c.is_of_kind.ensures.same ∙ c.if-is_of_kind.false))
