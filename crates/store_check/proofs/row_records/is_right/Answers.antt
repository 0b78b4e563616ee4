use Rattle.std.proofs.Common.{ap, sym, ◌∙◌}
use Rattle.osm_base.specs.values.Key.{KeyOf}
use Rattle.osm_base.specs.declared.values.key.Kind.TheVariants as kinds
use Rattle.osm_base.specs.map.Listers.{is_kind}
use Rattle.store_check.proofs.RowRight.{node_judged_at, other_judged_at}
use Rattle.store_check.proofs.row_records.is_right.Goals as goal

pub returns-in_ok-is_right_node-in-Node : goal.returns-in_ok-is_right_node-in-Node
returns-in_ok-is_right_node-in-Node c = record {
  right = λ rest nodes ways relations tells there kept_is.
      node_judged_at c.args.style.now rest nodes ways relations c.args.held.now tells c.in_ok-is_right_node-in-Node.field-0 c.args.kept.now
      c.args.key.kind c.args.key.id c.args.bytes.now (sym (ap (λ (own : KeyOf). own.kind) c.key.view_is) ∙ c.in-Node.is) kept_is c.in_ok-is_right_node-in-Node.ensures.right there;
}

pub returns-in_ok-is_right_other-in-Way : goal.returns-in_ok-is_right_other-in-Way
returns-in_ok-is_right_other-in-Way c = record {
  right = λ rest nodes ways relations tells there kept_is.
      other_judged_at c.args.style.now rest nodes ways relations c.args.held.now tells c.in_ok-is_right_other-in-Way.field-0 c.args.kept.now
      c.args.key.kind c.args.key.id (ap (is_kind kinds.Node) (sym (ap (λ (own : KeyOf). own.kind) c.key.view_is) ∙ c.in-Way.is)) kept_is c.in_ok-is_right_other-in-Way.ensures.right;
}

pub returns-in_ok-is_right_other-in-Relation : goal.returns-in_ok-is_right_other-in-Relation
returns-in_ok-is_right_other-in-Relation c = record {
  right = λ rest nodes ways relations tells there kept_is.
      other_judged_at c.args.style.now rest nodes ways relations c.args.held.now tells c.in_ok-is_right_other-in-Relation.field-0 c.args.kept.now
      c.args.key.kind c.args.key.id (ap (is_kind kinds.Node) (sym (ap (λ (own : KeyOf). own.kind) c.key.view_is) ∙ c.in-Relation.is)) kept_is c.in_ok-is_right_other-in-Relation.ensures.right;
}
