use Rattle.std.proofs.Common.{◌≡◌, Option, sym, subst, ◌∙◌}
use Rattle.osm_base.specs.declared.values.key.Kind.TheVariants as kinds
use Rattle.value_bytes.specs.Nodes.{record_bytes, IsRecord}
use Rattle.value_bytes.specs.declared.nodes.NodeRecord.{NodeRecord}
use Rattle.store_check.specs.Held.{HeldOf}
use Rattle.store_check.specs.Judging.{FindsRight, IsKnownIf, Takes}
use Rattle.store_check.proofs.Taking.{bare_node_taken, node_taken}
use Rattle.store_check.proofs.judging.judge_node.Goals.{in-Some-place+in_ok-put_place, in_default-place}
use Rattle.store_check.proofs.judging.judge_node.Goals as goal

pub returns-clause-takes : goal.returns-clause-takes
returns-clause-takes c image there =
    let asked = c.args.asked in
    let found = subst (λ (o : Option NodeRecord). FindsRight record_bytes IsRecord (IsKnownIf asked) c.args.id c.args.bytes.now o)
    c.in-Some.is c.in_ok-record.ensures.right in
    elim c.match-record.branch [
      | in-Some-place+in_ok-put_place w ↦
          subst (λ (own : HeldOf). Takes asked image kinds.Node (λ key. c.args.id ≡ key) c.args.held.now own)
          (sym (w.held-is ∙ w.in_ok-put_place.ensures.ok))
          (node_taken asked image c.args.id c.args.bytes.now c.in-Some.record c.args.held.now w.in-Some-place.place there found.spells
          w.in-Some-place.is)
      | in_default-place w ↦
          subst (λ (own : HeldOf). Takes asked image kinds.Node (λ key. c.args.id ≡ key) c.args.held.now own) (sym w.held-is)
          (bare_node_taken asked image c.args.id c.args.bytes.now c.in-Some.record c.args.held.now there found.spells w.in_default-place.is)
    ]
