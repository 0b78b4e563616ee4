use Rattle.std.proofs.Common.{◌≡◌, Some, sym, subst}
use Rattle.std.specs.Result.{OnOk}
use Rattle.osm_base.specs.declared.values.key.Kind.{Kind}
use Rattle.bucket_store.specs.Image.{Image}
use Rattle.store_check.specs.Judging.{Takes, bytes_in}
use Rattle.store_check.proofs.Taking.{on_ok}
use Rattle.store_check.proofs.judging.judge.Goals as goal

pub returns-in-Way-clause-takes : goal.returns-in-Way-clause-takes
returns-in-Way-clause-takes c =
    subst (λ (kind : Kind). OnOk c.judge_way.result ((image : Image) → bytes_in image kind c.args.key ≡ Some c.args.bytes.now
    → Takes c.args.asked image kind (λ own. c.args.key ≡ own) c.args.held.now c.judge_way.new.held)) (sym c.in-Way.is)
    (on_ok c.judge_way.result (λ takes. takes c.args.asked) c.judge_way.ensures.takes)

pub returns-in-Relation-clause-takes : goal.returns-in-Relation-clause-takes
returns-in-Relation-clause-takes c =
    subst (λ (kind : Kind). OnOk c.judge_relation.result ((image : Image) → bytes_in image kind c.args.key ≡ Some c.args.bytes.now
    → Takes c.args.asked image kind (λ own. c.args.key ≡ own) c.args.held.now c.judge_relation.new.held)) (sym c.in-Relation.is)
    (on_ok c.judge_relation.result (λ takes. takes c.args.asked) c.judge_relation.ensures.takes)
