-- A store is surveyed, and what it means is judged.
use Rattle.std.proofs.Common.{◌≡◌, Some, sym, subst}
use Rattle.std.specs.Result.{result_err}
use Rattle.chain_store.specs.Chains.{kept_of}
use Rattle.chain_store.specs.declared.kept.Kept.{Kept}
use Rattle.store_check.specs.BadPage.{AreLoaded, AreOwned}
use Rattle.bucket_store.specs.Transaction.{chains_of}
use Rattle.update_flow.specs.Judged.{Judges}
use Rattle.update_flow.specs.declared.fault.FlowFault.{FlowFault}
use Rattle.update_flow.proofs.Judgements.{survey_judges}
use Rattle.update_flow.proofs.judging.judge.Goals as goal

pub returns-in-Err-clause-exact : goal.returns-in-Err-clause-exact
returns-in-Err-clause-exact g c = λ pages opens today.
    subst (λ (f : FlowFault). Judges pages (kept_of (chains_of c.args.buckets.now)) (Some f)) (sym c.store_fault.ensures)
    (survey_judges pages (kept_of (chains_of c.args.buckets.now)) opens.open_chains.keeps c.in-Err.fault (c.in-Err.ensures.answers pages opens))

pub returns-in-Ok-clause-exact : goal.returns-in-Ok-clause-exact
returns-in-Ok-clause-exact g c = λ pages opens today.
    let found = c.in-Ok.ensures.answers pages opens in
    let kept : kept_of (chains_of c.survey.new.buckets) ≡ kept_of (chains_of c.args.buckets.now) = c.in-Ok.ensures.looks.stays.kept in
    subst (λ (k : Kept). Judges pages k (result_err c.judge_surveyed.result)) kept
    (c.judge_surveyed.ensures.exact pages (c.in-Ok.ensures.open pages opens) today
    (subst (λ (k : Kept). AreLoaded pages k) (sym kept) found.0) (subst (λ (k : Kept). AreOwned pages k) (sym kept) found.1))
