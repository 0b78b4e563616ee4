-- The style, the values, the due tiles and the other texts of an imported store are judged in this order.
use Rattle.std.proofs.Common.{Option, sym, subst}
use Rattle.chain_store.specs.Chains.{kept_of}
use Rattle.chain_store.specs.declared.kept.Kept.{Kept}
use Rattle.bucket_store.specs.Transaction.{chains_of}
use Rattle.style_read.specs.declared.style.Style.{Style}
use Rattle.store_check.proofs.ReadingLaws.{unwritten_later}
use Rattle.update_flow.specs.Judged.{IsWrongAt, JudgesImage}
use Rattle.update_flow.specs.declared.fault.FlowFault.{FlowFault}
use Rattle.update_flow.proofs.Judgements.{dueless_judged, ended_judged, refusal_judges, styleless_judged, wrong_judged}
use Rattle.update_flow.proofs.judging.judge_import.Goals as goal

-- the style was only read
pub judge_values-requires-clause-may : goal.judge_values-requires-clause-may
judge_values-requires-clause-may g c = record {
  ready = record { going = c.in-Ok.ensures.looks.only.going; whole = c.in-Ok.ensures.runs.whole tt };
  unwritten = unwritten_later c.args.buckets.now c.load_style.new.buckets c.in-Ok.ensures.looks.only.stays c.requires.may.unwritten;
}

pub returns-in-Err-clause-exact : goal.returns-in-Err-clause-exact
returns-in-Err-clause-exact g c = λ image has empty begun.
    let kept = kept_of (chains_of c.args.buckets.now) in
    refusal_judges Style kept image c.in-Err.fault (λ at is. styleless_judged kept image begun at (c.in-Err.ensures.unread at is image has))

pub returns-in-Err-judge_values-clause-exact : goal.returns-in-Err-judge_values-clause-exact
returns-in-Err-judge_values-clause-exact g c = λ image has empty begun.
    let kept = kept_of (chains_of c.args.buckets.now) in
    let later = c.in-Ok.ensures.looks.only.has image has in
    refusal_judges (Unit {0}) kept image c.in-Err-judge_values.fault (λ at is.
    wrong_judged kept image begun c.in-Ok.style (c.in-Ok.ensures.style image image has) at
    (subst (λ (k : Kept). IsWrongAt c.in-Ok.style k image at) c.in-Ok.ensures.looks.only.stays.kept
    (c.in-Err-judge_values.ensures.wrong at is image later)))

pub returns-in-Err-judge_due-clause-exact : goal.returns-in-Err-judge_due-clause-exact
returns-in-Err-judge_due-clause-exact g c = λ image has empty begun.
    let kept = kept_of (chains_of c.args.buckets.now) in
    let later = c.in-Ok.ensures.looks.only.has image has in
    refusal_judges (Unit {0}) kept image c.in-Err-judge_due.fault (λ at is.
    dueless_judged kept image begun c.in-Ok.style (c.in-Ok.ensures.style image image has) at
    (c.in-Ok-judge_values.ensures.right image later)
    (c.in-Err-judge_due.ensures.none at is image (c.in-Ok-judge_values.ensures.reads.only.has image later)))

pub returns-clause-exact : goal.returns-clause-exact
returns-clause-exact g c = λ image has empty begun.
    let kept = kept_of (chains_of c.args.buckets.now) in
    let later = c.in-Ok.ensures.looks.only.has image has in
    let due = c.in-Ok-judge_due.ensures.due image (c.in-Ok-judge_values.ensures.reads.only.has image later) in
    subst (λ (f : Option FlowFault). JudgesImage kept image f) (sym c.unless_bad.ensures)
    (ended_judged kept image begun c.in-Ok.style (c.in-Ok.ensures.style image image has) has.pages
    (record { strings = has.strings; state = has.state; spells = has.spells })
    (c.in-Ok-judge_values.ensures.right image later) due.0 due.1 c.args.empty empty)
