-- All texts of a store that was only made are empty, and its changes can be counted.
use Rattle.std.proofs.Common.{◌≡◌, ◌&&◌, ◌∙◌, nat_le, Bool, Option, sym, ap, subst, arith}
use Rattle.chain_store.specs.Chains.{kept_of}
use Rattle.chain_store.specs.declared.root.Root.{Root}
use Rattle.bucket_store.specs.Transaction.{chains_of}
use Rattle.update_flow.specs.Judged.{JudgesImage, fault_unless}
use Rattle.update_flow.specs.declared.fault.FlowFault.{FlowFault}
use Rattle.update_flow.specs.declared.fault.TheConstants.{LAST_CHANGE}
use Rattle.update_flow.specs.declared.fields.TheConstants.{DUE_TEXT, STYLE_TEXT}
use Rattle.update_flow.proofs.Judgements.{made_judged, refusal_judges, text_sound}
use Rattle.update_flow.proofs.judging.judge_blank.Goals as goal

pub returns-in-Err-clause-exact : goal.returns-in-Err-clause-exact
returns-in-Err-clause-exact g c = λ image has empty made.
    refusal_judges Bool (kept_of (chains_of c.args.buckets.now)) image c.in-Err.fault (λ at is.
    absurd (text_sound c.args.buckets.now image STYLE_TEXT at has (omega arith) (c.in-Err.ensures.refused at is has.pages has.opens)))

pub returns-in-Err-is_empty-clause-exact : goal.returns-in-Err-is_empty-clause-exact
returns-in-Err-is_empty-clause-exact g c = λ image has empty made.
    let later = c.in-Ok.ensures.reads.only.has image has in
    refusal_judges Bool (kept_of (chains_of c.args.buckets.now)) image c.in-Err-is_empty.fault (λ at is.
    absurd (text_sound c.is_empty.new.buckets image DUE_TEXT at later (omega arith)
    (c.in-Err-is_empty.ensures.refused at is later.pages later.opens)))

pub returns-clause-exact : goal.returns-clause-exact
returns-clause-exact g c = λ image has empty made.
    let later = c.in-Ok.ensures.reads.only.has image has in
    let kept = kept_of (chains_of c.args.buckets.now) in
    let whole : c.is_whole.result ≡ (c.args.empty && (c.in-Ok.styleless && (c.in-Ok-is_empty.dueless && nat_le image.root.changes LAST_CHANGE))) =
    c.is_whole.ensures ∙ ap (λ (r : Root). c.args.empty && (c.in-Ok.styleless && (c.in-Ok-is_empty.dueless && nat_le r.changes LAST_CHANGE)))
    (c.root-root.ensures ∙ has.root) in
    subst (λ (f : Option FlowFault). JudgesImage kept image f) (sym (c.unless_bad.ensures ∙ ap fault_unless whole))
    (made_judged kept c.args.empty c.in-Ok.styleless c.in-Ok-is_empty.dueless image made empty (c.in-Ok.ensures.tells image has)
    (c.in-Ok-is_empty.ensures.tells image later))
