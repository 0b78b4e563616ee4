-- A store that means something refuses no call that reads it.
use Rattle.std.proofs.Common.{◌≡◌, ◌∙◌, Option, Some, Err, sym, ap, subst}
use Rattle.std.specs.Prelude.{IfSome}
use Rattle.chain_store.specs.Chains.{kept_of, root_of}
use Rattle.chain_store.specs.Store.{kept_first}
use Rattle.chain_store.specs.declared.kept.Kept.{Kept}
use Rattle.chain_store.specs.declared.root.Root.{Root}
use Rattle.bucket_store.specs.Buckets.{chain_at}
use Rattle.bucket_store.specs.Image.{Has, Image}
use Rattle.bucket_store.specs.Transaction.{chains_of}
use Rattle.value_bytes.specs.StoreMap.{map_number}
use Rattle.store_check.specs.Wrong.{IsFirstWrong}
use Rattle.store_check.specs.declared.wrong.Wrong.{Wrong}
use Rattle.update_flow.specs.Within.{IsSound}
use Rattle.update_flow.specs.declared.fault.FlowFault.{FlowFault}
use Rattle.update_flow.proofs.Openings.{bad_none, sound_store}
use Rattle.update_flow.proofs.judging.judge_values.Goals as goal

pub returns-in-Ok-None-clause-right : goal.returns-in-Ok-None-clause-right
returns-in-Ok-None-clause-right g c = λ image has. c.in-Ok-None.ensures.right c.in-Ok-None.field-0-is image has

pub returns-in-Err-clause-wrong : goal.returns-in-Err-clause-wrong
returns-in-Err-clause-wrong g c = λ at is image has.
    absurd (bad_none (Unit {0}) (Err c.store_fault.result) at is
    (subst (λ (f : FlowFault). IsSound (Some f)) (sym c.store_fault.ensures)
    (sound_store (Option Wrong) c.in-Err.fault (c.in-Err.ensures.sound image has))))

-- the bucket begins where it began before
pub returns-in-Ok-Some-clause-wrong : goal.returns-in-Ok-Some-clause-wrong
returns-in-Ok-Some-clause-wrong g c = λ at is image has.
    let old = c.args.buckets.now in
    let new = c.first_wrong.new.buckets in
    let stays = c.in-Ok-Some.ensures.looks.stays in
    let which = map_number c.in-Ok-Some.wrong.map in
    let key = c.in-Ok-Some.wrong.key in
    let first : (rest : Image) → Has rest rest old → IsFirstWrong c.args.style.now rest c.in-Ok-Some.wrong.map key =
    subst (λ (found : Option Wrong). IfSome found (λ own. (rest : Image) → Has rest rest old
    → IsFirstWrong c.args.style.now rest own.map own.key)) c.in-Ok-Some.field-0-is c.in-Ok-Some.ensures.wrong in
    let page : at ≡ c.page_of.result = cc (is) in
    record {
      map = c.in-Ok-Some.wrong.map;
      key = key;
      first = first image has;
      begins = page ∙ c.page_of.ensures
          ∙ ap (λ (k : Kept). kept_first k (chain_at (root_of (chains_of new)).buckets which key)) stays.kept
          ∙ ap (λ (r : Root). kept_first (kept_of (chains_of old)) (chain_at r.buckets which key)) (stays.root ∙ has.root);
    }
