-- One text behind another.
use Rattle.std.proofs.Common.{◌+◌, ◌∙◌, Bool, None, sym, subst, arith}
use Rattle.chain_store.specs.Chains.{kept_of}
use Rattle.chain_store.specs.Store.{IsRefused, kept_first}
use Rattle.chain_store.specs.declared.kept.Kept.{Kept}
use Rattle.bucket_store.specs.Transaction.{chains_of}
use Rattle.update_flow.specs.Judged.{AreEmptyBelow}
use Rattle.update_flow.proofs.Judgements.{chains_next, empty_next, reads_then}
use Rattle.update_flow.proofs.Running.{runs_then}
use Rattle.update_flow.proofs.judging.are_empty.Goals as goal

pub returns-in-Err-clause-refused : goal.returns-in-Err-clause-refused
returns-in-Err-clause-refused g c = λ at is pages opens.
    let own = c.in-Err.ensures.refused at is pages (c.loop-n.invariant.opens pages opens) in (
      own.0,
      (
        own.1.0,
        own.1.1,
        own.1.2,
        subst (λ (k : Kept). IsRefused pages own.1.0 (kept_first k own.1.0) own.1.1) c.loop-n.invariant.reads.stays.kept own.1.3,
      ),
    )

pub loop-n-preserved : goal.loop-n-preserved
loop-n-preserved g c =
    let inv = c.loop-n.invariant in
    let own = c.in-Ok.ensures in
    let old = c.args.buckets.now in
    let mid = c.loop-n.buckets in
    let new = c.is_unused_empty.new.buckets in
    record {
      few = omega (arith, c.loop-n-test.true);
      going = record { going = own.reads.only.going; whole = own.reads.runs.whole tt };
      runs = runs_then old mid new None inv.runs own.reads.runs;
      reads = reads_then old mid new inv.reads own.reads.only;
      opens = λ pages opens. c.is_unused_empty.ensures.open pages (inv.opens pages opens);
      chains = λ pages opens none. chains_next pages (kept_of (chains_of old)) (kept_of (chains_of mid)) c.loop-n.n
          inv.reads.stays.kept
          (inv.chains pages opens none) (own.chain pages (inv.opens pages opens) (inv.reads.stays.written ∙ none));
      tells = λ rest was. subst (λ (b : Bool). AreEmptyBelow (c.loop-n.n + 1) b rest) (sym c.are_both-empty.ensures)
          (empty_next c.loop-n.n c.loop-n.empty c.in-Ok.one rest (inv.tells rest was) (own.tells rest (inv.reads.has rest was)));
    }
