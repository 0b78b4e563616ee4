-- The pages mean something, and each thing that they mean is judged.
use Rattle.std.proofs.Common.{◌≡◌, ◌⊎◌, ◌∙◌, Bool, None, true, ap, rules, subst}
use Rattle.std.specs.Result.{result_err}
use Rattle.page_journal.specs.Journal.{is_broken}
use Rattle.chain_store.specs.Chains.{kept_of}
use Rattle.chain_store.specs.declared.kept.Kept.{Kept}
use Rattle.chain_store.specs.declared.root.Root.{Root}
use Rattle.bucket_store.specs.Transaction.{chains_of}
use Rattle.update_flow.specs.Judged.{JudgesImage}
use Rattle.update_flow.specs.Roots.{is_blank, is_imported}
use Rattle.update_flow.specs.Within.{RunsWithin, is_whole_store}
use Rattle.update_flow.proofs.Judgements.{begun_has, image_judges, kept_long, meant, unused_judges}
use Rattle.update_flow.proofs.Running.{runs_then}
use Rattle.update_flow.proofs.judging.judge_surveyed.Goals as goal

pub returns-in-Err-clause-exact : goal.returns-in-Err-clause-exact
returns-in-Err-clause-exact g c = λ pages opens today loaded owned.
    unused_judges pages (kept_of (chains_of c.args.buckets.now)) opens.open_chains.keeps Bool loaded owned c.in-Err.fault
    (λ at is. c.in-Err.ensures.refused at is pages opens)

-- begun anew it has changed nothing
pub judge_meant-requires : goal.judge_meant-requires
judge_meant-requires g c = record {
  may = record {
    ready = record { going = search rules; whole = ap (λ j. is_broken j) c.begin.ensures.journal ∙ c.in-Ok.ensures.reads.runs.whole tt };
    unwritten = record { written = c.begin.ensures.begun.written; root = c.begin.ensures.begun.root };
  };
}

pub returns-in-Ok-clause-exact : goal.returns-in-Ok-clause-exact
returns-in-Ok-clause-exact g c = λ pages opens today loaded owned.
    let old = c.args.buckets.now in
    let keeps = opens.open_chains.keeps in
    let kept : kept_of (chains_of c.begin.new.self) ≡ kept_of (chains_of old) =
    c.begin.ensures.kept ∙ c.in-Ok.ensures.reads.only.stays.kept in
    let whole : is_whole_store c.begin.new.self = ap (λ j. is_broken j) c.begin.ensures.journal ∙ c.in-Ok.ensures.reads.runs.whole tt in
    let later = c.begin.ensures.open pages (c.are_empty.ensures.open pages opens) in
    let own = meant pages (kept_of (chains_of old)) keeps today.count (kept_long old pages opens) loaded owned
    (c.in-Ok.ensures.chains pages opens c.requires.begun.written) in
    image_judges pages (kept_of (chains_of old)) keeps own.0 own.1 (result_err c.judge_meant.result) (λ image of.
    subst (λ (k : Kept). JudgesImage k image (result_err c.judge_meant.result)) kept
    (c.judge_meant.ensures.exact image (begun_has c.begin.new.self pages later image of c.begin.ensures.begun whole)
    (c.in-Ok.ensures.tells image (begun_has old pages opens image of c.requires.begun c.requires.ready.whole))
    (subst (λ (root : Root). (is_blank root ≡ true) ⊎ (is_imported root ≡ true)) of.state.fields today.kind)))

pub returns-in-Ok-clause-runs : goal.returns-in-Ok-clause-runs
returns-in-Ok-clause-runs g c =
    let whole : is_whole_store c.begin.new.self = ap (λ j. is_broken j) c.begin.ensures.journal ∙ c.in-Ok.ensures.reads.runs.whole tt in
    let begun : RunsWithin c.are_empty.new.buckets c.begin.new.self None =
    record { looks = c.begin.ensures.same; alone = tt; whole = λ no. whole; failed = λ is. absurd (cc (is)) } in
    runs_then c.args.buckets.now c.are_empty.new.buckets c.judge_meant.new.buckets (result_err c.judge_meant.result)
    c.in-Ok.ensures.reads.runs
    (runs_then c.are_empty.new.buckets c.begin.new.self c.judge_meant.new.buckets (result_err c.judge_meant.result) begun
    c.judge_meant.ensures.runs)
