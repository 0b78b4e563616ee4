-- The fields are those of a follower's store in the store that is committed.
use Rattle.std.proofs.Common.{◌≡◌, ◌∙◌, ap, subst}
use Rattle.std.specs.Result.{result_err}
use Rattle.chain_store.specs.declared.root.Root.{Root}
use Rattle.bucket_store.specs.Image.{Has, with_root, with_text}
use Rattle.bucket_store.proofs.Holding.{looks_then, rests_under}
use Rattle.bucket_store.proofs.Images.{root_with_text}
use Rattle.update_flow.specs.Taking.{following_root, styled}
use Rattle.update_flow.specs.declared.fields.TheConstants.{STYLE_TEXT}
use Rattle.update_flow.proofs.Turning.{commits_after, commits_refused, ends_then, runs_ended}
use Rattle.update_flow.proofs.following.finish_whole.Goals as goal

pub returns-in-Ok : goal.returns-in-Ok
returns-in-Ok g c = record {
  commits = record {
    commits = λ limits rest now same has.
        let bytes = c.args.style_bytes in
        let version = c.args.version in
        let text = with_text STYLE_TEXT bytes now in
        let stored = c.in-Ok.ensures.stores.stored rest now has in
        let rooted = c.set_root.ensures.has rest text stored in
        let root : following_root version c.root-root.result.buckets ≡ following_root version now.root.buckets =
        ap (λ (r : Root). following_root version r.buckets) (c.root-root.ensures ∙ stored.root ∙ root_with_text STYLE_TEXT bytes now) in
        let looks = looks_then c.args.buckets.now c.keep_style.new.buckets c.set_root.new.self c.in-Ok.ensures.stores.runs.looks
        c.set_root.ensures.fields.same in
        commits_after limits (result_err c.finish.result) rest (styled version bytes now) c.args.buckets.now c.set_root.new.self
        c.finish.new.buckets (rests_under rest now c.args.buckets.now has) looks
        (c.finish.ensures.commits.commits limits rest (styled version bytes now) (looks.looked.limit ∙ same)
        (subst (λ (r : Root). Has rest (with_root r text) c.set_root.new.self) root rooted));
    ends = λ step.
        ends_then (result_err c.finish.result) c.args.buckets.now c.set_root.new.self c.finish.new.buckets
        (looks_then c.args.buckets.now c.keep_style.new.buckets c.set_root.new.self c.in-Ok.ensures.stores.runs.looks
        c.set_root.ensures.fields.same) (c.finish.ensures.commits.ends step);
  };
}

pub returns-in-Err : goal.returns-in-Err
returns-in-Err g c = record {
  commits = record {
    commits = λ limits rest now same has.
        commits_refused limits c.in-Err.fault rest (styled c.args.version c.args.style_bytes now) c.args.buckets.now c.keep_style.new.buckets
        (rests_under rest now c.args.buckets.now has) c.in-Err.ensures.stores.runs.looks (c.in-Err.ensures.stores.sound rest now has);
    ends = λ step. runs_ended _ c.args.buckets.now c.keep_style.new.buckets c.in-Err.ensures.stores.runs;
  };
}
