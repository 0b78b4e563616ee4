-- The version is the new one in the store that is committed.
use Rattle.std.proofs.Common.{◌≡◌, ◌∙◌, ap, subst}
use Rattle.std.specs.Result.{result_err}
use Rattle.chain_store.specs.declared.root.Root.{Root}
use Rattle.bucket_store.specs.Image.{Has, with_root}
use Rattle.bucket_store.proofs.Holding.{rests_under}
use Rattle.update_flow.specs.Settling.{counted_to}
use Rattle.update_flow.specs.Taking.{versioned}
use Rattle.update_flow.proofs.Turning.{commits_after, ends_then}
use Rattle.update_flow.proofs.following.finish_delta.Goals as goal

pub returns : goal.returns
returns g c = record {
  commits = record {
    commits = λ limits rest now same has.
        let version = c.args.version in
        let looks = c.set_root.ensures.fields.same in
        let root : counted_to version c.root-root.result ≡ counted_to version now.root =
        ap (λ (r : Root). counted_to version r) (c.root-root.ensures ∙ has.root) in
        commits_after limits (result_err c.finish.result) rest (versioned version now) c.args.buckets.now c.set_root.new.self
        c.finish.new.buckets (rests_under rest now c.args.buckets.now has) looks
        (c.finish.ensures.commits.commits limits rest (versioned version now) (looks.looked.limit ∙ same)
        (subst (λ (r : Root). Has rest (with_root r now) c.set_root.new.self) root (c.set_root.ensures.has rest now has)));
    ends = λ step. ends_then (result_err c.finish.result) c.args.buckets.now c.set_root.new.self c.finish.new.buckets
        c.set_root.ensures.fields.same (c.finish.ensures.commits.ends step);
  };
}
