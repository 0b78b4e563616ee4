-- The due tiles, and then the number of changes, are in the store that is committed.
use Rattle.std.proofs.Common.{◌≡◌, ◌∙◌, ap, subst, ℕ}
use Rattle.std.specs.Result.{result_err}
use Rattle.due_tiles.specs.Spelling.{set_bytes}
use Rattle.chain_store.specs.declared.root.Root.{Root}
use Rattle.bucket_store.specs.Image.{Has, with_root, with_text}
use Rattle.bucket_store.proofs.Holding.{looks_then, rests_under}
use Rattle.bucket_store.proofs.Images.{root_with_text}
use Rattle.update_flow.specs.Settling.{counted_to, committed_due}
use Rattle.update_flow.specs.declared.fields.TheConstants.{DUE_TEXT}
use Rattle.update_flow.proofs.Turning.{commits_after, commits_refused, ends_then, runs_ended}
use Rattle.update_flow.proofs.ReadLaws.{ok_then, reads_before, reads_root, wider_commit}
use Rattle.update_flow.proofs.settling.commit_due.Goals as goal

pub returns-in-Ok-clause-commits : goal.returns-in-Ok-clause-commits
returns-in-Ok-clause-commits g c = record {
  commits = λ limits rest now same has.
      let text = with_text DUE_TEXT (set_bytes c.args.due.now) now in
      let stored = c.in-Ok.ensures.stores.stored rest now has in
      let rooted = c.set_root.ensures.has rest text stored in
      let root : counted_to c.args.number c.root-root.result ≡ counted_to c.args.number now.root =
      ap (λ (r : Root). counted_to c.args.number r)
      (c.root-root.ensures ∙ stored.root ∙ root_with_text DUE_TEXT (set_bytes c.args.due.now) now) in
      let looks = looks_then c.args.buckets.now c.store_due.new.buckets c.set_root.new.self c.in-Ok.ensures.stores.runs.looks
      c.set_root.ensures.fields.same in
      commits_after limits (result_err c.finish.result) rest
      (committed_due c.args.number c.args.due.now now) c.args.buckets.now c.set_root.new.self c.finish.new.buckets
      (rests_under rest now c.args.buckets.now has) looks
      (c.finish.ensures.commits.commits limits rest (committed_due c.args.number c.args.due.now now) (looks.looked.limit ∙ same)
      (subst (λ (r : Root). Has rest (with_root r text) c.set_root.new.self) root rooted));
  ends = λ step.
      ends_then (result_err c.finish.result) c.args.buckets.now c.set_root.new.self c.finish.new.buckets
      (looks_then c.args.buckets.now c.store_due.new.buckets c.set_root.new.self c.in-Ok.ensures.stores.runs.looks
      c.set_root.ensures.fields.same) (c.finish.ensures.commits.ends step);
}

pub returns-in-Err-clause-commits : goal.returns-in-Err-clause-commits
returns-in-Err-clause-commits g c = record {
  commits = λ limits rest now same has.
      commits_refused limits c.in-Err.fault rest (committed_due c.args.number c.args.due.now now) c.args.buckets.now c.store_due.new.buckets
      (rests_under rest now c.args.buckets.now has) c.in-Err.ensures.stores.runs.looks (c.in-Err.ensures.stores.sound rest now has);
  ends = λ step. runs_ended _ c.args.buckets.now c.store_due.new.buckets c.in-Err.ensures.stores.runs;
}

pub returns-in-Ok-clause-reads : goal.returns-in-Ok-clause-reads
returns-in-Ok-clause-reads g c =
    ok_then c.finish.result c.finish.ensures.reads (λ reads rest now has.
    let due : ℕ → Type 0 = λ n. n ≡ DUE_TEXT in
    let text = with_text DUE_TEXT (set_bytes c.args.due.now) now in
    let rooted = c.set_root.ensures.has rest text (c.in-Ok.ensures.stores.stored rest now has) in
    let old = c.args.buckets.now in
    let mid = c.store_due.new.buckets in
    let last = c.set_root.new.self in
    let new = c.finish.new.buckets in
    reads_before due old mid new c.in-Ok.ensures.stores.runs.looks c.in-Ok.ensures.reads
    (reads_before due mid last new c.set_root.ensures.fields.same
    (reads_root due mid last c.set_root.ensures.fields.journal c.set_root.ensures.fields.read)
    (wider_commit (λ _. ⊥) due last new (λ n none. absurd none) (reads rest _ rooted))))
