-- The records of a bucket that was brought are put to the others.
use Rattle.std.proofs.Common.{Err, ap, refl, subst, ℕ, ◌∙◌}
use Rattle.std.specs.FinMap as map
use Rattle.page_journal.specs.declared.fault.StoreFault.TheVariants.{OutOfMemory}
use Rattle.chain_store.specs.declared.root.Root.{Root}
use Rattle.bucket_records.specs.Records.{BucketMap}
use Rattle.bucket_store.specs.Buckets.{HasKeysOf, bucket_count, bucket_in}
use Rattle.bucket_store.specs.Whole.{with_records}
use Rattle.bucket_store.proofs.Frames.{keeps_after, touches_after}
use Rattle.bucket_store.proofs.Openings.{content_own, there_own}
use Rattle.bucket_store.proofs.buckets.Buckets.add_bucket.Goals as goal

pub returns-in-Ok-clause-added : goal.returns-in-Ok-clause-added
returns-in-Ok-clause-added g c pages was values has =
    let mid = c.bring_chain.new.self in
    let done = c.in_default.ensures in
    let there = there_own (map.get mid.cache c.args.n) done.only.brings.there in
    let same = content_own pages mid.chains (map.get mid.cache c.args.n) c.args.n there.0 values there.1
    (done.only.brings.keeps.content pages was c.args.n values has) in (
      c.in-Ok.ensures.added there.0 there.1 ∙ ap (λ (m : BucketMap). with_records (map.entries m) c.args.whole.now) same,
      subst (λ (k : ℕ). HasKeysOf k (bucket_in c.args.n) values) (ap (λ (r : Root). r.buckets) done.only.touches.stays.root)
          (subst (λ (m : BucketMap). HasKeysOf (bucket_count mid.chains) (bucket_in c.args.n) m) same (mid.own c.args.n there.0 there.1).1),
    )

pub returns-in-Err-take_records-clause-only : goal.returns-in-Err-take_records-clause-only
returns-in-Err-take_records-clause-only g c =
    let old = c.args.self.now in
    let mid = c.bring_chain.new.self in
    let done = c.in_default.ensures.only in
    record {
      brings = record {
        there = tt;
        had = tt;
        answers = λ pages was. tt;
        sound = λ rest now has. tt;
        keeps = keeps_after old mid _ _ (Err OutOfMemory) done.brings.keeps refl refl;
      };
      contents = tt;
      touches = touches_after c.args.n old mid _ _ (Err OutOfMemory) done.touches refl (λ pages was. was) refl tt refl;
    }
