-- Each turn stores a bucket, and what will be written stays.
use Rattle.std.proofs.Common.{ℕ, ◌*◌, ◌||◌, Bool, Err, IsTrue, refl, sym, ap, subst, ◌∙◌, arith}
use Rattle.std.specs.FinMap as map
use Rattle.std.specs.Option.{IsSome}
use Rattle.bucket_records.specs.Records.{AreRecords}
use Rattle.bucket_store.specs.declared.cache.Cached.{Cached}
use Rattle.chain_store.specs.declared.root.Root.{Root}
use Rattle.chain_store.specs.Chains.{disk_of, journal_of, read_of, written_of}
use Rattle.chain_store.specs.Known.{Lists}
use Rattle.outside.specs.Disk.{ReadsAtMost}
use Rattle.page_journal.specs.Answers.{answers_disk_fault}
use Rattle.page_journal.specs.Journal.{home_count, is_broken}
use Rattle.chain_store.specs.Answers.{IsReadAnswer}
use Rattle.bucket_store.proofs.Frames.{or_none, quiet_cause}
use Rattle.page_journal.proofs.ReadCounts.{reads_then}
use Rattle.chain_store.proofs.Looks.{looked_then}
use Rattle.bucket_store.specs.Buckets.{bucket_count}
use Rattle.bucket_store.proofs.Once.{all_less}
use Rattle.bucket_store.proofs.BucketLaws.{chain_given}
use Rattle.bucket_store.proofs.Caches.{fewer, rise_end, rise_less}
use Rattle.bucket_store.proofs.Openings.{buckets_less, buckets_same, some_of}
use Rattle.bucket_store.proofs.Origins.{origins_less}
use Rattle.bucket_store.proofs.Writings.{after_same, after_none, still_then}
use Rattle.bucket_store.proofs.committing.store_changed.Goals as goal

pub known_string-requires : goal.known_string-requires
known_string-requires g c =
    chain_given (bucket_count c.loop-n.chains) c.root.result.buckets c.in-Some.n (ap (λ (r : Root). r.buckets) (sym c.root.ensures))
    (c.loop-n.invariant.buckets c.in-Some.n c.in-Some.cached c.in-Some.ensures.there).0

pub loop-n-smaller : goal.loop-n-smaller
loop-n-smaller g c = fewer c.loop-n.cache c.pop.new.self c.in-Some.n c.in-Some.cached c.in-Some.ensures.there c.in-Some.ensures.rest

pub loop-n-preserved : goal.loop-n-preserved
loop-n-preserved g c =
    let so-far = c.loop-n.invariant in
    let done = c.in_default-store_bucket.ensures in
    record {
      buckets = buckets_same (bucket_count c.loop-n.chains) (bucket_count c.store_bucket.new.chains) c.pop.new.self
          (ap (λ (r : Root). r.buckets) (sym done.leaves.root))
          (buckets_less (bucket_count c.loop-n.chains) c.loop-n.cache c.pop.new.self c.in-Some.n c.in-Some.ensures.rest so-far.buckets);
      going = done.leaves.going;
      written = λ n. after_same c.loop-n.cache c.pop.new.self (written_of c.loop-n.chains)
          (written_of c.store_bucket.new.chains) c.in-Some.n
          c.in-Some.cached c.in-Some.ensures.there c.in-Some.ensures.rest done.written n ∙ so-far.written n;
      rise = λ n own there changed. rise_less c.loop-n.cache c.pop.new.self c.in-Some.n c.in-Some.cached n own
          (AreRecords 0 (map.entries own.bucket.values))
          c.in-Some.ensures.there c.in-Some.ensures.rest
          (λ same. subst (λ (it : Cached). AreRecords 0 (map.entries it.bucket.values)) same
          (done.rise (subst (λ (it : Cached). IsTrue it.changed) (sym same) changed)))
          (so-far.rise n own there changed);
      opens = λ pages was had.
          let here = so-far.opens pages was had in (
            done.open pages here.0 (here.1 c.in-Some.n c.in-Some.cached c.in-Some.ensures.there),
            origins_less pages c.loop-n.chains c.store_bucket.new.chains c.loop-n.cache c.pop.new.self c.in-Some.n c.in-Some.cached
                c.in-Some.ensures.rest
                done.leaves.kept done.written here.1,
          );
      reads = λ all.
          let so = so-far.reads all in
          let here : IsSome (map.get (read_of c.args.chains.now) c.in-Some.n) =
          so.1 c.in-Some.n (some_of (map.get c.loop-n.cache c.in-Some.n) c.in-Some.cached c.in-Some.ensures.there) in
          let one = done.reads (subst (λ (l : Lists). IsSome (map.get l c.in-Some.n)) (sym so.0) here) in (
            one.0 ∙ so.0,
            all_less (read_of c.args.chains.now) c.loop-n.cache c.pop.new.self c.in-Some.n c.in-Some.ensures.rest so.1,
            reads_then 0 0 (4096 * home_count (journal_of c.args.chains.now)) (disk_of c.args.chains.now).reads
                (disk_of c.loop-n.chains).reads
                (disk_of c.store_bucket.new.chains).reads so.2
                (subst (λ (n : ℕ). ReadsAtMost 0 (4096 * n) (disk_of c.loop-n.chains) (disk_of c.store_bucket.new.chains))
                so-far.looked.pages one.1),
          );
      kept = done.leaves.kept ∙ so-far.kept;
      root = done.leaves.root ∙ so-far.root;
      still = still_then (is_broken (journal_of c.args.chains.now)) (is_broken (journal_of c.loop-n.chains))
          (is_broken (journal_of c.store_bucket.new.chains)) so-far.still done.leaves.broken;
      later = omega (arith, so-far.later, done.leaves.cause.later);
      looked = looked_then (journal_of c.args.chains.now) (journal_of c.loop-n.chains)
          (journal_of c.store_bucket.new.chains) so-far.looked done.leaves.looked;
    }

pub returns-clause-written : goal.returns-clause-written
returns-clause-written g c n =
    sym (after_none c.loop-n.cache (written_of c.loop-n.chains) n (c.in_default.ensures.none refl)) ∙ c.loop-n.invariant.written n

pub returns-clause-rise : goal.returns-clause-rise
returns-clause-rise g c n own there changed =
    rise_end c.loop-n.cache n own (AreRecords 0 (map.entries own.bucket.values)) (c.in_default.ensures.none refl)
    (c.loop-n.invariant.rise n own there changed)

pub returns-clause-reads : goal.returns-clause-reads
returns-clause-reads g c all =
    let so = c.loop-n.invariant.reads all in
    (so.0, so.2)

pub returns-in-Err-clause-open : goal.returns-in-Err-clause-open
returns-in-Err-clause-open g c pages was had =
    let here = c.loop-n.invariant.opens pages was had in
    c.in-Err.ensures.open pages here.0 (here.1 c.in-Some.n c.in-Some.cached c.in-Some.ensures.there)

pub returns-clause-leaves : goal.returns-clause-leaves
returns-clause-leaves g c =
    let so-far = c.loop-n.invariant in
    record {
      kept = so-far.kept;
      root = so-far.root;
      going = so-far.going;
      alone = tt;
      looked = so-far.looked;
      broken = so-far.still ∙ or_none (is_broken (journal_of c.args.chains.now));
      cause = quiet_cause _ _ _ refl (so-far.later);
    }

pub returns-in-Err-clause-leaves : goal.returns-in-Err-clause-leaves
returns-in-Err-clause-leaves g c =
    let so-far = c.loop-n.invariant in
    let done = c.in-Err.ensures.leaves in
    let fault = c.in-Err.fault in
    record {
      kept = done.kept ∙ so-far.kept;
      root = done.root ∙ so-far.root;
      going = tt;
      alone = subst (λ (b : Bool). IsReadAnswer {T = Unit {0}} b (Err fault)) so-far.still done.alone;
      looked = looked_then (journal_of c.args.chains.now) (journal_of c.loop-n.chains)
          (journal_of c.store_bucket.new.chains) so-far.looked done.looked;
      broken = done.broken ∙ ap (λ (b : Bool). b || answers_disk_fault {T = Unit {0}} (Err fault)) so-far.still;
      cause = record {
        later = omega (arith, so-far.later, done.cause.later);
        failed = λ is. omega (arith, so-far.later, done.cause.failed is);
      };
    }
