-- The chain of a bucket is a string of the store, and its records have the keys of the bucket.
use Rattle.std.proofs.Common.{ap, inr, List, refl, ℕ}
use Rattle.page_journal.specs.Journal.{is_broken}
use Rattle.bucket_store.proofs.Once.{loaded_read}
use Rattle.bucket_store.proofs.BucketLaws.{keys_of_bucket, keys_given}
use Rattle.chain_store.specs.Chains.{disk_of, journal_of, read_of, written_of}
use Rattle.bucket_records.specs.Held.{HeldBucket}
use Rattle.bucket_store.proofs.Frames.{alone_of, cause_of, quiet_cause}
use Rattle.bucket_store.specs.Buckets.{bucket_count, bucket_in}
use Rattle.bucket_store.proofs.reading.read_bucket.Goals as goal

pub returns-in-Ok-read-clause-own : goal.returns-in-Ok-read-clause-own
returns-in-Ok-read-clause-own g c =
    keys_of_bucket (bucket_count c.args.chains.now) (bucket_in c.args.n) c.in-Ok.bytes c.in-Ok-read.bucket.values
    (keys_given c.root-buckets.result.buckets (bucket_count c.args.chains.now) c.bucket_of.result
    (bucket_in c.args.n) c.into_vec.result.items c.in-Ok.bytes
    c.in-Ok-read.bucket.values (ap (λ r. r.buckets) c.root-buckets.ensures) c.bucket_of.ensures c.into_vec.ensures.items
    c.in-Ok-read.ensures.map)

pub returns-in-Err-clause-leaves : goal.returns-in-Err-clause-leaves
returns-in-Err-clause-leaves g c =
    let done = c.in-Err.ensures in
    let fault = c.in-Err.fault in
    record {
      opens = done.looks.opens;
      alone = alone_of (List ℕ) HeldBucket (is_broken (journal_of c.args.chains.now)) fault done.looks.alone;
      stays = done.looks.stays;
      broken = done.looks.broken;
      reads = tt;
      known = tt;
      going = tt;
      cause = cause_of (List ℕ) HeldBucket _ _ fault done.looks.cause;
    }

pub returns-in-Ok-read-clause-leaves : goal.returns-in-Ok-read-clause-leaves
returns-in-Ok-read-clause-leaves g c =
    let chains = c.args.chains.now in
    let done = c.in-Ok.ensures in
    record {
      opens = done.looks.opens;
      alone = tt;
      stays = done.looks.stays;
      broken = done.looks.broken;
      reads = λ none. done.loads.reads (inr none);
      known = loaded_read _ (bucket_count chains) (read_of chains) _ (written_of chains) c.args.n (disk_of chains) (disk_of c.load.new.self)
          chains.stored done.loads.own done.loads.known;
      going = done.looks.refused;
      cause = quiet_cause _ _ _ refl done.looks.cause.later;
    }

pub returns-in-Err-NotSpelled-clause-leaves : goal.returns-in-Err-NotSpelled-clause-leaves
returns-in-Err-NotSpelled-clause-leaves g c =
    let done = c.in-Ok.ensures in
    record {
      opens = done.looks.opens;
      alone = tt;
      stays = done.looks.stays;
      broken = done.looks.broken;
      reads = tt;
      known = tt;
      going = tt;
      cause = quiet_cause _ _ _ refl done.looks.cause.later;
    }

pub returns-in-Err-OutOfMemory-clause-leaves : goal.returns-in-Err-OutOfMemory-clause-leaves
returns-in-Err-OutOfMemory-clause-leaves g c =
    let done = c.in-Ok.ensures in
    record {
      opens = done.looks.opens;
      alone = tt;
      stays = done.looks.stays;
      broken = done.looks.broken;
      reads = tt;
      known = tt;
      going = tt;
      cause = quiet_cause _ _ _ refl done.looks.cause.later;
    }
