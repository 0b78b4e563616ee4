-- What the chains will be written with is settled from the start.
use Rattle.std.proofs.Common.{◌≡◌, ◌*◌, ◌≤◌, ◌⊎◌, ℕ, List, Some, IsTrue, false}
use Rattle.std.specs.FinMap as map
use Rattle.chain_store.specs.Chains.{IsOpen, disk_of, is_refused, journal_of, kept_of, read_of, root_of, written_of}
use Rattle.outside.specs.Disk.{ReadsAtMost}
use Rattle.page_journal.specs.Journal.{home_count, is_broken}
use Rattle.chain_store.specs.Answers.{Looked}
use Rattle.bucket_store.specs.Buckets.{AreAllRead, AreBuckets, HaveOrigins, bucket_count}
use Rattle.bucket_store.specs.Committing.{after}
use Rattle.bucket_records.specs.Records.{AreRecords}
use Rattle.bucket_store.specs.declared.cache.Cached.{Cached}
use Rattle.bucket_store.proofs.committing.store_changed.Given as goal

abbrev pub invariant-loop-n : goal.invariant-loop-n
invariant-loop-n g l = record {
  buckets : AreBuckets (bucket_count l.chains) l.cache;
  going : is_refused l.chains ≡ false;
  written : (n : ℕ) → after (map.get l.cache n) (map.get (written_of l.chains) n)
      ≡ after (map.get l.initial.cache n) (map.get (written_of l.initial.chains) n);
  rise : (n : ℕ) (own : Cached) → map.get l.initial.cache n ≡ Some own → IsTrue own.changed
      → (map.get l.cache n ≡ Some own) ⊎ AreRecords 0 (map.entries own.bucket.values);
  opens : (pages : List (List ℕ)) → IsOpen pages l.initial.chains → HaveOrigins pages l.initial.chains l.initial.cache
      → IsOpen pages l.chains × HaveOrigins pages l.chains l.cache;
  reads : AreAllRead (read_of l.initial.chains) l.initial.cache → (read_of l.chains ≡ read_of l.initial.chains)
      × AreAllRead (read_of l.initial.chains) l.cache
      × ReadsAtMost 0 (4096 * home_count (journal_of l.initial.chains)) (disk_of l.initial.chains) (disk_of l.chains);
  kept : kept_of l.chains ≡ kept_of l.initial.chains;
  root : root_of l.chains ≡ root_of l.initial.chains;
  still : is_broken (journal_of l.chains) ≡ is_broken (journal_of l.initial.chains);
  later : (disk_of l.initial.chains).faults ≤ (disk_of l.chains).faults;
  looked : Looked (journal_of l.initial.chains) (journal_of l.chains);
}

abbrev pub decreases-loop-n : goal.decreases-loop-n
decreases-loop-n g l = map.len l.cache
