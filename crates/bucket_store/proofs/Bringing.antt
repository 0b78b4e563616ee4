-- A bucket was read and is there, and the others are as they were.
use Rattle.std.proofs.Common.{◌≡◌, ◌||◌, ℕ, false, List, Ok}
use Rattle.std.specs.Option.{IsSome}
use Rattle.std.specs.FinMap as map
use Rattle.outside.specs.declared.disk.Disk.{Ghosts}
use Rattle.page_journal.specs.Answers.{HasDiskCause}
use Rattle.page_journal.specs.Journal.{is_broken}
use Rattle.chain_store.specs.Chains.{OnlyRead, disk_of, journal_of}
use Rattle.bucket_records.specs.Records.{BucketMap}
use Rattle.bucket_store.specs.Calls.{BringsOnly}
use Rattle.bucket_store.specs.Reads.{MayReadChain}
use Rattle.bucket_store.specs.Transaction.{Content, IsOpenStore, cached_of, chains_of, has_refused}
use Rattle.bucket_store.specs.Whole.{SameContents}
use Rattle.bucket_store.specs.declared.buckets.Buckets.{Buckets}
use Rattle.bucket_store.proofs.Frames.{keeps_read, leaves_read}

module _ {D : Type 0} {g : Ghosts D} where
  pub brought : (n : ℕ) (old new : Buckets D g) → SameContents old new → IsSome (map.get (cached_of new) n)
      → ((pages : List (List ℕ)) → IsOpenStore pages old → (values : BucketMap) × Content pages old n values)
      → OnlyRead (chains_of old) (chains_of new)
      → is_broken (journal_of (chains_of new)) ≡ (is_broken (journal_of (chains_of old)) || false) → MayReadChain n old new
      → has_refused new ≡ false
      → HasDiskCause {T = Unit {0}} (disk_of (chains_of old)).faults (disk_of (chains_of new)).faults (Ok tt)
      → BringsOnly n old new (Ok tt)
  brought n old new contents there had stays broken reads going cause = record {
    brings = record {
      there = there;
      had = had;
      answers = λ pages was. tt;
      sound = λ rest now has. tt;
      keeps = keeps_read old new (Ok tt) stays contents.opens broken contents.later;
    };
    contents = contents;
    touches = leaves_read (MayReadChain n old new) old new (Ok tt) stays contents.opens tt broken reads going cause;
  }
