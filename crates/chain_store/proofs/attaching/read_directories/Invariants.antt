use Rattle.std.proofs.Common.{◌≡◌, ℕ, ◌*◌, ◌<◌, ◌≤◌, List, length}
use Rattle.outside.specs.Disk.{ReadsAtMost}
use Rattle.page_journal.specs.Journal.{home_count, is_broken, view_of}
use Rattle.chain_store.specs.Answers.{HaveRead, Looked, RestsWith}
use Rattle.chain_store.specs.Chain.{AreBehindRoot}
use Rattle.chain_store.specs.Kept.{bytes_at, pages_at, page_total}
use Rattle.chain_store.specs.Links.{page_in}
use Rattle.chain_store.proofs.attaching.read_directories.Given as goal

abbrev pub invariant-loop-m : goal.invariant-loop-m
invariant-loop-m g l = record {
  answers : (pages : List (List ℕ)) → RestsWith pages l.initial.journal → l.front ≡ page_in pages 1
      → HaveRead pages l.directories.items l.m;
  many : length l.directories.items ≡ l.m;
  long : (m : ℕ) → m < l.m → length (bytes_at l.directories.items m) ≡ 8 * l.buckets;
  inside : (m : ℕ) → m < l.m → AreBehindRoot (home_count l.initial.journal) (pages_at l.directories.items m);
  looked : Looked l.initial.journal l.journal;
  broken : is_broken l.journal ≡ is_broken l.initial.journal;
  reads : ReadsAtMost (page_total l.directories.items) (4096 * home_count l.initial.journal) (view_of l.initial.journal)
      (view_of l.journal);
  later : (view_of l.initial.journal).faults ≤ (view_of l.journal).faults;
}
