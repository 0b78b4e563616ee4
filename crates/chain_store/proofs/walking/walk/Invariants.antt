use Rattle.std.proofs.Common.{◌≡◌, ℕ, ◌+◌, ◌-◌, ◌*◌, ◌≤◌, List, length}
use Rattle.outside.specs.Disk.{ReadsAtMost}
use Rattle.page_journal.specs.Journal.{home_count, is_broken, view_of}
use Rattle.chain_store.specs.Answers.{Looked, RestsWith}
use Rattle.chain_store.specs.Chain.{AreBehindRoot, Path, data_in}
use Rattle.chain_store.specs.Links.{page_in}
use Rattle.chain_store.proofs.walking.walk.Given as goal

abbrev pub invariant-loop-at : goal.invariant-loop-at
invariant-loop-at g l = record {
  answers : (pages : List (List ℕ)) → RestsWith pages l.initial.journal
      → Path (page_in pages) (length pages + 1) l.chain l.fn.first l.pages.items l.at
      × (data_in (page_in pages) l.pages.items ≡ l.bytes.items);
  home : l.home ≡ home_count l.initial.journal;
  some : 2 ≤ l.home;
  few : length l.pages.items ≤ l.home - 2;
  inside : AreBehindRoot (home_count l.initial.journal) l.pages.items;
  looked : Looked l.initial.journal l.journal;
  broken : is_broken l.journal ≡ is_broken l.initial.journal;
  reads : ReadsAtMost (length l.pages.items) (4096 * home_count l.initial.journal) (view_of l.initial.journal) (view_of l.journal);
  later : (view_of l.initial.journal).faults ≤ (view_of l.journal).faults;
}

abbrev pub decreases-loop-at : goal.decreases-loop-at
decreases-loop-at g l = l.home - length l.pages.items
