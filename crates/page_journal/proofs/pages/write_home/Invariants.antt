use Rattle.std.proofs.Common.{◌≡◌, ◌⊎◌, ◌+◌, ◌<◌, ◌≤◌, List, ℕ, length}
use Rattle.outside.specs.Disk.{Tells, Goes, Within}
use Rattle.page_journal.specs.Crash.{BesidePages, Spares}
use Rattle.page_journal.specs.PageRun.{Fits, Shows}
use Rattle.page_journal.specs.PageSet.{plain, number_at, page_at}
use Rattle.page_journal.specs.Written.{HomePut}
use Rattle.page_journal.proofs.pages.write_home.Given as goal

abbrev pub invariant-loop-number : goal.invariant-loop-number
invariant-loop-number g l =
    let old = g.D.Disk.view l.initial.disk in
    let now = g.D.Disk.view l.disk in
    let beside = BesidePages (length l.pages.entries) (number_at (plain l.pages.entries)) in
    record {
      can : (goal.iterator-loop-number g).can_next l.number-iterator;
      finite : (goal.iterator-loop-number g).is_finite l.number-iterator;
      held : Fits l.run.at l.run.filled l.run.bytes;
      spared : (i : ℕ) → beside i → (i < l.run.at) ⊎ (l.run.at + l.run.filled ≤ i);
      put : (bytes : List ℕ) → Tells old bytes → (left : List ℕ) × Shows l.run.at l.run.filled l.run.bytes now left
          × HomePut (number_at (plain l.pages.entries)) (page_at (plain l.pages.entries)) (length l.yielded) bytes left;
      crash : (base : List ℕ) → Within (Spares beside base) old.crashes → Goes (Spares beside base) old.crashes now.crashes;
      reads : now.reads ≡ old.reads;
      later : old.faults ≤ now.faults;
    }
