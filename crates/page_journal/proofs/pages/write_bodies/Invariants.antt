use Rattle.std.proofs.Common.{◌≡◌, ◌+◌, ◌*◌, ◌≤◌, List, ℕ, length}
use Rattle.outside.specs.Disk.{Tells, Goes, Within}
use Rattle.page_journal.specs.Crash.{BesideJournal, Spares}
use Rattle.page_journal.specs.PageRun.{Fits, Shows}
use Rattle.page_journal.specs.PageSet.{plain}
use Rattle.page_journal.specs.Written.{PagesPut}
use Rattle.page_journal.proofs.pages.write_bodies.Given as goal

abbrev pub invariant-loop-page : goal.invariant-loop-page
invariant-loop-page g l =
    let old = g.D.Disk.view l.initial.disk in
    let now = g.D.Disk.view l.disk in
    record {
      can : (goal.iterator-loop-page g).can_next l.page-iterator;
      finite : (goal.iterator-loop-page g).is_finite l.page-iterator;
      place : l.next ≡ l.at + 4096 * length l.yielded;
      held : Fits l.run.at l.run.filled l.run.bytes;
      from : l.at ≤ l.run.at;
      put : (bytes : List ℕ) → Tells old bytes → (left : List ℕ) × Shows l.run.at l.run.filled l.run.bytes now left
          × PagesPut (plain l.pages.entries) (length l.yielded) l.at bytes left;
      crash : (low : ℕ) (base : List ℕ) → low ≤ l.at → Within (Spares (BesideJournal low) base) old.crashes
          → Goes (Spares (BesideJournal low) base) old.crashes now.crashes;
      reads : now.reads ≡ old.reads;
      later : old.faults ≤ now.faults;
    }
