use Rattle.std.proofs.Common.{◌≡◌, ◌+◌, ◌*◌, ◌<◌, ◌≤◌, List, ℕ, length}
use Rattle.outside.specs.Disk.{Tells, Goes, Within}
use Rattle.page_journal.specs.Crash.{BesideJournal, Spares}
use Rattle.page_journal.specs.PageSet.{plain}
use Rattle.page_journal.specs.Written.{NumbersHeld}
use Rattle.page_journal.proofs.numbers.write_numbers.Given as goal

abbrev pub invariant-loop-number : goal.invariant-loop-number
invariant-loop-number g l =
    let old = g.D.Disk.view l.initial.disk in
    let now = g.D.Disk.view l.disk in
    record {
      can : (goal.iterator-loop-number g).can_next l.number-iterator;
      finite : (goal.iterator-loop-number g).is_finite l.number-iterator;
      room : l.page.filled < 512;
      from : l.at ≤ l.page.at;
      place : l.page.at + 8 * l.page.filled ≡ l.at + 8 * length l.yielded;
      put : (bytes : List ℕ) → Tells old bytes → (left : List ℕ) × Tells now left
          × NumbersHeld (plain l.pages.entries) (length l.yielded) l.at l.page.at l.page.filled l.page.bytes bytes left;
      crash : (low : ℕ) (base : List ℕ) → low ≤ l.at → Within (Spares (BesideJournal low) base) old.crashes
          → Goes (Spares (BesideJournal low) base) old.crashes now.crashes;
      reads : now.reads ≡ old.reads;
      later : old.faults ≤ now.faults;
    }
