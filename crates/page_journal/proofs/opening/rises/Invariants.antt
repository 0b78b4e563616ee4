use Rattle.std.proofs.Common.{◌≡◌, ◌+◌, ◌-◌, ◌*◌, ◌<◌, ◌≤◌, List, ℕ, length}
use Rattle.outside.specs.Disk.{ReadsAtMost, Stays, Tells}
use Rattle.page_journal.specs.Home.{AreRising}
use Rattle.page_journal.specs.Pages.{number, number_pages}
use Rattle.page_journal.proofs.opening.rises.Given as goal

abbrev pub invariant-loop-place : goal.invariant-loop-place
invariant-loop-place g l =
    let old = g.D.Disk.view l.initial.disk in
    let now = g.D.Disk.view l.disk in
    record {
      so_far : (bytes : List ℕ) → Tells old bytes → 4096 * (l.first + number_pages l.count + l.count) ≤ length bytes
          → AreRising bytes l.first l.place;
      zero : l.place ≡ 0 → l.last ≡ 0;
      last : (bytes : List ℕ) → Tells old bytes → 4096 * (l.first + number_pages l.count + l.count) ≤ length bytes
          → 0 < l.place → l.last ≡ number bytes (4096 * l.first + 8 * (l.place - 1));
      stays : Stays old now;
      reads : ReadsAtMost l.place (4096 * (l.first + number_pages l.count + l.count)) old now;
      later : old.faults ≤ now.faults;
    }
