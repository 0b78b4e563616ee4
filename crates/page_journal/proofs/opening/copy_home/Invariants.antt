use Rattle.std.proofs.Common.{◌≡◌, ◌+◌, ◌*◌, ◌≤◌, List, ℕ}
use Rattle.outside.specs.Disk.{Goes, ReadsAtMost, Tells, Within}
use Rattle.page_journal.specs.Crash.{BesidePages, Spares}
use Rattle.page_journal.specs.Home.{IsWellFormed}
use Rattle.page_journal.specs.Pages.{entry, body_at, first_page, number_pages, page_count, page_from}
use Rattle.page_journal.specs.Written.{HomePut}
use Rattle.page_journal.proofs.opening.copy_home.Given as goal

abbrev pub invariant-loop-place : goal.invariant-loop-place
invariant-loop-place g l =
    let old = g.D.Disk.view l.initial.disk in
    let now = g.D.Disk.view l.disk in
    record {
      put : (bytes : List ℕ) → Tells old bytes → IsWellFormed bytes → l.first ≡ first_page bytes → l.count ≡ page_count bytes
          → (left : List ℕ) × Tells now left × HomePut (entry bytes) (λ place. page_from bytes (body_at bytes place)) l.place bytes left;
      crash : (bytes : List ℕ) → Tells old bytes → IsWellFormed bytes → l.first ≡ first_page bytes → l.count ≡ page_count bytes
          → Within (Spares (BesidePages l.count (entry bytes)) bytes) old.crashes
          → Goes (Spares (BesidePages l.count (entry bytes)) bytes) old.crashes now.crashes;
      reads : ReadsAtMost (2 * l.place) (4096 * (l.first + number_pages l.count + l.count)) old now;
      later : old.faults ≤ now.faults;
    }
