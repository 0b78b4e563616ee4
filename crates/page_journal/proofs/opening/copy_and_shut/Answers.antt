use Rattle.std.proofs.Common.{◌≡◌, ℕ, List, rules}
use Rattle.outside.specs.Disk.{Only, Tells}
use Rattle.page_journal.specs.Home.{Home, IsFormatted, IsWellFormed}
use Rattle.page_journal.specs.Pages.{first_page, gate, page_count}
use Rattle.page_journal.specs.Written.{Finished, GatePut}
use Rattle.page_journal.specs.declared.layout.TheConstants.{OPEN}
use Rattle.page_journal.proofs.Causes.{cause_after, on_ok}
use Rattle.page_journal.proofs.Finishing.{go_copy, go_shut, finished}
use Rattle.page_journal.proofs.Moments.{goes_then}
use Rattle.page_journal.proofs.opening.copy_and_shut.Goals as goal

pub returns-in_err-copy_home-clause-any_moment : goal.returns-in_err-copy_home-clause-any_moment
returns-in_err-copy_home-clause-any_moment g c = λ bytes pages told only home is_open first-is count-is.
    go_copy bytes c.args.first c.args.count first-is count-is pages home is_open _ _ only
    (c.copy_home.ensures.crash bytes told (home.journal is_open) first-is count-is)

pub returns-clause-any_moment : goal.returns-clause-any_moment
returns-clause-any_moment g c = λ bytes pages told only home is_open first-is count-is.
    let copied = c.in_ok-copy_home.ensures.put bytes told (home.journal is_open) first-is count-is in
    goes_then (Home pages) _ _ _
    (go_copy bytes c.args.first c.args.count first-is count-is pages home is_open _ _ only
    (c.copy_home.ensures.crash bytes told (home.journal is_open) first-is count-is))
    (go_shut bytes c.args.first c.args.count first-is count-is pages home is_open copied.0 _ _ copied.2 copied.3
    c.set_gate.ensures.writes.crash)

pub returns-clause-done : goal.returns-clause-done
returns-clause-done g c =
    let first = c.args.first in
    let count = c.args.count in
    let old = g.D.Disk.view c.args.disk.now in
    let mid = g.D.Disk.view c.copy_home.new.disk in
    let new = g.D.Disk.view c.set_gate.new.disk in
    on_ok ((bytes : List ℕ) → Tells mid bytes → (now : List ℕ) × Tells new now × Only now new.crashes × GatePut 0 bytes now)
    ((bytes : List ℕ) → Tells old bytes → IsFormatted bytes → IsWellFormed bytes → gate bytes ≡ OPEN → first ≡ first_page bytes
    → count ≡ page_count bytes
    → (now : List ℕ) × Tells new now × Only now new.crashes × Finished bytes now) c.set_gate.result
    (λ put bytes told formatted well is_open first-is count-is.
    let copied = c.in_ok-copy_home.ensures.put bytes told well first-is count-is in
    let shut = put copied.0 copied.1 in (
      shut.0,
      shut.1,
      shut.2,
      finished bytes first count first-is count-is copied.0 shut.0 formatted well is_open copied.3 shut.3,
    ))
    c.set_gate.ensures.put

pub returns-clause-copies : goal.returns-clause-copies
returns-clause-copies g c = record {
  reads = search rules;
  cause = cause_after _ _ _ c.set_gate.result c.copy_home.ensures.copies.cause.later c.set_gate.ensures.writes.cause;
}
