use Rattle.std.proofs.Common.{ℕ, List, ◌∙◌, arith}
use Rattle.outside.specs.Disk.{Tells}
use Rattle.page_journal.specs.Crash.{BesideJournal, Spares}
use Rattle.page_journal.specs.Written.{FieldsPut, NumberPut}
use Rattle.page_journal.proofs.Causes.{cause_after, caused, on_ok}
use Rattle.page_journal.proofs.Moments.{goes_then}
use Rattle.page_journal.proofs.Parts.{fields_put}
use Rattle.page_journal.proofs.pages.write_fields.Goals as goal

pub returns-clause-put : goal.returns-clause-put
returns-clause-put g c =
    let old = g.D.Disk.view c.args.disk.now in
    let mid = g.D.Disk.view c.write_number.new.disk in
    let new = g.D.Disk.view c.write_number-2.new.disk in
    on_ok ((bytes : List ℕ) → Tells mid bytes → (now : List ℕ) × Tells new now × NumberPut 16 c.args.count bytes now)
    ((bytes : List ℕ) → Tells old bytes → (now : List ℕ) × Tells new now × FieldsPut c.args.first c.args.count bytes now)
    c.write_number-2.result
    (λ put bytes told.
    let one = c.in_ok-write_number.ensures.put bytes told in
    let two = put one.0 one.1 in
    (two.0, two.1, fields_put c.args.first c.args.count bytes one.0 two.0 one.2 two.2))
    c.write_number-2.ensures.put

pub returns-in_err-write_number-clause-writes : goal.returns-in_err-write_number-clause-writes
returns-in_err-write_number-clause-writes g c = λ low. record {
  crash = (c.write_number.ensures.writes low).crash;
  reads = (c.write_number.ensures.writes low).reads;
  cause =
      let before = (g.D.Disk.view c.args.disk.now).faults in
      caused before before _ _ (omega arith) (c.write_number.ensures.writes low).cause.later
      (c.in_err-write_number.ensures.writes low).cause.failed;
}

pub returns-clause-writes : goal.returns-clause-writes
returns-clause-writes g c = λ low. record {
  crash = λ base within.
      let P : List ℕ → Type 0 = Spares (BesideJournal low) base in
      let one = (c.write_number.ensures.writes low).crash base within in
      goes_then P _ _ _ one ((c.write_number-2.ensures.writes low).crash base one.now);
  reads = (c.write_number-2.ensures.writes low).reads ∙ (c.write_number.ensures.writes low).reads;
  cause = cause_after _ _ _ c.write_number-2.result (c.write_number.ensures.writes low).cause.later
      (c.write_number-2.ensures.writes low).cause;
}
