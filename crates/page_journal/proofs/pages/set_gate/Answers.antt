use Rattle.std.proofs.Common.{◌≡◌, ℕ, List, [], ◌∷◌, Some, ◌∙◌, rules}
use Rattle.outside.specs.Disk.{Only, Tells, overlaid}
use Rattle.page_journal.specs.Crash.{BesideGate, Spares}
use Rattle.page_journal.specs.Written.{GatePut}
use Rattle.page_journal.proofs.Causes.{cause_after, on_ok}
use Rattle.page_journal.proofs.Moments.{goes_quiet, started, told_written}
use Rattle.page_journal.proofs.Parts.{beside_gate, gate_put}
use Rattle.page_journal.proofs.Places.{goes_write}
use Rattle.page_journal.proofs.pages.set_gate.Goals as goal

pub returns-in_err-write_at-clause-writes : goal.returns-in_err-write_at-clause-writes
returns-in_err-write_at-clause-writes g c = record {
  crash = λ base within.
      goes_write BesideGate base 4095 1 _ _ _ (started (Spares BesideGate base) _ within) c.write_at.ensures.time c.write_at.ensures.crash
      beside_gate;
  reads = search rules;
  cause = search rules;
}

pub returns-clause-put : goal.returns-clause-put
returns-clause-put g c =
    let old = g.D.Disk.view c.args.disk.now in
    let mid = g.D.Disk.view c.write_at.new.self in
    let new = g.D.Disk.view c.sync.new.self in
    on_ok ((content : List ℕ) → Tells mid content → Only content new.crashes)
    ((bytes : List ℕ) → Tells old bytes → (now : List ℕ) × Tells new now × Only now new.crashes × GatePut c.args.value bytes now)
    c.sync.result
    (λ durable bytes told.
    let now : List ℕ = overlaid 4095 (c.args.value ∷ []) bytes in
    let tells : mid.content ≡ Some now =
    told_written (overlaid 4095 (c.args.value ∷ [])) _ _ bytes told c.in_ok-write_at.ensures.written in
    (now, c.sync.ensures.content ∙ tells, durable now tells, gate_put c.args.value bytes))
    c.sync.ensures.durable

pub returns-clause-writes : goal.returns-clause-writes
returns-clause-writes g c = record {
  crash = λ base within.
      goes_quiet (Spares BesideGate base) _ _ _
      (goes_write BesideGate base 4095 1 _ _ _
      (started (Spares BesideGate base) _ within) c.write_at.ensures.time c.write_at.ensures.crash beside_gate)
      c.sync.ensures.time c.sync.ensures.crash;
  reads = c.sync.ensures.reads ∙ c.write_at.ensures.reads;
  cause = cause_after _ _ _ c.sync.result c.write_at.ensures.cause.later c.sync.ensures.cause;
}
