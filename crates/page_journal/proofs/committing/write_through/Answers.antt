use Rattle.std.proofs.Common.{ℕ, List, length, ◌∙◌}
use Rattle.std.proofs.Math.Nat.{le_trans}
use Rattle.outside.specs.Disk.{Only, Tells}
use Rattle.page_journal.specs.Crash.{IsSettled}
use Rattle.page_journal.specs.PageSet.{plain}
use Rattle.page_journal.specs.Written.{GatePut, Makes}
use Rattle.page_journal.proofs.Causes.{cause_after, caused, on_ok}
use Rattle.page_journal.proofs.Moments.{goes_then}
use Rattle.page_journal.proofs.Phases.{OldOrNew, go_journal, to_before, to_staged, go_gate, to_open, go_home, to_copied, to_placed, go_shut}
use Rattle.page_journal.proofs.Phases.{to_done}
use Rattle.page_journal.proofs.committing.write_through.Goals as goal

pub returns-in_err-write_journal-clause-any_moment : goal.returns-in_err-write_journal-clause-any_moment
returns-in_err-write_journal-clause-any_moment g c = λ old new bytes settled makes.
    let es = plain c.args.pages.now.entries in
    let n = length c.args.pages.now.entries in
    let h = c.args.home in
    let P : List ℕ → Type 0 = OldOrNew es n h old new makes in
    let v0 = g.D.Disk.view c.args.disk.now in
    let v1 = g.D.Disk.view c.write_journal.new.disk in
    let run1 = go_journal es n h old new makes v0 bytes v1.crashes settled c.write_journal.ensures.writes.crash in
    run1

pub returns-in_err-set_gate-clause-any_moment : goal.returns-in_err-set_gate-clause-any_moment
returns-in_err-set_gate-clause-any_moment g c = λ old new bytes settled makes.
    let es = plain c.args.pages.now.entries in
    let n = length c.args.pages.now.entries in
    let h = c.args.home in
    let P : List ℕ → Type 0 = OldOrNew es n h old new makes in
    let v0 = g.D.Disk.view c.args.disk.now in
    let v1 = g.D.Disk.view c.write_journal.new.disk in
    let run1 = go_journal es n h old new makes v0 bytes v1.crashes settled c.write_journal.ensures.writes.crash in
    let one = c.in_ok-write_journal.ensures.put bytes settled.told in
    let was = to_before es n h old new makes v0 bytes one.0 settled one.3 in
    let staged1 = to_staged es n h old new makes v0 bytes one.0 settled one.3 in
    let v2 = g.D.Disk.view c.set_gate.new.disk in
    let run2 = goes_then P v0.crashes v1.crashes v2.crashes run1
    (go_gate es n h old new makes one.0 v1.crashes v2.crashes one.2 was staged1 c.set_gate.ensures.writes.crash) in
    run2

pub returns-in_err-write_home-clause-any_moment : goal.returns-in_err-write_home-clause-any_moment
returns-in_err-write_home-clause-any_moment g c = λ old new bytes settled makes.
    let es = plain c.args.pages.now.entries in
    let n = length c.args.pages.now.entries in
    let h = c.args.home in
    let P : List ℕ → Type 0 = OldOrNew es n h old new makes in
    let v0 = g.D.Disk.view c.args.disk.now in
    let v1 = g.D.Disk.view c.write_journal.new.disk in
    let run1 = go_journal es n h old new makes v0 bytes v1.crashes settled c.write_journal.ensures.writes.crash in
    let one = c.in_ok-write_journal.ensures.put bytes settled.told in
    let was = to_before es n h old new makes v0 bytes one.0 settled one.3 in
    let staged1 = to_staged es n h old new makes v0 bytes one.0 settled one.3 in
    let v2 = g.D.Disk.view c.set_gate.new.disk in
    let run2 = goes_then P v0.crashes v1.crashes v2.crashes run1
    (go_gate es n h old new makes one.0 v1.crashes v2.crashes one.2 was staged1 c.set_gate.ensures.writes.crash) in
    let two = c.in_ok-set_gate.ensures.put one.0 one.1 in
    let staged2 = to_open es n h old new makes one.0 two.0 staged1 two.3 in
    let v3 = g.D.Disk.view c.write_home.new.disk in
    let run3 = goes_then P v0.crashes v2.crashes v3.crashes run2
    (go_home es n h old new makes two.0 v2.crashes v3.crashes two.2 staged2 two.3.gate c.write_home.ensures.writes.crash) in
    run3

pub returns-clause-any_moment : goal.returns-clause-any_moment
returns-clause-any_moment g c = λ old new bytes settled makes.
    let es = plain c.args.pages.now.entries in
    let n = length c.args.pages.now.entries in
    let h = c.args.home in
    let P : List ℕ → Type 0 = OldOrNew es n h old new makes in
    let v0 = g.D.Disk.view c.args.disk.now in
    let v1 = g.D.Disk.view c.write_journal.new.disk in
    let run1 = go_journal es n h old new makes v0 bytes v1.crashes settled c.write_journal.ensures.writes.crash in
    let one = c.in_ok-write_journal.ensures.put bytes settled.told in
    let was = to_before es n h old new makes v0 bytes one.0 settled one.3 in
    let staged1 = to_staged es n h old new makes v0 bytes one.0 settled one.3 in
    let v2 = g.D.Disk.view c.set_gate.new.disk in
    let run2 = goes_then P v0.crashes v1.crashes v2.crashes run1
    (go_gate es n h old new makes one.0 v1.crashes v2.crashes one.2 was staged1 c.set_gate.ensures.writes.crash) in
    let two = c.in_ok-set_gate.ensures.put one.0 one.1 in
    let staged2 = to_open es n h old new makes one.0 two.0 staged1 two.3 in
    let v3 = g.D.Disk.view c.write_home.new.disk in
    let run3 = goes_then P v0.crashes v2.crashes v3.crashes run2
    (go_home es n h old new makes two.0 v2.crashes v3.crashes two.2 staged2 two.3.gate c.write_home.ensures.writes.crash) in
    let three = c.in_ok-write_home.ensures.put two.0 two.1 in
    let staged3 = to_copied es n h old new makes two.0 three.0 staged2 three.3 in
    let placed = to_placed es n h old new makes two.0 three.0 three.3 in
    let v4 = g.D.Disk.view c.set_gate-2.new.disk in
    goes_then P v0.crashes v3.crashes v4.crashes run3
    (go_shut es n h old new makes three.0 v3.crashes v4.crashes three.2 staged3 placed c.set_gate-2.ensures.writes.crash)

pub returns-clause-done : goal.returns-clause-done
returns-clause-done g c =
    let v3 = g.D.Disk.view c.write_home.new.disk in
    let v4 = g.D.Disk.view c.set_gate-2.new.disk in
    on_ok ((bytes : List ℕ) → Tells v3 bytes → (now : List ℕ) × Tells v4 now × Only now v4.crashes × GatePut 0 bytes now)
    ((old new : List (List ℕ)) (bytes : List ℕ) → IsSettled old bytes (g.D.Disk.view c.args.disk.now)
    → Makes (plain c.args.pages.now.entries) (length c.args.pages.now.entries) c.args.home old new → (now : List ℕ) × IsSettled new now v4)
    c.set_gate-2.result
    (λ put old new bytes settled makes.
    let es = plain c.args.pages.now.entries in
    let n = length c.args.pages.now.entries in
    let h = c.args.home in
    let one = c.in_ok-write_journal.ensures.put bytes settled.told in
    let staged1 = to_staged es n h old new makes (g.D.Disk.view c.args.disk.now) bytes one.0 settled one.3 in
    let two = c.in_ok-set_gate.ensures.put one.0 one.1 in
    let staged2 = to_open es n h old new makes one.0 two.0 staged1 two.3 in
    let three = c.in_ok-write_home.ensures.put two.0 two.1 in
    let staged3 = to_copied es n h old new makes two.0 three.0 staged2 three.3 in
    let placed = to_placed es n h old new makes two.0 three.0 three.3 in
    let four = put three.0 three.1 in
    (four.0, to_done es n h old new makes three.0 four.0 v4 staged3 placed four.3 four.1 four.2))
    c.set_gate-2.ensures.put

pub returns-in_err-set_gate-clause-reads : goal.returns-in_err-set_gate-clause-reads
returns-in_err-set_gate-clause-reads g c = c.set_gate.ensures.writes.reads ∙ c.write_journal.ensures.writes.reads

pub returns-in_err-set_gate-clause-cause : goal.returns-in_err-set_gate-clause-cause
returns-in_err-set_gate-clause-cause g c =
    caused _ _ _ _ c.write_journal.ensures.writes.cause.later c.set_gate.ensures.writes.cause.later
    c.in_err-set_gate.ensures.writes.cause.failed

pub returns-in_err-write_home-clause-reads : goal.returns-in_err-write_home-clause-reads
returns-in_err-write_home-clause-reads g c =
    c.write_home.ensures.writes.reads ∙ (c.set_gate.ensures.writes.reads ∙ c.write_journal.ensures.writes.reads)

pub returns-in_err-write_home-clause-cause : goal.returns-in_err-write_home-clause-cause
returns-in_err-write_home-clause-cause g c =
    caused _ _ _ _ (le_trans c.write_journal.ensures.writes.cause.later c.set_gate.ensures.writes.cause.later)
    c.write_home.ensures.writes.cause.later
    c.in_err-write_home.ensures.writes.cause.failed

pub returns-clause-reads : goal.returns-clause-reads
returns-clause-reads g c =
    c.set_gate-2.ensures.writes.reads ∙ (c.write_home.ensures.writes.reads
    ∙ (c.set_gate.ensures.writes.reads ∙ c.write_journal.ensures.writes.reads))

pub returns-clause-cause : goal.returns-clause-cause
returns-clause-cause g c =
    cause_after _ _ _ c.set_gate-2.result
    (le_trans c.write_journal.ensures.writes.cause.later
    (le_trans c.set_gate.ensures.writes.cause.later c.write_home.ensures.writes.cause.later)) c.set_gate-2.ensures.writes.cause
