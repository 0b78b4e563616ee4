use Rattle.std.proofs.Common.{List, ℕ, Some, sym, subst}
use Rattle.update_flow.specs.Within.{IsSound, RunsWithin}
use Rattle.update_flow.specs.declared.fault.FlowFault.{FlowFault}
use Rattle.update_flow.proofs.Openings.{sound_store}
use Rattle.update_flow.proofs.Running.{runs_done, runs_refused}
use Rattle.update_flow.proofs.style_text.load_style_bytes.Goals as goal

pub returns-in-Err-clause-sound : goal.returns-in-Err-clause-sound
returns-in-Err-clause-sound g c = λ rest now has.
    subst (λ (f : FlowFault). IsSound (Some f)) (sym c.store_fault.ensures)
    (sound_store (List ℕ) c.in-Err.fault (c.in-Err.ensures.text.sound rest now has))

pub returns-in-Err-clause-runs : goal.returns-in-Err-clause-runs
returns-in-Err-clause-runs g c =
    subst (λ (f : FlowFault). RunsWithin c.args.buckets.now c.load.new.self (Some f)) (sym c.store_fault.ensures)
    (runs_refused c.args.buckets.now c.load.new.self c.load.ensures.touches.same c.requires.ready.whole (List ℕ) c.in-Err.fault
    c.in-Err.ensures.touches.alone c.in-Err.ensures.touches.broken c.in-Err.ensures.touches.cause)

pub returns-in-Ok-clause-runs : goal.returns-in-Ok-clause-runs
returns-in-Ok-clause-runs g c = runs_done c.args.buckets.now c.load.new.self c.load.ensures.touches.same c.requires.ready.whole
    c.in-Ok.ensures.touches.broken

pub returns-in-Ok-clause-bytes : goal.returns-in-Ok-clause-bytes
returns-in-Ok-clause-bytes g c = λ rest now has. c.in-Ok.ensures.text.found rest now has
