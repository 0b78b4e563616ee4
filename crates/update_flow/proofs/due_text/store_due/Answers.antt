-- The bytes of a set of tiles become the text.
use Rattle.std.proofs.Common.{ℕ, List, Some, rules, sym, subst}
use Rattle.bucket_store.specs.Image.{Has, with_text}
use Rattle.update_flow.specs.Within.{IsSound, RunsWithin}
use Rattle.update_flow.specs.declared.fault.FlowFault.{FlowFault}
use Rattle.update_flow.specs.declared.fields.TheConstants.{DUE_TEXT}
use Rattle.update_flow.proofs.Openings.{sound_store}
use Rattle.update_flow.proofs.Running.{runs_done, runs_idle, runs_refused}
use Rattle.chain_store.proofs.Counted.{reads_call}
use Rattle.bucket_store.specs.Transaction.{chains_of}
use Rattle.update_flow.proofs.due_text.store_due.Goals as goal

pub returns-in-Err-clause-stores : goal.returns-in-Err-clause-stores
returns-in-Err-clause-stores g c = record {
  stored = search rules;
  going = search rules;
  sound = search rules;
  runs = runs_idle c.args.buckets.now c.requires.ready.whole;
}

pub returns-in-Ok-store-clause-stores : goal.returns-in-Ok-store-clause-stores
returns-in-Ok-store-clause-stores g c = record {
  stored = λ rest now was.
      subst (λ (b : List ℕ). Has rest (with_text DUE_TEXT b now) c.store.new.self) c.in-Ok.ensures.bytes
      (c.in-Ok-store.ensures.text.has rest now was);
  going = search rules;
  sound = search rules;
  runs = runs_done c.args.buckets.now c.store.new.self c.store.ensures.touches.same c.requires.ready.whole
      c.in-Ok-store.ensures.touches.broken;
}

pub returns-in-Err-store-clause-stores : goal.returns-in-Err-store-clause-stores
returns-in-Err-store-clause-stores g c = record {
  stored = search rules;
  going = search rules;
  sound = λ rest now was.
      subst (λ (f : FlowFault). IsSound (Some f)) (sym c.store_fault.ensures)
      (sound_store (Unit {0}) c.in-Err-store.fault (c.in-Err-store.ensures.text.sound rest now was));
  runs = subst (λ (f : FlowFault). RunsWithin c.args.buckets.now c.store.new.self (Some f)) (sym c.store_fault.ensures)
      (runs_refused c.args.buckets.now c.store.new.self c.store.ensures.touches.same c.requires.ready.whole (Unit {0}) c.in-Err-store.fault
      c.in-Err-store.ensures.touches.alone c.in-Err-store.ensures.touches.broken c.in-Err-store.ensures.touches.cause);
}

pub returns-in-Ok-store-clause-reads : goal.returns-in-Ok-store-clause-reads
returns-in-Ok-store-clause-reads g c = reads_call _ DUE_TEXT (chains_of c.args.buckets.now)
    (chains_of c.store.new.self) c.in-Ok-store.ensures.touches.reads
