-- The bytes become the text.
use Rattle.std.proofs.Common.{Some, rules, sym, subst}
use Rattle.update_flow.specs.Within.{IsSound, RunsWithin}
use Rattle.update_flow.specs.declared.fault.FlowFault.{FlowFault}
use Rattle.update_flow.proofs.Openings.{sound_store}
use Rattle.update_flow.proofs.Running.{runs_done, runs_refused}
use Rattle.update_flow.proofs.following.keep_style.Goals as goal

pub returns-in-Ok : goal.returns-in-Ok
returns-in-Ok g c = record {
  stores = record {
    stored = λ rest now was. c.in-Ok.ensures.text.has rest now was;
    going = search rules;
    sound = search rules;
    runs = runs_done c.args.buckets.now c.store.new.self c.store.ensures.touches.same c.requires.ready.whole c.in-Ok.ensures.touches.broken;
  };
}

pub returns-in-Err : goal.returns-in-Err
returns-in-Err g c = record {
  stores = record {
    stored = search rules;
    going = search rules;
    sound = λ rest now was.
        subst (λ (f : FlowFault). IsSound (Some f)) (sym c.store_fault.ensures)
        (sound_store (Unit {0}) c.in-Err.fault (c.in-Err.ensures.text.sound rest now was));
    runs = subst (λ (f : FlowFault). RunsWithin c.args.buckets.now c.store.new.self (Some f)) (sym c.store_fault.ensures)
        (runs_refused c.args.buckets.now c.store.new.self c.store.ensures.touches.same c.requires.ready.whole (Unit {0}) c.in-Err.fault
        c.in-Err.ensures.touches.alone c.in-Err.ensures.touches.broken c.in-Err.ensures.touches.cause);
  };
}
