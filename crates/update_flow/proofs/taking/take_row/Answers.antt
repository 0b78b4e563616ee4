-- The row is turned in the record of its key.
use Rattle.std.proofs.Common.{Some, ap, rules, sym, subst}
use Rattle.chain_store.specs.declared.root.Root.{Root}
use Rattle.store_maps.specs.Asked.{row_key}
use Rattle.update_flow.specs.Within.{IsSound, RunsWithin}
use Rattle.update_flow.specs.declared.fault.FlowFault.{FlowFault}
use Rattle.update_flow.proofs.Openings.{sound_store}
use Rattle.update_flow.proofs.Running.{runs_done, runs_refused}
use Rattle.update_flow.proofs.Takings.{value_beside}
use Rattle.update_flow.proofs.taking.take_row.Goals as goal

pub returns-in-Ok-clause-taken : goal.returns-in-Ok-clause-taken
returns-in-Ok-clause-taken g c rest now tables has holds =
    let key = c.args.change.key in
    let set = c.in-Ok.ensures.row.tables rest now tables has holds in
    record {
      later = _;
      has = set.1;
      holds = set.2;
      beside = value_beside key.kind (row_key key.kind key.id) set.0 now;
    }

pub returns-in-Ok-clause-count : goal.returns-in-Ok-clause-count
returns-in-Ok-clause-count g c = ap (λ (r : Root). r.buckets) c.in-Ok.ensures.touches.stays.root

pub returns-in-Ok-clause-goes : goal.returns-in-Ok-clause-goes
returns-in-Ok-clause-goes g c = record {
  going = search rules;
  runs = runs_done c.args.buckets.now c.set_row.new.buckets c.in-Ok.ensures.touches.same c.requires.filled.ready.whole
      c.in-Ok.ensures.touches.broken;
}

pub returns-in-Err-clause-count : goal.returns-in-Err-clause-count
returns-in-Err-clause-count g c = ap (λ (r : Root). r.buckets) c.in-Err.ensures.touches.stays.root

pub returns-in-Err-clause-sound : goal.returns-in-Err-clause-sound
returns-in-Err-clause-sound g c rest now tables has holds =
    subst (λ (f : FlowFault). IsSound (Some f)) (sym c.store_fault.ensures)
    (sound_store (Unit {0}) c.in-Err.fault (c.in-Err.ensures.row.sound rest now tables has holds))

pub returns-in-Err-clause-goes : goal.returns-in-Err-clause-goes
returns-in-Err-clause-goes g c =
    let touches = c.in-Err.ensures.touches in
    record {
      going = search rules;
      runs = subst (λ (f : FlowFault). RunsWithin c.args.buckets.now c.set_row.new.buckets (Some f)) (sym c.store_fault.ensures)
          (runs_refused c.args.buckets.now c.set_row.new.buckets touches.same c.requires.filled.ready.whole (Unit {0}) c.in-Err.fault
          touches.alone touches.broken touches.cause);
    }
