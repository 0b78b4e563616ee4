-- A store that means something puts the list, or refuses for the disk or for want of memory.
use Rattle.std.proofs.Common.{rules, ℕ, Bool, Ok}
use Rattle.value_bytes.specs.StoreMap.{map_number}
use Rattle.back_index.proofs.Chained.{sound_refuses, sound_result}
use Rattle.back_index.proofs.ReadKeys.{reads_key, reads_refused, reads_bucket, reads_result}
use Rattle.back_index.proofs.lists.keep_list.Goals as goal

pub returns-in-Ok-clause-touches : goal.returns-in-Ok-clause-touches
returns-in-Ok-clause-touches g c =
    let touches = c.in-Ok.ensures.touches in
    record {
      answers = search rules;
      reads = reads_bucket c.args.buckets.now c.remove.new.self (map_number c.args.map) c.args.id touches.reads;
      stops = search rules;
      within = λ may allowed only. reads_key may c.args.buckets.now c.remove.new.self
          (map_number c.args.map) c.args.id c.requires.ready.going
          allowed touches.stays {T = Unit {0}} (Ok tt) touches.reads touches.refused only;
    }

pub returns-in-Err-clause-touches : goal.returns-in-Err-clause-touches
returns-in-Err-clause-touches g c = record {
  answers = search rules;
  reads = search rules;
  stops = λ rest now has. sound_refuses Bool (λ (at : ℕ). ⊥) c.in-Err.fault (c.in-Err.ensures.value.sound rest now has);
  within = λ may allowed only. reads_refused may c.remove.new.self c.in-Err.ensures.touches.refused;
}

pub returns-in-Ok-ids_bytes-clause-touches : goal.returns-in-Ok-ids_bytes-clause-touches
returns-in-Ok-ids_bytes-clause-touches g c =
    let touches = c.put.ensures.touches in
    record {
      answers = search rules;
      reads = reads_result c.args.buckets.now c.put.new.self (map_number c.args.map) c.args.id c.put.result touches.reads;
      stops = λ rest now has. sound_result (Unit {0}) (λ (at : ℕ). ⊥) c.put.result (c.put.ensures.value.sound rest now has);
      within = λ may allowed only. reads_key may c.args.buckets.now c.put.new.self (map_number c.args.map) c.args.id c.requires.ready.going
          allowed touches.stays c.put.result touches.reads touches.refused only;
    }

pub returns-in-Err-ids_bytes-clause-touches : goal.returns-in-Err-ids_bytes-clause-touches
returns-in-Err-ids_bytes-clause-touches g c = record {
  answers = search rules;
  reads = search rules;
  stops = search rules;
  within = λ may allowed only. reads_refused may c.refused.new.buckets c.refused.ensures.marks.refused;
}
