-- Rows are put where there are some, and taken out where there are none.
use Rattle.std.proofs.Common.{◌≡◌, Bool, List, [], sym, subst, ◌∙◌}
use Rattle.osm_base.specs.declared.values.row.TableRow.{TableRow}
use Rattle.row_store.specs.Maps.{map_of}
use Rattle.store_maps.specs.Asked.{row_key}
use Rattle.store_maps.specs.Maps.{set_rows}
use Rattle.update_flow.specs.maps.Held.{HasMaps}
use Rattle.update_flow.proofs.Findings.{sound_of, told_err, told_ok, touched_key}
use Rattle.update_flow.proofs.Settings.{both_ok, no_rows, rows_put, rows_set}
use Rattle.update_flow.proofs.Within.{rows_allowed, within_touched}
use Rattle.update_flow.proofs.maps.setting.keep_rows.Goals as goal

pub returns-in-Ok-clause-sets : goal.returns-in-Ok-clause-sets
returns-in-Ok-clause-sets g c under maps had =
    let none : c.args.rows.now ≡ [] = sym c.as_slice.ensures.items
    ∙ no_rows c.as_slice.result.now (sym c.if-is_empty.true ∙ c.is_empty.ensures) in
    let definitions = c.args.style.now.tables in
    subst (λ (rows : List TableRow). HasMaps definitions under (set_rows maps c.args.key.kind c.args.key.id rows) c.remove.new.buckets)
    (sym none)
    (rows_set c.args.buckets.now c.remove.new.buckets definitions under maps c.args.key.kind c.args.key.id [] tt
    (λ rest now has. (c.in-Ok.ensures.value.has rest now has).1) had)

pub returns-in-Ok-clause-puts : goal.returns-in-Ok-clause-puts
returns-in-Ok-clause-puts g c = record {
  sound = λ rest now has. tt;
  within = λ may allowed only. within_touched may c.args.buckets.now c.remove.new.buckets c.requires.ready.going (map_of c.args.key.kind)
      (row_key c.args.key.kind c.args.key.id) _ (rows_allowed may c.args.key.kind c.args.key.id allowed) c.in-Ok.ensures.touches only;
  touched = told_ok c.args.buckets.now c.remove.new.buckets c.in-Ok.field-0 tt
      (touched_key c.args.buckets.now c.remove.new.buckets (map_of c.args.key.kind)
      (row_key c.args.key.kind c.args.key.id) _ c.in-Ok.ensures.touches);
}

pub returns-in-Err-clause-puts : goal.returns-in-Err-clause-puts
returns-in-Err-clause-puts g c = record {
  sound = λ rest now has. sound_of Bool (Unit {0}) c.in-Err.fault (c.in-Err.ensures.value.sound rest now has);
  within = λ may allowed only. within_touched may c.args.buckets.now c.remove.new.buckets c.requires.ready.going (map_of c.args.key.kind)
      (row_key c.args.key.kind c.args.key.id) _ (rows_allowed may c.args.key.kind c.args.key.id allowed) c.in-Err.ensures.touches only;
  touched = told_err c.args.buckets.now c.remove.new.buckets Bool (Unit {0}) c.in-Err.fault
      (touched_key c.args.buckets.now c.remove.new.buckets (map_of c.args.key.kind)
      (row_key c.args.key.kind c.args.key.id) _ c.in-Err.ensures.touches);
}

pub returns-clause-sets : goal.returns-clause-sets
returns-clause-sets g c =
    both_ok _ _ _ c.put.result
    (λ has are under maps had. rows_put c.args.buckets.now c.put.new.buckets c.args.style.now.tables under maps c.args.key.kind
    c.args.key.id c.args.rows.now are has had)
    c.put.ensures.value.has c.put.ensures.are

pub returns-clause-puts : goal.returns-clause-puts
returns-clause-puts g c = record {
  sound = c.put.ensures.value.sound;
  within = λ may allowed only. within_touched may c.args.buckets.now c.put.new.buckets c.requires.ready.going (map_of c.args.key.kind)
      (row_key c.args.key.kind c.args.key.id) c.put.result
      (rows_allowed may c.args.key.kind c.args.key.id allowed) c.put.ensures.touches only;
  touched = touched_key c.args.buckets.now c.put.new.buckets (map_of c.args.key.kind) (row_key c.args.key.kind c.args.key.id) c.put.result
      c.put.ensures.touches;
}
