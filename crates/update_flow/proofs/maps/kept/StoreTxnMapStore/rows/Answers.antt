-- What the call on the buckets answers is what the maps answer.
use Rattle.std.proofs.Common.{List, Option, Ok, Err, refl}
use Rattle.osm_base.specs.declared.values.row.TableRow.{TableRow}
use Rattle.row_store.specs.Maps.{map_of}
use Rattle.store_maps.specs.Asked.{row_key}
use Rattle.update_flow.specs.maps.Calls.{buckets_of, style_in}
use Rattle.update_flow.specs.maps.Laws.{over_going}
use Rattle.update_flow.proofs.Findings.{rows_finds, touched_key}
use Rattle.update_flow.proofs.Keeping.{allowed_sound, looks_done, looks_stopped, over_ready}
use Rattle.update_flow.proofs.Within.{rows_allowed, within_touched}
use Rattle.update_flow.proofs.maps.kept.StoreTxnMapStore.rows.Goals as goal

pub get-requires : goal.get-requires
get-requires g c = record { ready = over_ready c.args.self.now c.requires }

pub returns-in-Ok-clause-rows : goal.returns-in-Ok-clause-rows
returns-in-Ok-clause-rows g c =
    (rows_finds (buckets_of c.args.self.now) c.get.new.buckets (style_in c.args.self.now).tables c.args.key.kind c.args.key.id
    (Ok c.in-Ok.found) c.in-Ok.ensures.value).found

pub returns-in-Ok-clause-within : goal.returns-in-Ok-clause-within
returns-in-Ok-clause-within g c may allowed only =
    within_touched may (buckets_of c.args.self.now) c.get.new.buckets (over_going c.args.self.now c.requires) (map_of c.args.key.kind)
    (row_key c.args.key.kind c.args.key.id) _ (rows_allowed may c.args.key.kind c.args.key.id allowed) c.in-Ok.ensures.touches only

pub returns-in-Ok-clause-looks : goal.returns-in-Ok-clause-looks
returns-in-Ok-clause-looks g c =
    looks_done c.args.self.now _ c.requires refl c.in-Ok.found refl
    (touched_key (buckets_of c.args.self.now) c.get.new.buckets (map_of c.args.key.kind) (row_key c.args.key.kind c.args.key.id) _
    c.in-Ok.ensures.touches)
    (c.in-Ok.ensures.value.keeps.has refl)

pub returns-in-Err-clause-within : goal.returns-in-Err-clause-within
returns-in-Err-clause-within g c may allowed only =
    within_touched may (buckets_of c.args.self.now) c.get.new.buckets (over_going c.args.self.now c.requires) (map_of c.args.key.kind)
    (row_key c.args.key.kind c.args.key.id) _ (rows_allowed may c.args.key.kind c.args.key.id allowed) c.in-Err.ensures.touches only

pub returns-in-Err-clause-looks : goal.returns-in-Err-clause-looks
returns-in-Err-clause-looks g c =
    looks_stopped c.args.self.now _ c.requires refl (Option (List TableRow)) c.in-Err.fault refl
    (touched_key (buckets_of c.args.self.now) c.get.new.buckets (map_of c.args.key.kind) (row_key c.args.key.kind c.args.key.id) _
    c.in-Err.ensures.touches)
    (λ under maps had. allowed_sound (Option (List TableRow)) c.in-Err.fault
    ((rows_finds (buckets_of c.args.self.now) c.get.new.buckets (style_in c.args.self.now).tables c.args.key.kind c.args.key.id
    (Err c.in-Err.fault) c.in-Err.ensures.value).sound under maps had))
