-- What the call on the buckets answers is what the maps answer.
use Rattle.std.proofs.Common.{◌∙◌, Option, ap, refl}
use Rattle.osm_base.specs.values.Place.{PlaceOf}
use Rattle.value_bytes.specs.declared.nodes.NodeRecord.{NodeRecord}
use Rattle.store_maps.specs.Named.{place_in}
use Rattle.update_flow.specs.maps.Calls.{buckets_of, style_in}
use Rattle.update_flow.specs.maps.Laws.{over_going}
use Rattle.update_flow.proofs.Findings.{record_found, record_sound, told_err, told_ok, touched_key}
use Rattle.update_flow.proofs.Keeping.{allowed_sound, looks_done, looks_stopped, over_ready}
use Rattle.update_flow.proofs.Within.{within_touched}
use Rattle.update_flow.proofs.maps.kept.StoreTxnMapStore.place.Goals as goal

pub get-requires : goal.get-requires
get-requires g c = record { ready = over_ready c.args.self.now c.requires }

pub returns-in-Ok-clause-place : goal.returns-in-Ok-clause-place
returns-in-Ok-clause-place g c under maps had =
    c.place_in.ensures
    ∙ ap (λ (o : Option NodeRecord). place_in o)
    (record_found (buckets_of c.args.self.now) c.get.new.buckets c.args.id c.in-Ok.found c.in-Ok.ensures.value
    (style_in c.args.self.now).tables under maps had)

pub returns-in-Ok-clause-within : goal.returns-in-Ok-clause-within
returns-in-Ok-clause-within g c may allowed only =
    within_touched may (buckets_of c.args.self.now) c.get.new.buckets (over_going c.args.self.now c.requires) 0 c.args.id _ allowed
    c.in-Ok.ensures.touches only

pub returns-in-Ok-clause-looks : goal.returns-in-Ok-clause-looks
returns-in-Ok-clause-looks g c =
    looks_done c.args.self.now _ c.requires refl c.place_in.result refl
    (told_ok (buckets_of c.args.self.now) c.get.new.buckets c.in-Ok.found c.place_in.result
    (touched_key (buckets_of c.args.self.now) c.get.new.buckets 0 c.args.id _ c.in-Ok.ensures.touches))
    (c.in-Ok.ensures.value.keeps.has refl)

pub returns-in-Err-clause-within : goal.returns-in-Err-clause-within
returns-in-Err-clause-within g c may allowed only =
    within_touched may (buckets_of c.args.self.now) c.get.new.buckets (over_going c.args.self.now c.requires) 0 c.args.id _ allowed
    c.in-Err.ensures.touches only

pub returns-in-Err-clause-looks : goal.returns-in-Err-clause-looks
returns-in-Err-clause-looks g c =
    looks_stopped c.args.self.now _ c.requires refl (Option PlaceOf) c.in-Err.fault refl
    (told_err (buckets_of c.args.self.now) c.get.new.buckets (Option NodeRecord) (Option PlaceOf) c.in-Err.fault
    (touched_key (buckets_of c.args.self.now) c.get.new.buckets 0 c.args.id _ c.in-Err.ensures.touches))
    (λ under maps had. allowed_sound (Option PlaceOf) c.in-Err.fault
    (record_sound (buckets_of c.args.self.now) c.get.new.buckets (Option PlaceOf) c.args.id c.in-Err.fault c.in-Err.ensures.value
    (style_in c.args.self.now).tables under maps had))
