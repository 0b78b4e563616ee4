-- The rows of the key are got, and others are set.
use Rattle.std.proofs.Common.{List, Ok, Err, IfSome, rules, sym, subst}
use Rattle.osm_base.specs.declared.values.row.TableRow.{TableRow}
use Rattle.osm_base.specs.map.Spots.{SpotOf}
use Rattle.osm_base.specs.values.Key.{IsId}
use Rattle.bucket_store.specs.Typed.{Touches}
use Rattle.store_maps.specs.Append.{MayKeep}
use Rattle.store_maps.specs.Asked.{row_key}
use Rattle.store_maps.specs.Rows.{Fits}
use Rattle.row_store.specs.Maps.{map_of}
use Rattle.row_store.specs.Tables.{SetsRow}
use Rattle.row_store.proofs.TurnCalls.{not_got, row_set, touches_then}
use Rattle.row_store.proofs.TurnLaws.{turned_kept}
use Rattle.row_store.proofs.tables.set_row.Goals as goal

pub returns-in-Err-clause-row : goal.returns-in-Err-clause-row
returns-in-Err-clause-row g c =
    let at : SpotOf = record { table = c.spot.inside.table; key = c.spot.inside.key } in
    subst (λ (s : SpotOf). SetsRow c.args.style.now.tables s c.args.row c.args.buckets.now c.get.new.buckets (Err c.in-Err.fault))
    c.spot.view_is
    (not_got c.args.style.now.tables at c.args.row c.args.buckets.now c.get.new.buckets c.in-Err.fault c.in-Err.ensures.answers
    c.in-Err.ensures.value)

pub keep-requires-clause-may : goal.keep-requires-clause-may
keep-requires-clause-may g c =
    let definitions = c.args.style.now.tables in
    let fits = subst (λ (s : SpotOf). IfSome c.args.row (λ row. Fits definitions (record { table = s.table; row = row })))
    (sym c.spot.view_is) c.requires.fits in
    subst (λ (l : List TableRow). MayKeep definitions l) (sym c.in-Ok-turned.ensures.rows)
    (turned_kept definitions c.in-Ok.found c.spot.inside.table c.args.row c.in-Ok.ensures.kept fits)

pub returns-in-Ok-keep-clause-row : goal.returns-in-Ok-keep-clause-row
returns-in-Ok-keep-clause-row g c =
    let at : SpotOf = record { table = c.spot.inside.table; key = c.spot.inside.key } in
    let got = c.in-Ok.ensures in
    let good : IsId c.spot.inside.key.id = search rules in
    subst (λ (s : SpotOf). SetsRow c.args.style.now.tables s c.args.row c.args.buckets.now c.keep.new.buckets (Ok (tt {0}))) c.spot.view_is
    (row_set c.args.style.now.tables at c.args.row c.args.buckets.now c.get.new.buckets c.keep.new.buckets c.in-Ok.found
    c.in-Ok-turned.rows c.in-Ok-turned.ensures.rows got.value got.touches.stays got.touches.opens good (Ok (tt {0}))
    c.in-Ok-keep.ensures.bytes c.in-Ok-keep.ensures.spelled)

pub returns-in-Ok-keep-clause-touches : goal.returns-in-Ok-keep-clause-touches
returns-in-Ok-keep-clause-touches g c =
    let key = c.spot.inside.key in
    subst (λ (s : SpotOf). Touches {T = Unit {0}} (map_of s.key.kind) (row_key s.key.kind s.key.id) c.args.buckets.now c.keep.new.buckets
    (Ok (tt {0}))) c.spot.view_is
    (touches_then (map_of key.kind) (row_key key.kind key.id) c.args.buckets.now c.get.new.buckets c.keep.new.buckets c.in-Ok.found
    (Ok (tt {0})) c.in-Ok.ensures.touches c.in-Ok-keep.ensures.touches)

pub returns-clause-row : goal.returns-clause-row
returns-clause-row g c =
    let at : SpotOf = record { table = c.spot.inside.table; key = c.spot.inside.key } in
    let got = c.in-Ok.ensures in
    let good : IsId c.spot.inside.key.id = search rules in
    subst (λ (s : SpotOf). SetsRow c.args.style.now.tables s c.args.row c.args.buckets.now c.keep.new.buckets (Err c.in-Err-keep.fault))
    c.spot.view_is
    (row_set c.args.style.now.tables at c.args.row c.args.buckets.now c.get.new.buckets c.keep.new.buckets c.in-Ok.found
    c.in-Ok-turned.rows c.in-Ok-turned.ensures.rows got.value got.touches.stays got.touches.opens good (Err c.in-Err-keep.fault)
    c.in-Err-keep.ensures.bytes c.in-Err-keep.ensures.spelled)
