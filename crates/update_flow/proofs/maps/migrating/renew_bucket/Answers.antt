-- The records of a bucket are those of its nodes.
use Rattle.std.proofs.Common.{rules, ◌≡◌, ◌%◌, ℕ, List, Ok, IfErr, refl, sym, subst}
use Rattle.value_bytes.specs.StoreMap.{map_number}
use Rattle.value_bytes.specs.declared.store_map.StoreMap.TheVariants.{Nodes}
use Rattle.row_store.specs.Loading.{Among}
use Rattle.row_store.proofs.LookLaws.{sound_err}
use Rattle.back_index.specs.Visits.{Refuses}
use Rattle.back_index.proofs.Chained.{sound_refuses}
use Rattle.back_index.proofs.ReadKeys.{reads_bucket}
use Rattle.back_index.proofs.Reading.{on_ok}
use Rattle.update_flow.specs.maps.Migrating.{AreThere, HasOldUnread, IsIn, LooksOnce, Renews}
use Rattle.update_flow.proofs.Migrations.{once_of, once_then, records_there, renews_bucket, renews_once, unread_bucket}
use Rattle.update_flow.proofs.maps.migrating.renew_bucket.Goals as goal

pub returns-in-Err-clause-once : goal.returns-in-Err-clause-once
returns-in-Err-clause-once g c =
    renews_once
    (search rules)
    (λ rest now owns given.
    sound_refuses (Unit {0}) (HasOldUnread (IsIn now.root.buckets c.args.bucket) c.args.buckets.now now) c.in-Err.fault
    (sound_err (Unit {0}) c.records.result c.in-Err.fault c.in-Err.is (c.records.ensures.records.sound rest now owns)))

pub returns-clause-renews : goal.returns-clause-renews
returns-clause-renews g c =
    on_ok (Unit {0}) _ _ c.renew_records.result
    (λ renews rest now owns.
    let records = c.in-Ok.records.items in
    let bucket = c.args.bucket % now.root.buckets in
    let are = c.in-Ok.ensures.records.found rest now owns in
    let same : c.as_slice.result.now ≡ records = cc (c.as_slice.ensures.value) in
    let there = subst (λ (l : List (ℕ × List ℕ)). AreThere now l) (sym same) (records_there now bucket records are) in
    let done = renews rest now (c.in-Ok.ensures.records.keeps.has refl rest now owns) there in (
      done.0,
      done.1,
      renews_bucket now bucket records are done.0 (subst (λ (l : List (ℕ × List ℕ)). Renews (Among l) now done.0) same done.2),
    )) c.renew_records.ensures.renews

pub returns-clause-once : goal.returns-clause-once
returns-clause-once g c =
    renews_once
    (let done = c.in-Ok.ensures.touches in
    let first : LooksOnce {T = Unit {0}} c.args.buckets.now c.records.new.self (Ok tt) = record {
      looks = record {
        same = done.same;
        stays = done.stays;
        alone = tt;
        broken = done.broken;
        refused = done.refused;
        cause = record { later = done.cause.later; failed = λ is. absurd (cc) };
      };
      reads = reads_bucket c.args.buckets.now c.records.new.self (map_number Nodes) c.args.bucket done.reads;
    } in
    once_then c.args.buckets.now c.records.new.self c.renew_records.new.buckets c.renew_records.result first
    (once_of c.renew_records.ensures.once))
    (λ rest now owns given.
    let records = c.in-Ok.records.items in
    let are = c.in-Ok.ensures.records.found rest now owns in
    let same : c.as_slice.result.now ≡ records = cc (c.as_slice.ensures.value) in
    let there = subst (λ (l : List (ℕ × List ℕ)). AreThere now l) (sym same)
    (records_there now (c.args.bucket % now.root.buckets) records are) in
    unread_bucket c.args.buckets.now c.records.new.self now c.args.bucket records are c.renew_records.result c.in-Ok.ensures.touches.stays
    (subst (λ (l : List (ℕ × List ℕ)). IfErr c.renew_records.result (Refuses (HasOldUnread (Among l) c.records.new.self now))) same
    (c.renew_records.ensures.once.stops rest now (c.in-Ok.ensures.records.keeps.has refl rest now owns) there)))
