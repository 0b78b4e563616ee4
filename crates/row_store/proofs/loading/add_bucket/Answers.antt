-- The records that a bucket lends fill in the rows of its numbers, and so do their copies; a bare bucket has no numbers.
use Rattle.std.proofs.Common.{◌%◌, ℕ, List, [], refl, rules}
use Rattle.chain_store.specs.Chains.{first_of}
use Rattle.bucket_store.specs.Transaction.{bucket_at, chains_of}
use Rattle.bucket_store.proofs.Bare.{bare_records}
use Rattle.bucket_store.proofs.Caches.{on_ok}
use Rattle.row_store.specs.Loading.{Among, AreRowsOf}
use Rattle.row_store.proofs.LoadLaws.{bucket_fills, fills_none, records_told}
use Rattle.row_store.proofs.LookLaws.{memory_sound}
use Rattle.row_store.proofs.SpelledLaws.{bucket_is}
use Rattle.value_bytes.specs.StoreMap.{map_number}
use Rattle.value_bytes.proofs.MapNumbers.{map_number-below}
use Rattle.row_store.proofs.loading.add_bucket.Goals as goal

pub returns-then-is_bare-clause-filled : goal.returns-then-is_bare-clause-filled
returns-then-is_bare-clause-filled g c rest now rows has told =
    let which = map_number c.args.map in
    let are = bare_records rest now c.args.buckets.now which c.args.bucket (map_number-below c.args.map) c.requires.ready.some
    (c.is_bare.ensures.none c.if-is_bare.true) has in
    bucket_fills c.args.style.now.tables c.args.wanted which rows now (c.args.bucket % now.root.buckets) [] are
    (g.F.Filled.tables c.args.tables.now) (g.F.Filled.tables c.args.tables.now)
    (fills_none which rows (Among []) (g.F.Filled.tables c.args.tables.now) (λ n among. among))

pub returns-then-is_bare-clause-spelled : goal.returns-then-is_bare-clause-spelled
returns-then-is_bare-clause-spelled g c rest now has =
    let which = map_number c.args.map in
    let are = bare_records rest now c.args.buckets.now which c.args.bucket (map_number-below c.args.map) c.requires.ready.some
    (c.is_bare.ensures.none c.if-is_bare.true) has in
    bucket_is (λ (one : ℕ × List ℕ). AreRowsOf c.args.style.now.tables which one.0 one.1) which now (c.args.bucket % now.root.buckets) []
    are tt

pub returns-in-Err-clause-sound : goal.returns-in-Err-clause-sound
returns-in-Err-clause-sound g c rest now rows has told = c.in-Err.ensures.brings.sound rest now has

pub returns-in-None-clause-filled : goal.returns-in-None-clause-filled
returns-in-None-clause-filled g c =
    on_ok c.add_copied.result _ _ c.add_copied.ensures.filled (λ filled rest now rows has told.
    filled rest now rows (c.in_default.ensures.brings.keeps.has refl rest now has) told)

pub returns-in-None-clause-spelled : goal.returns-in-None-clause-spelled
returns-in-None-clause-spelled g c =
    on_ok c.add_copied.result _ _ c.add_copied.ensures.spelled (λ spelled rest now has.
    spelled rest now (c.in_default.ensures.brings.keeps.has refl rest now has))

pub returns-in-None-clause-looks : goal.returns-in-None-clause-looks
returns-in-None-clause-looks g c = record {
  has = on_ok c.add_copied.result _ _ c.add_copied.ensures.looks.has (λ kept rest now has.
      kept rest now (c.in_default.ensures.brings.keeps.has refl rest now has));
  looks = search rules;
}

pub returns-in-None-clause-sound : goal.returns-in-None-clause-sound
returns-in-None-clause-sound g c rest now rows has told =
    c.add_copied.ensures.sound rest now rows (c.in_default.ensures.brings.keeps.has refl rest now has) told

pub returns-in-Ok-clause-filled : goal.returns-in-Ok-clause-filled
returns-in-Ok-clause-filled g c rest now rows has told =
    let which = map_number c.args.map in
    let bucket = c.args.bucket % now.root.buckets in
    let records = c.in-Some.records.now in
    let are = c.in-Some.ensures.found rest now (c.in_default.ensures.brings.keeps.has refl rest now has) in
    bucket_fills c.args.style.now.tables c.args.wanted which rows now bucket records are (g.F.Filled.tables c.args.tables.now)
    (g.F.Filled.tables c.add_lent-read.new.tables)
    (c.in-Ok.ensures.filled rows (records_told c.args.style.now.tables c.args.wanted which rows now bucket records are told))

pub returns-in-Ok-clause-spelled : goal.returns-in-Ok-clause-spelled
returns-in-Ok-clause-spelled g c rest now has =
    let which = map_number c.args.map in
    bucket_is (λ (one : ℕ × List ℕ). AreRowsOf c.args.style.now.tables which one.0 one.1) which now (c.args.bucket % now.root.buckets)
    c.in-Some.records.now (c.in-Some.ensures.found rest now (c.in_default.ensures.brings.keeps.has refl rest now has))
    c.in-Ok.ensures.spelled

pub returns-in-Err-read-clause-sound : goal.returns-in-Err-read-clause-sound
returns-in-Err-read-clause-sound g c rest now rows has told =
    let which = map_number c.args.map in
    let mid = c.bring.new.self in
    let records = c.in-Some.records.now in
    let are = c.in-Some.ensures.found rest now (c.in_default.ensures.brings.keeps.has refl rest now has) in
    let each = records_told c.args.style.now.tables c.args.wanted which rows now (c.args.bucket % now.root.buckets) records are told in
    memory_sound c.in-Err-read.fault (first_of (chains_of mid) (bucket_at mid which c.args.bucket)) c.refuse_value.result
    c.refuse_value.ensures.refusal (c.in-Err-read.ensures.sound rows each)
