-- The records of a bucket fill in the rows of its numbers.
use Rattle.std.proofs.Common.{◌≡◌, ◌%◌, ℕ, List, sym, subst}
use Rattle.std.specs.List.{AllByRecursion}
use Rattle.chain_store.specs.Chains.{first_of}
use Rattle.bucket_store.specs.Transaction.{bucket_at, chains_of}
use Rattle.row_store.specs.Loading.{Among, AreRowsOf, Fills, IsTold}
use Rattle.row_store.proofs.LoadLaws.{bucket_fills, records_told}
use Rattle.row_store.proofs.LookLaws.{memory_sound, sound_err}
use Rattle.row_store.proofs.SpelledLaws.{bucket_is}
use Rattle.value_bytes.specs.StoreMap.{map_number}
use Rattle.row_store.proofs.loading.add_copied.Goals as goal

pub returns-in-Err-clause-sound : goal.returns-in-Err-clause-sound
returns-in-Err-clause-sound g c rest now rows has told =
    sound_err (Unit {0}) c.records.result c.in-Err.fault c.in-Err.is (c.records.ensures.records.sound rest now has)

pub returns-in-Ok-add_records-clause-filled : goal.returns-in-Ok-add_records-clause-filled
returns-in-Ok-add_records-clause-filled g c rest now rows has told =
    let definitions = c.args.style.now.tables in
    let records = c.in-Ok.records.items in
    let bucket = c.args.bucket % now.root.buckets in
    let are = c.in-Ok.ensures.records.found rest now has in
    let same : c.as_slice.result.now ≡ records = cc (c.as_slice.ensures.value) in
    let each = records_told definitions c.args.wanted (map_number c.args.map) rows now bucket records are told in
    let filled = c.in-Ok-add_records.ensures.filled rows
    (subst (λ (l : List (ℕ × List ℕ)). AllByRecursion (λ one. IsTold definitions c.args.wanted (map_number c.args.map) rows one.0 one.1) l)
    (sym same) each) in
    bucket_fills definitions c.args.wanted (map_number c.args.map) rows now bucket records are (g.F.Filled.tables c.args.tables.now)
    (g.F.Filled.tables c.add_records.new.tables)
    (subst (λ (l : List (ℕ × List ℕ)). Fills (map_number c.args.map) rows (Among l) (g.F.Filled.tables c.args.tables.now)
    (g.F.Filled.tables c.add_records.new.tables)) same filled)

pub returns-clause-sound : goal.returns-clause-sound
returns-clause-sound g c rest now rows has told =
    let definitions = c.args.style.now.tables in
    let records = c.in-Ok.records.items in
    let bucket = c.args.bucket % now.root.buckets in
    let are = c.in-Ok.ensures.records.found rest now has in
    let same : c.as_slice.result.now ≡ records = cc (c.as_slice.ensures.value) in
    let each = records_told definitions c.args.wanted (map_number c.args.map) rows now bucket records are told in
    let memory = c.in-Err-add_records.ensures.sound rows
    (subst (λ (l : List (ℕ × List ℕ)). AllByRecursion (λ one. IsTold definitions c.args.wanted (map_number c.args.map) rows one.0 one.1) l)
    (sym same) each) in
    memory_sound c.in-Err-add_records.fault (first_of (chains_of c.records.new.self)
    (bucket_at c.records.new.self (map_number c.args.map) c.args.bucket))
    c.refuse_value.result c.refuse_value.ensures.refusal memory

pub returns-in-Ok-add_records-clause-spelled : goal.returns-in-Ok-add_records-clause-spelled
returns-in-Ok-add_records-clause-spelled g c rest now has number bytes there mine =
    let records = c.in-Ok.records.items in
    let Is = λ (one : ℕ × List ℕ). AreRowsOf c.args.style.now.tables (map_number c.args.map) one.0 one.1 in
    let same : c.as_slice.result.now ≡ records = cc (c.as_slice.ensures.value) in
    bucket_is Is (map_number c.args.map) now (c.args.bucket % now.root.buckets) records (c.in-Ok.ensures.records.found rest now has)
    (subst (λ (l : List (ℕ × List ℕ)). AllByRecursion Is l) same c.in-Ok-add_records.ensures.spelled) number bytes there mine
