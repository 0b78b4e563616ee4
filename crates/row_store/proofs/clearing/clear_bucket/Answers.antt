-- The records of the bucket are all that it has.
use Rattle.std.proofs.Common.{◌≡◌, ℕ, List, Ok, Err, subst}
use Rattle.row_store.specs.Clearing.{TakesOut}
use Rattle.row_store.specs.Loading.{Among}
use Rattle.row_store.proofs.ClearLaws.{bucket_out}
use Rattle.value_bytes.specs.StoreMap.{map_number}
use Rattle.row_store.proofs.clearing.clear_bucket.Goals as goal

pub returns-in-Ok-remove_all : goal.returns-in-Ok-remove_all
returns-in-Ok-remove_all g c =
    let which = map_number c.args.map in
    let mid = c.records.new.self in
    let new = c.remove_all.new.buckets in
    let same : c.as_slice.result.now ≡ c.in-Ok.records.items = cc (c.as_slice.ensures.value) in
    record {
      out = bucket_out which c.args.bucket c.args.buckets.now mid new c.in-Ok.records (Ok (tt {0})) c.in-Ok.ensures.records
          c.in-Ok.ensures.touches
          (subst (λ (l : List (ℕ × List ℕ)). TakesOut {T = Unit {0}} which (Among l) mid new (Ok (tt {0}))) same c.in-Ok-remove_all.ensures.out);
    }

pub returns : goal.returns
returns g c =
    let which = map_number c.args.map in
    let mid = c.records.new.self in
    let new = c.remove_all.new.buckets in
    let same : c.as_slice.result.now ≡ c.in-Ok.records.items = cc (c.as_slice.ensures.value) in
    record {
      out = bucket_out which c.args.bucket c.args.buckets.now mid new c.in-Ok.records (Err c.in-Err-remove_all.fault) c.in-Ok.ensures.records
          c.in-Ok.ensures.touches
          (subst (λ (l : List (ℕ × List ℕ)). TakesOut {T = Unit {0}} which (Among l) mid new (Err c.in-Err-remove_all.fault)) same
          c.in-Err-remove_all.ensures.out);
    }
