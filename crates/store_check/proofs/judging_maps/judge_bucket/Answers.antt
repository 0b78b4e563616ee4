-- The records of a bucket are all of it.
use Rattle.std.proofs.Common.{◌≡◌, ◌%◌, ℕ, List, true, sym, subst}
use Rattle.value_bytes.specs.StoreMap.{map_number}
use Rattle.value_bytes.specs.declared.store_map.StoreMap.{StoreMap}
use Rattle.bucket_store.specs.Image.{IsBucketOf}
use Rattle.store_check.specs.Judging.{map_for}
use Rattle.store_check.proofs.JudgedMaps.{bucket_seen, bucket_taken, records_in}
use Rattle.store_check.proofs.FindsLaws.{finds_err, found_all, lacks_memory, saw_both, saw_it}
use Rattle.store_check.proofs.judging_maps.judge_bucket.Goals as goal

pub returns-in-Err-clause-least : goal.returns-in-Err-clause-least
returns-in-Err-clause-least g c = finds_err c.in-Err.ensures.found

pub returns-clause-least : goal.returns-clause-least
returns-clause-least g c = lacks_memory (saw_both (saw_it c.in-Ok.ensures.found) c.forget.ensures.saw)

pub returns-in-Ok-judge_all-clause-takes : goal.returns-in-Ok-judge_all-clause-takes
returns-in-Ok-judge_all-clause-takes g c rest has =
    let kind = c.args.kind in
    let bucket = c.args.bucket % rest.root.buckets in
    let are = subst (λ (l : List (ℕ × List ℕ)). IsBucketOf rest (map_number (map_for kind)) bucket l) (sym (cc (c.as_slice.ensures.value)))
    (subst (λ (map : StoreMap). IsBucketOf rest (map_number map) bucket c.in-Ok.records.items) c.map_for.ensures
    (c.in-Ok.ensures.found.so rest has)) in
    bucket_taken c.args.asked rest kind bucket c.as_slice.result.now are c.args.held.now c.judge_all.new.held
    (c.in-Ok-judge_all.ensures.takes rest (records_in rest (map_number (map_for kind)) bucket c.as_slice.result.now are))

pub returns-in-Ok-judge_all-clause-least : goal.returns-in-Ok-judge_all-clause-least
returns-in-Ok-judge_all-clause-least g c = found_all (saw_both (saw_it c.in-Ok.ensures.found) c.forget.ensures.saw) (λ rest has was_seen before.
    let kind = c.args.kind in
    let bucket = c.args.bucket % rest.root.buckets in
    let are = subst (λ (l : List (ℕ × List ℕ)). IsBucketOf rest (map_number (map_for kind)) bucket l) (sym (cc (c.as_slice.ensures.value)))
    (subst (λ (map : StoreMap). IsBucketOf rest (map_number map) bucket c.in-Ok.records.items) c.map_for.ensures
    (c.in-Ok.ensures.found.so rest has)) in
    bucket_seen c.args.asked rest kind bucket c.as_slice.result.now are (λ key. was_seen key ≡ true) c.judge_all.new.least
    (c.in-Ok-judge_all.ensures.least rest (records_in rest (map_number (map_for kind)) bucket c.as_slice.result.now are) was_seen before))
