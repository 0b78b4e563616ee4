-- A bucket more is loaded, or refused.
use Rattle.std.proofs.Common.{◌+◌, ◌-◌, ◌∷◌, ◌∙◌, [], List, ap, arith, map, sym, ℕ}
use Rattle.std.specs.List.{range_with_len}
use Rattle.chain_store.specs.declared.root.Root.{Root}
use Rattle.bucket_store.specs.Image.{bucket_chain}
use Rattle.value_bytes.specs.StoreMap.{map_number}
use Rattle.store_check.specs.BadPage.{IsLoaded, IsRefusedAt, chains_in}
use Rattle.store_check.proofs.Steps.{ends, goes_on, none_left, range_left, stops}
use Rattle.store_check.proofs.surveying.load_buckets.Goals as goal

pub returns-in-Err : goal.returns-in-Err
returns-in-Err g c =
    let b = c.loop-bucket.bucket in
    let count = c.args.count in
    let m = map_number c.args.map in
    record {
      loads = stops IsLoaded IsRefusedAt (bucket_chain m b ∷ []) (map (bucket_chain m) (range_with_len b (count - b)))
          (map (bucket_chain m) (range_with_len (b + 1) (count - (b + 1)))) (chains_in count m) c.args.buckets.now c.loop-bucket.buckets
          c.load_bucket.new.buckets c.args.marks.now c.loop-bucket.marks c.load_bucket.new.marks c.load_bucket.new.marks c.in-Err.fault
          (ap (λ (l : List ℕ). map (bucket_chain m) l) (range_left b count (omega (arith, c.loop-bucket-test.true))))
          c.loop-bucket.invariant.on c.in-Err.ensures.loads;
    }

pub loop-bucket-preserved : goal.loop-bucket-preserved
loop-bucket-preserved g c =
    let b = c.loop-bucket.bucket in
    let count = c.args.count in
    let m = map_number c.args.map in
    let done = c.in_default.ensures.loads in
    record {
      begun = done.begun;
      going = done.looks.refused;
      count = c.loop-bucket.invariant.count ∙ ap (λ (r : Root). r.buckets) (sym done.looks.stays.root);
      low = omega (arith, c.loop-bucket-test.true);
      on = goes_on IsLoaded IsRefusedAt (bucket_chain m b ∷ []) (map (bucket_chain m) (range_with_len b (count - b)))
          (map (bucket_chain m) (range_with_len (b + 1) (count - (b + 1)))) (chains_in count m) c.args.buckets.now c.loop-bucket.buckets
          c.load_bucket.new.buckets c.args.marks.now c.loop-bucket.marks c.load_bucket.new.marks c.in_default.field-0
          (ap (λ (l : List ℕ). map (bucket_chain m) l) (range_left b count (omega (arith, c.loop-bucket-test.true))))
          c.loop-bucket.invariant.on done;
    }

pub returns : goal.returns
returns g c =
    let b = c.loop-bucket.bucket in
    let count = c.args.count in
    let m = map_number c.args.map in
    record {
      loads = ends IsLoaded IsRefusedAt (map (bucket_chain m) (range_with_len b (count - b))) (chains_in count m) c.args.buckets.now
          c.loop-bucket.buckets c.args.marks.now c.loop-bucket.marks
          (ap (λ (l : List ℕ). map (bucket_chain m) l) (none_left b count (omega (arith, c.loop-bucket-test.false))))
          c.loop-bucket.invariant.on c.loop-bucket.invariant.begun c.loop-bucket.invariant.going;
    }
