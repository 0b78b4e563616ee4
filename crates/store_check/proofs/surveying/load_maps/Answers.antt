-- The buckets of a map more are loaded, or one of them is refused.
use Rattle.std.proofs.Common.{◌+◌, ◌-◌, ◌∙◌, List, ap, arith, flat_map, sym, ℕ}
use Rattle.std.specs.List.{range_with_len}
use Rattle.chain_store.specs.declared.root.Root.{Root}
use Rattle.store_check.specs.BadPage.{IsLoaded, IsRefusedAt, chains_in}
use Rattle.store_check.proofs.Steps.{ends, goes_on, none_left, range_left, stops}
use Rattle.store_check.proofs.surveying.load_maps.Goals as goal

pub returns-in-Err : goal.returns-in-Err
returns-in-Err g c =
    let m = c.loop-number.number in
    let count = c.args.count in
    record {
      loads = stops IsLoaded IsRefusedAt (chains_in count m) (flat_map (chains_in count) (range_with_len m (8 - m)))
          (flat_map (chains_in count) (range_with_len (m + 1) (8 - (m + 1)))) (flat_map (chains_in count) (range_with_len 0 8))
          c.args.buckets.now c.loop-number.buckets
          c.load_map.new.buckets c.args.marks.now c.loop-number.marks c.load_map.new.marks c.load_map.new.marks c.in-Err.fault
          (ap (λ (l : List ℕ). flat_map (chains_in count) l) (range_left m 8 (omega (arith, c.loop-number-test.true))))
          c.loop-number.invariant.on c.in-Err.ensures.loads;
    }

pub loop-number-preserved : goal.loop-number-preserved
loop-number-preserved g c =
    let m = c.loop-number.number in
    let count = c.args.count in
    let done = c.in_default.ensures.loads in
    record {
      begun = done.begun;
      going = done.looks.refused;
      count = c.loop-number.invariant.count ∙ ap (λ (r : Root). r.buckets) (sym done.looks.stays.root);
      low = omega (arith, c.loop-number-test.true);
      on = goes_on IsLoaded IsRefusedAt (chains_in count m) (flat_map (chains_in count) (range_with_len m (8 - m)))
          (flat_map (chains_in count) (range_with_len (m + 1) (8 - (m + 1)))) (flat_map (chains_in count) (range_with_len 0 8))
          c.args.buckets.now c.loop-number.buckets
          c.load_map.new.buckets c.args.marks.now c.loop-number.marks c.load_map.new.marks c.in_default.field-0
          (ap (λ (l : List ℕ). flat_map (chains_in count) l) (range_left m 8 (omega (arith, c.loop-number-test.true))))
          c.loop-number.invariant.on done;
    }

pub returns : goal.returns
returns g c =
    let m = c.loop-number.number in
    let count = c.args.count in
    record {
      loads = ends IsLoaded IsRefusedAt (flat_map (chains_in count) (range_with_len m (8 - m)))
          (flat_map (chains_in count) (range_with_len 0 8)) c.args.buckets.now
          c.loop-number.buckets c.args.marks.now c.loop-number.marks
          (ap (λ (l : List ℕ). flat_map (chains_in count) l) (none_left m 8 (omega (arith, c.loop-number-test.false))))
          c.loop-number.invariant.on c.loop-number.invariant.begun c.loop-number.invariant.going;
    }
