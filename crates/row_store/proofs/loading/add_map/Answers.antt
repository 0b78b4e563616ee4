-- A bucket more fills in its rows, and all buckets are the map.
use Rattle.std.proofs.Common.{◌≡◌, ◌<◌, ◌+◌, ◌%◌, ◌∙◌, inl, inr, ap, arith, mod-lt}
use Rattle.std.specs.Option.{IsSome}
use Rattle.std.specs.FinMap as map
use Rattle.chain_store.specs.declared.root.Root.{Root}
use Rattle.bucket_store.specs.Buckets.{bucket_count}
use Rattle.bucket_store.specs.Transaction.{chains_of}
use Rattle.bucket_store.proofs.Holding.{looks_then}
use Rattle.row_store.proofs.LoadLaws.{bucket_split, fills_fewer, fills_then}
use Rattle.row_store.proofs.LookLaws.{read_then, still_whole}
use Rattle.value_bytes.specs.StoreMap.{map_number}
use Rattle.row_store.proofs.loading.add_map.Goals as goal

pub returns-in-Err-clause-sound : goal.returns-in-Err-clause-sound
returns-in-Err-clause-sound g c rest now rows has told =
    c.in-Err.ensures.sound rest now rows (c.loop-bucket.invariant.has rest now has) told

pub loop-bucket-preserved : goal.loop-bucket-preserved
loop-bucket-preserved g c =
    let before = c.loop-bucket.invariant in
    let done = c.in_default.ensures in
    let old = c.args.buckets.now in
    let mid = c.loop-bucket.buckets in
    let new = c.add_bucket.new.buckets in
    let bucket = c.loop-bucket.bucket in
    record {
      going = done.looks.looks.refused;
      still = still_whole mid new c.in_default.field-0 done.looks.looks ∙ before.still;
      same = looks_then old mid new before.same done.looks.looks.same;
      stays = read_then old mid new before.stays done.looks.looks.stays;
      has = λ rest now had. done.looks.has rest now (before.has rest now had);
      filled = λ rest now rows had told.
          let count : c.root-count.result.buckets ≡ now.root.buckets = ap (λ (r : Root). r.buckets) (c.root-count.ensures ∙ had.root) in
          fills_then (map_number c.args.map) rows (λ n. IsSome (map.get (now.maps (map_number c.args.map)) n)
          × (n % now.root.buckets < bucket))
          (λ n. IsSome (map.get (now.maps (map_number c.args.map)) n) × (n % now.root.buckets ≡ bucket % now.root.buckets))
          (λ n. IsSome (map.get (now.maps (map_number c.args.map)) n) × (n % now.root.buckets < bucket + 1))
          (g.F.Filled.tables c.args.tables.now) (g.F.Filled.tables c.loop-bucket.tables)
          (g.F.Filled.tables c.add_bucket.new.tables) (before.filled rest now rows had told)
          (done.filled rest now rows (before.has rest now had) told)
          (λ n part. elim (bucket_split n bucket now.root.buckets (omega (arith, c.loop-bucket-test.true, count)) part.1) [
            | inl less ↦ inl (part.0, less)
            | inr same ↦ inr (part.0, same)
          ]);
      spelled = λ rest now had number bytes there low.
          let count : c.root-count.result.buckets ≡ now.root.buckets = ap (λ (r : Root). r.buckets) (c.root-count.ensures ∙ had.root) in
          elim (bucket_split number bucket now.root.buckets (omega (arith, c.loop-bucket-test.true, count)) low) [
            | inl less ↦ before.spelled rest now had number bytes there less
            | inr same ↦ done.spelled rest now (before.has rest now had) number bytes there same
          ];
    }

pub returns-clause-filled : goal.returns-clause-filled
returns-clause-filled g c rest now rows has told =
    let bucket = c.loop-bucket.bucket in
    let count : c.root-count.result.buckets ≡ now.root.buckets = ap (λ (r : Root). r.buckets) (c.root-count.ensures ∙ has.root) in
    let own : bucket_count (chains_of c.args.buckets.now) ≡ now.root.buckets = ap (λ (r : Root). r.buckets) has.root in
    fills_fewer (map_number c.args.map) rows (λ n. IsSome (map.get (now.maps (map_number c.args.map)) n))
    (λ n. IsSome (map.get (now.maps (map_number c.args.map)) n) × (n % now.root.buckets < bucket))
    (g.F.Filled.tables c.args.tables.now) (g.F.Filled.tables c.loop-bucket.tables) (c.loop-bucket.invariant.filled rest now rows has told)
    (λ n some.
    let low : n % now.root.buckets < now.root.buckets = mod-lt n (omega (arith, c.requires.ready.some, own)) in
    (some, omega (arith, low, c.loop-bucket-test.false, count)))

pub returns-clause-spelled : goal.returns-clause-spelled
returns-clause-spelled g c rest now has number bytes there =
    let count : c.root-count.result.buckets ≡ now.root.buckets = ap (λ (r : Root). r.buckets) (c.root-count.ensures ∙ has.root) in
    let own : bucket_count (chains_of c.args.buckets.now) ≡ now.root.buckets = ap (λ (r : Root). r.buckets) has.root in
    let low : number % now.root.buckets < now.root.buckets = mod-lt number (omega (arith, c.requires.ready.some, own)) in
    c.loop-bucket.invariant.spelled rest now has number bytes there (omega (arith, low, c.loop-bucket-test.false, count))
