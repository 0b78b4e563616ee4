-- A bucket more has nothing, and all buckets are the map.
use Rattle.std.proofs.Common.{◌≡◌, ◌⊎◌, ◌<◌, ◌+◌, ◌%◌, ◌∙◌, inl, inr, ℕ, sym, ap, subst, arith, mod-lt}
use Rattle.chain_store.specs.declared.root.Root.{Root}
use Rattle.bucket_store.specs.Buckets.{bucket_count}
use Rattle.bucket_store.specs.Transaction.{chains_of}
use Rattle.row_store.proofs.ClearLaws.{err_then, out_done, took_more, took_none, took_then}
use Rattle.row_store.proofs.LoadLaws.{bucket_split}
use Rattle.value_bytes.specs.StoreMap.{map_number}
use Rattle.row_store.proofs.clearing.clear_map.Goals as goal

pub loop-bucket-init : goal.loop-bucket-init
loop-bucket-init g c =
    took_more (map_number c.args.map) (λ key. ⊥) (λ key. key % c.root-count.result.buckets < 0) c.args.buckets.now c.args.buckets.now
    (took_none (map_number c.args.map) c.args.buckets.now c.requires.ready.going) (λ key low. absurd (omega (arith, low)))

pub returns-in-Err : goal.returns-in-Err
returns-in-Err g c =
    let mid = c.loop-bucket.buckets in
    record {
      out = err_then (map_number c.args.map) (λ key. key % c.root-count.result.buckets < c.loop-bucket.bucket)
          (λ key. key % bucket_count (chains_of mid) ≡ c.loop-bucket.bucket % bucket_count (chains_of mid)) (λ key. Unit {0})
          c.args.buckets.now mid c.clear_bucket.new.buckets c.in-Err.fault c.loop-bucket.invariant c.in-Err.ensures.out;
    }

pub loop-bucket-preserved : goal.loop-bucket-preserved
loop-bucket-preserved g c =
    let mid = c.loop-bucket.buckets in
    let bucket = c.loop-bucket.bucket in
    let count = c.root-count.result.buckets in
    let own : bucket_count (chains_of mid) ≡ count =
    ap (λ (r : Root). r.buckets) (c.loop-bucket.invariant.stays.root ∙ sym c.root-count.ensures) in
    let split : (key : ℕ) → key % count < bucket + 1
    → (key % count < bucket) ⊎ (key % bucket_count (chains_of mid) ≡ bucket % bucket_count (chains_of mid)) = λ key low.
    elim (bucket_split key bucket count c.loop-bucket-test.true low) [
      | inl less ↦ inl less
      | inr same ↦ inr (subst (λ (n : ℕ). key % n ≡ bucket % n) (sym own) same)
    ] in
    took_then (map_number c.args.map) (λ key. key % count < bucket)
    (λ key. key % bucket_count (chains_of mid) ≡ bucket % bucket_count (chains_of mid)) (λ key. key % count < bucket + 1)
    c.args.buckets.now mid c.clear_bucket.new.buckets c.loop-bucket.invariant c.in_default.ensures.out.took split

pub returns : goal.returns
returns g c =
    let count = c.root-count.result.buckets in
    let bucket = c.loop-bucket.bucket in
    let own : bucket_count (chains_of c.args.buckets.now) ≡ count = ap (λ (r : Root). r.buckets) (sym c.root-count.ensures) in
    record {
      out = out_done (map_number c.args.map) (λ key. Unit {0}) c.args.buckets.now c.loop-bucket.buckets
          (took_more (map_number c.args.map) (λ key. key % count < bucket) (λ key. Unit {0}) c.args.buckets.now c.loop-bucket.buckets
          c.loop-bucket.invariant (λ key any.
          let low : key % count < count = mod-lt key (omega (arith, c.requires.ready.some, own)) in
          omega (arith, low, c.loop-bucket-test.false)));
    }
