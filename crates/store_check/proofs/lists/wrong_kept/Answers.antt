-- A bucket more is judged, and all buckets are the map.
use Rattle.std.proofs.Common.{◌≡◌, ◌<◌, ◌+◌, ◌%◌, ◌∙◌, ℕ, Option, inl, inr, ap, sym, subst, arith, mod-lt}
use Rattle.std.specs.Option.{IsSome}
use Rattle.std.specs.FinMap as finite
use Rattle.chain_store.specs.declared.root.Root.{Root}
use Rattle.bucket_store.specs.Buckets.{bucket_count}
use Rattle.bucket_store.specs.Transaction.{chains_of}
use Rattle.value_bytes.specs.StoreMap.{map_number}
use Rattle.row_store.proofs.LoadLaws.{bucket_split}
use Rattle.back_index.specs.Filling.{IsKeptAt, mentions_tell}
use Rattle.store_check.specs.Wrong.{IsLeastOf}
use Rattle.store_check.proofs.LeastLaws.{least_fewer}
use Rattle.store_check.proofs.LeastOfTwo.{least_both}
use Rattle.store_check.proofs.FindsLaws.{found_all, saw_then, then_refuses}
use Rattle.store_check.proofs.lists.wrong_kept.Goals as goal

pub returns-in-Err : goal.returns-in-Err
returns-in-Err g c =
    let read = c.loop-bucket.invariant in
    record { least = then_refuses read.saw c.in-Err.ensures.least }

pub loop-bucket-preserved : goal.loop-bucket-preserved
loop-bucket-preserved g c =
    let before = c.loop-bucket.invariant in
    let done = c.in-Ok.ensures.least in
    let bucket : ℕ = c.loop-bucket.bucket in
    record {
      saw = saw_then before.saw done;
      least = λ rest had.
          let count : c.bucket_count-count.result ≡ rest.root.buckets = c.bucket_count-count.ensures ∙ ap (λ (r : Root). r.buckets) had.root in
          let kept = rest.maps (map_number c.args.map) in
          let Is = IsKeptAt (mentions_tell c.args.mentions.now.all.now) kept in
          subst (λ (l : Option ℕ). IsLeastOf (λ n. IsSome (finite.get kept n) × (n % rest.root.buckets < bucket + 1)) Is l)
          (sym c.lesser_of-found.ensures.lesser)
          (least_both Is (λ n. IsSome (finite.get kept n) × (n % rest.root.buckets < bucket))
          (λ n. IsSome (finite.get kept n) × (n % rest.root.buckets ≡ bucket % rest.root.buckets))
          (λ n. IsSome (finite.get kept n) × (n % rest.root.buckets < bucket + 1))
          (λ n part. elim (bucket_split n bucket rest.root.buckets (omega (arith, c.loop-bucket-test.true, count)) part.1) [
            | inl less ↦ inl (part.0, less)
            | inr same ↦ inr (part.0, same)
          ]) c.loop-bucket.found c.in-Ok.own (before.least rest had) (done.so rest (before.saw.has rest had)));
    }

pub returns : goal.returns
returns g c =
    let read = c.loop-bucket.invariant in
    record {
      least = found_all read.saw (λ rest has.
          let count : c.bucket_count-count.result ≡ rest.root.buckets = c.bucket_count-count.ensures ∙ ap (λ (r : Root). r.buckets) has.root in
          let own : bucket_count (chains_of c.args.reading.now.buckets.now) ≡ rest.root.buckets = ap (λ (r : Root). r.buckets) has.root in
          let kept = rest.maps (map_number c.args.map) in
          least_fewer (IsKeptAt (mentions_tell c.args.mentions.now.all.now) kept) (λ n. IsSome (finite.get kept n))
          (λ n. IsSome (finite.get kept n) × (n % rest.root.buckets < c.loop-bucket.bucket)) c.loop-bucket.found
          (λ n some.
          let low : n % rest.root.buckets < rest.root.buckets = mod-lt n (omega (arith, c.args.reading.now.unchanged.ready.some, own)) in
          (some, omega (arith, low, c.loop-bucket-test.false, count)))
          (c.loop-bucket.invariant.least rest has));
    }
