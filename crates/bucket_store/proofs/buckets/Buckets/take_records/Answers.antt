-- The records of a bucket are put to the others.
use Rattle.std.proofs.Common.{ℕ, List, ap, ◌∙◌}
use Rattle.bucket_store.specs.Whole.{with_records}
use Rattle.bucket_store.proofs.Caches.{on_ok}
use Rattle.bucket_store.proofs.buckets.Buckets.take_records.Goals as goal

pub returns : goal.returns
returns g c = record {
  added = on_ok c.add_records.result _ _ c.add_records.ensures.added (λ is own here.
      is ∙ ap (λ (l : List (ℕ × List ℕ)). with_records l c.args.whole.now) (c.in_ok-records.ensures.records own here));
}
