-- A record more is put.
use Rattle.std.proofs.Common.{ℕ, List, sym, ap, ◌∙◌}
use Rattle.bucket_records.specs.Records.{BucketMap}
use Rattle.bucket_store.specs.Whole.{with_records}
use Rattle.bucket_store.proofs.Wholes.{with_records-push}
use Rattle.bucket_store.proofs.buckets.gathering.add_records.Goals as goal

pub loop-key-preserved : goal.loop-key-preserved
loop-key-preserved c =
    let front = c.pop.new.self.items in
    ap (λ (m : BucketMap). with_records front m) c.in_ok-put.ensures.put
    ∙ sym (with_records-push front (c.in-Some.key, c.in-Some.value) c.loop-key.whole)
    ∙ ap (λ (l : List (ℕ × List ℕ)). with_records l c.loop-key.whole) (sym c.in-Some.ensures.items)
    ∙ c.loop-key.invariant
