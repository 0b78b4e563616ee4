-- The records of a bucket are those of its map.
use Rattle.std.proofs.Common.{◌≡◌, ◌%◌, ℕ, List, Some, sym, subst}
use Rattle.std.specs.FinMap as finite
use Rattle.std.specs.List.{AllByRecursion}
use Rattle.std.specs.Option.{IsSome}
use Rattle.value_bytes.specs.StoreMap.{map_number}
use Rattle.row_store.specs.Loading.{Among}
use Rattle.back_index.specs.Filling.{IsKeptAt, mentions_tell}
use Rattle.store_check.specs.Wrong.{IsLeastOf}
use Rattle.store_check.proofs.FindsLaws.{finds_err, finds_ok, lacks_memory, saw_it}
use Rattle.store_check.proofs.LeastLaws.{least_fewer}
use Rattle.store_check.proofs.ListsLaws.{kept_among, records_kept}
use Rattle.store_check.proofs.lists.wrong_in_bucket.Goals as goal

pub returns-in-Err : goal.returns-in-Err
returns-in-Err g c = record { least = finds_err c.in-Err.ensures.found }

pub returns : goal.returns
returns g c = record { least = lacks_memory (saw_it c.in-Ok.ensures.found) }

pub returns-in-Ok-wrong_among : goal.returns-in-Ok-wrong_among
returns-in-Ok-wrong_among g c = record {
  least = finds_ok c.in-Ok.ensures.found (λ rest has are.
      let which : ℕ = map_number c.args.map in
      let kept = rest.maps which in
      let records : List (ℕ × List ℕ) = c.in-Ok.records.items in
      let bucket : ℕ = c.args.bucket % rest.root.buckets in
      let same : c.as_slice.result.now ≡ records = cc (c.as_slice.ensures.value) in
      let Is = IsKeptAt (mentions_tell c.args.mentions.now.all.now) kept in
      let each = records_kept which rest bucket records are in
      let least = c.in-Ok-wrong_among.ensures.least kept
      (subst (λ (l : List (ℕ × List ℕ)). AllByRecursion (λ one. finite.get kept one.0 ≡ Some one.1) l) (sym same) each) in
      least_fewer Is (λ n. IsSome (finite.get kept n) × (n % rest.root.buckets ≡ bucket)) (Among records) c.in-Ok-wrong_among.found
      (λ n part. kept_among which rest bucket records are n part)
      (subst (λ (l : List (ℕ × List ℕ)). IsLeastOf (Among l) Is c.in-Ok-wrong_among.found) same least));
}
