-- The buckets of a store, one after another.
use Rattle.std.proofs.Common.{◌≡◌, ◌⊎◌, inl, inr, ◌<◌, ◌+◌, ◌%◌, ℕ, true, false, List, [], Some, None, refl}
use Rattle.std.proofs.Common.{sym, subst, ◌∙◌}
use Rattle.std.specs.Prelude.{◌==◌, if◌then◌else◌, IsSome}
use Rattle.std.specs.FinMap as finite
use Rattle.std.specs.List.{AllByRecursion}
use Rattle.value_bytes.specs.StoreMap.{map_number}
use Rattle.value_bytes.specs.declared.store_map.StoreMap.{StoreMap}
use Rattle.value_bytes.specs.declared.store_map.StoreMap.TheVariants as stored
use Rattle.bucket_store.specs.Image.{Image, IsBucketOf}
use Rattle.row_store.specs.Loading.{Among}
use Rattle.row_store.proofs.LoadLaws.{all_among, bucket_split}
use Rattle.store_check.specs.Judged.{IsBefore, IsOfBoth, IsOfBucket, IsOfBuckets}
use Rattle.store_check.proofs.Exist.{all_found}

-- the records of a bucket are those of its map
nothing : (bytes : List ℕ) → None ≡ Some bytes → ⊥
nothing bytes e = cc

module _ (image : Image) (which bucket : ℕ) (records : List (ℕ × List ℕ)) (are : IsBucketOf image which bucket records) where
  in_map : (n : ℕ) (bytes : List ℕ) → finite.get are.own n ≡ Some bytes → finite.get (image.maps which) n ≡ Some bytes
  in_map n bytes there =
      elim (n % image.root.buckets == bucket) as (λ b. finite.get are.own n ≡ (if b then finite.get (image.maps which) n else None)
      → finite.get (image.maps which) n ≡ Some bytes) [
        | true ↦ λ is. sym is ∙ there
        | false ↦ λ is. absurd (nothing bytes (sym is ∙ there))
      ] (are.part.each n)

  pub records_in : AllByRecursion (λ one. finite.get (image.maps which) one.0 ≡ Some one.1) records
  records_in =
      let Is = λ (one : ℕ × List ℕ). finite.get (image.maps which) one.0 ≡ Some one.1 in
      subst (λ (l : List (ℕ × List ℕ)). AllByRecursion Is l) (sym are.are)
      (all_found Is (finite.entries are.own) (finite.entries_sorted are.own)
      (λ key bytes found. in_map key bytes (finite.get-entries are.own key ∙ found)))

-- the keys of a bucket are among its records
pub bucket_among : (own : StoreMap) (image : Image) (bucket : ℕ) (records : List (ℕ × List ℕ))
    → IsBucketOf image (map_number own) (bucket % image.root.buckets) records → (source : StoreMap) (number : ℕ)
    → IsOfBucket own image bucket source number → (own ≡ source) × Among records number
bucket_among own image bucket records are source number part = (
  part.0,
  all_among [] None (map_number own) (λ spot. None) image (bucket % image.root.buckets) records are number
      (subst (λ (map : StoreMap). IsSome (finite.get (image.maps (map_number map)) number)) (sym part.0) part.1) part.2,
)

-- a bucket of each map is a bucket of one of them
pub node_split : (image : Image) (bucket : ℕ) (source : StoreMap) (number : ℕ) → IsOfBuckets stored.NodeRows image bucket source number
    → IsOfBucket stored.Nodes image bucket source number ⊎ IsOfBucket stored.NodeRows image bucket source number
node_split image bucket stored.Nodes number part = inl (refl, part.1, part.2)
node_split image bucket stored.NodeRows number part = inr (refl, part.1, part.2)
node_split image bucket stored.Ways number part = absurd part.0
node_split image bucket stored.Relations number part = absurd part.0
node_split image bucket stored.WaysOfBlocks number part = absurd part.0
node_split image bucket stored.RelationsOfNodes number part = absurd part.0
node_split image bucket stored.RelationsOfWays number part = absurd part.0
node_split image bucket stored.OtherRows number part = absurd part.0

pub other_split : (image : Image) (bucket : ℕ) (source : StoreMap) (number : ℕ) → IsOfBuckets stored.OtherRows image bucket source number
    → IsOfBoth image bucket source number ⊎ IsOfBucket stored.OtherRows image bucket source number
other_split image bucket stored.Nodes number part = absurd part.0
other_split image bucket stored.NodeRows number part = absurd part.0
other_split image bucket stored.Ways number part = inl (inl (refl, part.1, part.2))
other_split image bucket stored.Relations number part = inl (inr (refl, part.1, part.2))
other_split image bucket stored.WaysOfBlocks number part = absurd part.0
other_split image bucket stored.RelationsOfNodes number part = absurd part.0
other_split image bucket stored.RelationsOfWays number part = absurd part.0
other_split image bucket stored.OtherRows number part = inr (refl, part.1, part.2)

-- a bucket more
pub before_split : (map : StoreMap) (image : Image) (bucket : ℕ) → bucket < image.root.buckets → (source : StoreMap) (number : ℕ)
    → IsBefore map image (bucket + 1) source number → IsBefore map image bucket source number ⊎ IsOfBuckets map image bucket source number
before_split map image bucket within source number part =
    elim (bucket_split number bucket image.root.buckets within part.2) [
      | inl less ↦ inl (part.0, part.1, less)
      | inr same ↦ inr (part.0, part.1, same)
    ]
