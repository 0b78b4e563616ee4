-- Buckets and the numbers of their chains.
use Rattle.std.proofs.Common.{◌≡◌, ℕ, ◌+◌, ◌-◌, ◌*◌, ◌/◌, ◌%◌, ◌<◌, cond, List, [], ◌∷◌, Option, Some, refl, sym, ap, subst, ◌∙◌, arith}
use Rattle.std.proofs.Common.{inl, inr}
use Rattle.std.proofs.lemmas.Bool.{cases_order}
use Rattle.std.specs.Option.{IsSome}
use Rattle.std.specs.Ordering.{nat_cmp, is_eq}
use Rattle.std.specs.declared.cmp.Ordering.{Ordering}
use Rattle.std.specs.FinMap as map
use Rattle.std.specs.FinMap.{find}
use Rattle.chain_store.specs.Directories.{IsString}
use Rattle.bucket_records.specs.Records.{BucketMap, AreRecords, AreOf, IsBucket}
use Rattle.bucket_store.specs.Buckets.{HasKeysOf, IsBucketChain, bucket_in}
use Rattle.bucket_records.proofs.MapLaws.{less_of, equal_of, greater_of}

-- the chain of a bucket is a string of the store
pub bucket_string : (buckets n : ℕ) → IsBucketChain buckets n → IsString buckets n
bucket_string buckets n is =
    let m = (n - 16) / 65536 in
    let small : m < 8 = omega (arith, is.1) in
    let whole : n ≡ 16 + 65536 * m + bucket_in n = omega (arith, is.0) in
    inr (m, bucket_in n, small, is.2, whole)

-- the keys of records of a bucket
find_of : (buckets bucket key : ℕ) (records : List (ℕ × List ℕ)) → AreOf buckets bucket records → IsSome (find nat_cmp key records)
    → key % buckets ≡ bucket
unfolding AreOf
find_of buckets bucket key [] of there = absurd (cc)
find_of buckets bucket key (one ∷ records) of there = elim (cases_order key one.0) [
  | inl same ↦ ap (λ (k : ℕ). k % buckets) same ∙ of.0
  | inr (inl low) ↦
      find_of buckets bucket key records of.1
      (subst (λ (r : Ordering). IsSome (cond (is_eq r) (Some one.1) (find nat_cmp key records))) (less_of key one.0 low) there)
  | inr (inr high) ↦
      find_of buckets bucket key records of.1
      (subst (λ (r : Ordering). IsSome (cond (is_eq r) (Some one.1) (find nat_cmp key records))) (greater_of key one.0 high) there)
]

pub keys_of_bucket : (buckets bucket : ℕ) (bytes : List ℕ) (values : BucketMap) → IsBucket buckets bucket bytes (map.entries values)
    → HasKeysOf buckets bucket values
keys_of_bucket buckets bucket bytes values is key there =
    let P : Option (List ℕ) → Type 0 = λ o. IsSome o in
    find_of buckets bucket key (map.entries values) is.own (subst P (map.get-entries values key) there)

is_there : (o : Option (List ℕ)) (value : List ℕ) → o ≡ Some value → IsSome o
is_there o value is = cc

-- and back: records whose keys are of the bucket
pub of_keys : (least buckets bucket : ℕ) (records : List (ℕ × List ℕ)) → AreRecords least records
    → ((key : ℕ) → IsSome (find nat_cmp key records) → key % buckets ≡ bucket) → AreOf buckets bucket records
unfolding AreOf AreRecords
of_keys least buckets bucket [] are keys = tt
of_keys least buckets bucket (one ∷ records) are keys = (
  keys one.0 (let own = ap (λ (r : Ordering). cond (is_eq r) (Some one.1) (find nat_cmp one.0 records)) (equal_of one.0 one.0 refl) in
      is_there (cond (is_eq (nat_cmp one.0 one.0)) (Some one.1) (find nat_cmp one.0 records)) one.1 own),
  of_keys (one.0 + 1) buckets bucket records are.2 (λ key there. keys key (elim (cases_order key one.0) [
    | inl same ↦
        let own = ap (λ (r : Ordering). cond (is_eq r) (Some one.1) (find nat_cmp key records)) (equal_of key one.0 same) in
        is_there (cond (is_eq (nat_cmp key one.0)) (Some one.1) (find nat_cmp key records)) one.1 own
    | inr (inl low) ↦
        subst (λ (r : Ordering). IsSome (cond (is_eq r) (Some one.1) (find nat_cmp key records))) (sym (less_of key one.0 low)) there
    | inr (inr high) ↦
        subst (λ (r : Ordering). IsSome (cond (is_eq r) (Some one.1) (find nat_cmp key records))) (sym (greater_of key one.0 high)) there
  ])),
)

pub keys_given : (count buckets place bucket : ℕ) (read bytes : List ℕ) (values : BucketMap) → count ≡ buckets → place ≡ bucket
    → read ≡ bytes
    → IsBucket count place read (map.entries values) → IsBucket buckets bucket bytes (map.entries values)
keys_given count buckets place bucket read bytes values many here same is =
    let first = subst (λ (n : ℕ). IsBucket n place read (map.entries values)) many is in
    let second = subst (λ (n : ℕ). IsBucket buckets n read (map.entries values)) here first in
    subst (λ (l : List ℕ). IsBucket buckets bucket l (map.entries values)) same second

pub chain_given : (before buckets n : ℕ) → before ≡ buckets → IsBucketChain before n → IsBucketChain buckets n
chain_given before buckets n same is = subst (λ (k : ℕ). IsBucketChain k n) same is
