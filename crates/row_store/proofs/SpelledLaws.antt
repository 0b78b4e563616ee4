-- Records that are each of one kind.
use Rattle.std.proofs.Common.{◌≡◌, ◌<◌, ◌≤◌, ◌+◌, ◌%◌, ◌∙◌, zero, suc, ℕ, Bool, cond, List, [], ◌∷◌, length, take, get_or}
use Rattle.std.proofs.Common.{Some, None, sym, ap, subst, arith, inl, inr}
use Rattle.std.specs.Prelude.{◌++◌}
use Rattle.std.specs.List.{AllByRecursion}
use Rattle.std.specs.Cmp.{Equal-is}
use Rattle.std.specs.Ordering.{is_eq, nat_cmp}
use Rattle.std.specs.FinMap.Entries.{find}
use Rattle.std.specs.FinMap as map
use Rattle.std.specs.FinMap.{nat_cmp-IsAntisymmetric}
use Rattle.std.proofs.lemmas.List.{take_more}
use Rattle.bucket_records.specs.Places.{key_of, value_of}
use Rattle.bucket_store.specs.Image.{Image, IsBucketOf}
use Rattle.bucket_store.proofs.Images.{part_gives}
use Rattle.row_store.proofs.LoadLaws.{decide}

abbrev Record : Type 0
Record = ℕ × List ℕ

all_last : (Is : Record → Type 0) (front : List Record) (one : Record) → AllByRecursion Is front → Is one
    → AllByRecursion Is (front ++ one ∷ [])
all_last Is [] one each is = (is, tt)
all_last Is (first ∷ front) one each is = (each.0, all_last Is front one each.1 is)

-- a record more
pub all_more : (Is : Record → Type 0) (records : List Record) (place : ℕ) (one : Record) → place < length records
    → one ≡ get_or records place one
    → AllByRecursion Is (take place records) → Is one → AllByRecursion Is (take (place + 1) records)
all_more Is records place one within is each own =
    subst (λ (l : List Record). AllByRecursion Is l) (sym (take_more records place one within))
    (all_last Is (take place records) (get_or records place one) each (subst Is is own))

-- those up to the end are all
pub all_all : (Is : Record → Type 0) (records : List Record) (place : ℕ) → length records ≤ place
    → AllByRecursion Is (take place records) → AllByRecursion Is records
all_all Is [] place past each = tt
all_all Is (first ∷ records) zero past each = absurd (omega (arith, past))
all_all Is (first ∷ records) (suc place) past each = (each.0, all_all Is records place (omega (arith, past)) each.1)

same_some : (one other : List ℕ) → Some one ≡ Some other → one ≡ other
same_some one other e = cc

nothing : (bytes : List ℕ) → None ≡ Some bytes → ⊥
nothing bytes e = cc

-- what is found among records is one of them
found_is : (Is : Record → Type 0) (es : List Record) (n : ℕ) (bytes : List ℕ) → find nat_cmp n es ≡ Some bytes → AllByRecursion Is es
    → Is (n, bytes)
found_is Is [] n bytes same each = absurd (nothing bytes same)
found_is Is (e ∷ es) n bytes same each = elim (decide (is_eq (nat_cmp n e.0))) [
  | inl mine ↦
      let key : e.0 ≡ n = sym (nat_cmp-IsAntisymmetric n e.0 ((Equal-is (nat_cmp n e.0)).0 mine)) in
      let value : e.1 ≡ bytes =
      same_some e.1 bytes (sym (ap (λ (b : Bool). cond b (Some e.1) (find nat_cmp n es)) mine) ∙ same) in
      subst (λ (r : Record). Is r) (λ i. (key i, value i)) each.0
  | inr other ↦ found_is Is es n bytes (sym (ap (λ (b : Bool). cond b (Some e.1) (find nat_cmp n es)) other) ∙ same) each.1
]

-- what a map has under a number of a bucket is of the kind of the bucket's records
pub bucket_is : (Is : Record → Type 0) (which : ℕ) (now : Image) (bucket : ℕ) (records : List Record) → IsBucketOf now which bucket records
    → AllByRecursion Is records → (n : ℕ) (bytes : List ℕ) → map.get (now.maps which) n ≡ Some bytes → n % now.root.buckets ≡ bucket
    → Is (n, bytes)
bucket_is Is which now bucket records are each n bytes there mine =
    found_is Is (map.entries are.own) n bytes
    (sym (map.get-entries are.own n) ∙ part_gives now.root.buckets bucket (now.maps which) are.own n are.part mine ∙ there)
    (subst (λ (l : List Record). AllByRecursion Is l) are.are each)

-- a record of these parts is the one that stands there
pub one_at : (records : List Record) (place : ℕ) (one : Record) → place < length records → one.0 ≡ key_of records place
    → one.1 ≡ value_of records place → one ≡ get_or records place one
one_at [] place one within key value = absurd (omega (arith, within))
one_at (first ∷ records) zero one within key value = λ i. (key i, value i)
one_at (first ∷ records) (suc place) one within key value = one_at records place one (omega (arith, within)) key value
