-- Maps in the buckets of a store, and stores with one thing changed.
use Rattle.std.proofs.Common.{◌≡◌, ◌≢◌, inl, inr, ℕ, ◌%◌, ◌<◌, Bool, cond, List, Option, Some, None, refl, sym, ap, ◌∙◌, arith, eq-eqb}
use Rattle.std.proofs.lemmas.Bool.{ne_eqb}
use Rattle.std.specs.Ordering.{is_eq}
use Rattle.std.specs.declared.cmp.Ordering.{Ordering}
use Rattle.std.specs.Cmp.{nat_cmp_total}
use Rattle.std.specs.FinMap as map
use Rattle.chain_store.proofs.Times.{same_or}
use Rattle.bucket_records.specs.Records.{BucketMap}
use Rattle.bucket_records.proofs.MapLaws.{equal_of, apart_of}
use Rattle.bucket_store.specs.Image.{Image, IsPart, bucket_chain, with_entry, with_value, with_text, with_root}
use Rattle.chain_store.specs.declared.root.Root.{Root}

-- what a map with a change has for its key
pub entry_here : (key : ℕ) (change : Option (List ℕ)) (values : BucketMap) (q : ℕ) → q ≡ key
    → map.get (with_entry key change values) q ≡ change
entry_here key None values q same =
    map.get-remove nat_cmp_total values key q ∙ ap (λ (r : Ordering). cond (is_eq r) None (map.get values q)) (equal_of q key same)
entry_here key (Some value) values q same =
    map.get-insert nat_cmp_total values key value q
    ∙ ap (λ (r : Ordering). cond (is_eq r) (Some value) (map.get values q)) (equal_of q key same)

-- and for others
pub entry_beside : (key : ℕ) (change : Option (List ℕ)) (values : BucketMap) (q : ℕ) → q ≢ key
    → map.get (with_entry key change values) q ≡ map.get values q
entry_beside key None values q apart =
    map.get-remove nat_cmp_total values key q ∙ ap (λ (b : Bool). cond b None (map.get values q)) (apart_of q key apart)
entry_beside key (Some value) values q apart =
    map.get-insert nat_cmp_total values key value q ∙ ap (λ (b : Bool). cond b (Some value) (map.get values q)) (apart_of q key apart)

-- a key of the bucket has there what it has in the map
pub part_gives : (buckets bucket : ℕ) (whole own : BucketMap) (key : ℕ) → IsPart buckets bucket whole own → key % buckets ≡ bucket
    → map.get own key ≡ map.get whole key
part_gives buckets bucket whole own key part here =
    part.each key ∙ ap (λ (b : Bool). cond b (map.get whole key) None) (eq-eqb (key % buckets) bucket here)

pub part_none : (buckets bucket : ℕ) (whole own : BucketMap) (key : ℕ) → IsPart buckets bucket whole own → key % buckets ≢ bucket
    → map.get own key ≡ None
part_none buckets bucket whole own key part apart =
    part.each key ∙ ap (λ (b : Bool). cond b (map.get whole key) None) (ne_eqb (key % buckets) bucket apart)

-- a bucket whose keys are its own is told by what it has for them
pub part_of : (buckets bucket : ℕ) (whole own : BucketMap) → ((key : ℕ) → key % buckets ≡ bucket → map.get own key ≡ map.get whole key)
    → ((key : ℕ) → key % buckets ≢ bucket → map.get own key ≡ None) → IsPart buckets bucket whole own
part_of buckets bucket whole own here apart = record {
  each = λ key. elim (same_or (key % buckets) bucket) [
    | inl same ↦ here key same ∙ sym (ap (λ (b : Bool). cond b (map.get whole key) None) (eq-eqb (key % buckets) bucket same))
    | inr other ↦ apart key other ∙ sym (ap (λ (b : Bool). cond b (map.get whole key) None) (ne_eqb (key % buckets) bucket other))
  ];
}

-- a change of a key changes its bucket
pub part_changed : (buckets bucket : ℕ) (whole own : BucketMap) (key : ℕ) (change : Option (List ℕ)) → IsPart buckets bucket whole own
    → key % buckets ≡ bucket → IsPart buckets bucket (with_entry key change whole) (with_entry key change own)
part_changed buckets bucket whole own key change part mine =
    part_of buckets bucket (with_entry key change whole) (with_entry key change own) (λ q here. elim (same_or q key) [
      | inl same ↦ entry_here key change own q same ∙ sym (entry_here key change whole q same)
      | inr apart ↦
          entry_beside key change own q apart ∙ part_gives buckets bucket whole own q part here
          ∙ sym (entry_beside key change whole q apart)
    ]) (λ q other. elim (same_or q key) [
      | inl same ↦ absurd (other (ap (λ (k : ℕ). k % buckets) same ∙ mine))
      | inr apart ↦ entry_beside key change own q apart ∙ part_none buckets bucket whole own q part other
    ])

-- and no other bucket
pub part_stays : (buckets bucket : ℕ) (whole own : BucketMap) (key : ℕ) (change : Option (List ℕ)) → IsPart buckets bucket whole own
    → key % buckets ≢ bucket → IsPart buckets bucket (with_entry key change whole) own
part_stays buckets bucket whole own key change part other =
    part_of buckets bucket (with_entry key change whole) own (λ q here. elim (same_or q key) [
      | inl same ↦ absurd (other (sym (ap (λ (k : ℕ). k % buckets) same) ∙ here))
      | inr apart ↦ part_gives buckets bucket whole own q part here ∙ sym (entry_beside key change whole q apart)
    ]) (λ q apart. part_none buckets bucket whole own q part apart)

-- the maps of a store with a change
pub maps_here : (m key : ℕ) (change : Option (List ℕ)) (image : Image) (k : ℕ) → k ≡ m
    → (with_value m key change image).maps k ≡ with_entry key change (image.maps k)
unfolding with_value
maps_here m key change image k same =
    ap (λ (b : Bool). cond b (with_entry key change (image.maps k)) (image.maps k)) (eq-eqb k m same)

pub maps_beside : (m key : ℕ) (change : Option (List ℕ)) (image : Image) (k : ℕ) → k ≢ m
    → (with_value m key change image).maps k ≡ image.maps k
unfolding with_value
maps_beside m key change image k apart =
    ap (λ (b : Bool). cond b (with_entry key change (image.maps k)) (image.maps k)) (ne_eqb k m apart)

pub root_with_value : (m key : ℕ) (change : Option (List ℕ)) (image : Image) → (with_value m key change image).root ≡ image.root
unfolding with_value
root_with_value m key change image = refl

pub texts_with_value : (m key : ℕ) (change : Option (List ℕ)) (image : Image) (n : ℕ)
    → (with_value m key change image).texts n ≡ image.texts n
unfolding with_value
texts_with_value m key change image n = refl

-- its texts, and those of a store with a text
pub texts_here : (n : ℕ) (bytes : List ℕ) (image : Image) (k : ℕ) → k ≡ n → (with_text n bytes image).texts k ≡ bytes
unfolding with_text
texts_here n bytes image k same = ap (λ (b : Bool). cond b bytes (image.texts k)) (eq-eqb k n same)

pub texts_beside : (n : ℕ) (bytes : List ℕ) (image : Image) (k : ℕ) → k ≢ n → (with_text n bytes image).texts k ≡ image.texts k
unfolding with_text
texts_beside n bytes image k apart = ap (λ (b : Bool). cond b bytes (image.texts k)) (ne_eqb k n apart)

pub root_with_text : (n : ℕ) (bytes : List ℕ) (image : Image) → (with_text n bytes image).root ≡ image.root
unfolding with_text
root_with_text n bytes image = refl

pub maps_with_text : (n : ℕ) (bytes : List ℕ) (image : Image) (m : ℕ) → (with_text n bytes image).maps m ≡ image.maps m
unfolding with_text
maps_with_text n bytes image m = refl

pub root_with_root : (root : Root) (image : Image) → (with_root root image).root ≡ root
unfolding with_root
root_with_root root image = refl

pub texts_with_root : (root : Root) (image : Image) (n : ℕ) → (with_root root image).texts n ≡ image.texts n
unfolding with_root
texts_with_root root image n = refl

pub maps_with_root : (root : Root) (image : Image) (m : ℕ) → (with_root root image).maps m ≡ image.maps m
unfolding with_root
maps_with_root root image m = refl

-- two buckets of one number are one
pub same_chain : (m k bucket other : ℕ) → bucket < 65536 → other < 65536 → bucket_chain m bucket ≡ bucket_chain k other → m ≡ k
same_chain m k bucket other low below same = omega (arith, low, below, same)

pub same_bucket : (m k bucket other : ℕ) → bucket < 65536 → other < 65536 → bucket_chain m bucket ≡ bucket_chain k other → bucket ≡ other
same_bucket m k bucket other low below same = omega (arith, low, below, same)
