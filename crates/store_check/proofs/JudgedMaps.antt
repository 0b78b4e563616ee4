-- Maps 0 to 2, a bucket at a time and map by map.
use Rattle.std.proofs.Common.{◌≡◌, ◌⊎◌, inl, inr, ◌<◌, ◌≤◌, ◌%◌, ℕ, Bool, true, false, cond, List, [], ◌∷◌, Option, Some, None, refl}
use Rattle.std.proofs.Common.{sym, subst, ◌∙◌, arith, mod-lt}
use Rattle.std.specs.Prelude.{nat_lt, ◌==◌, if◌then◌else◌}
use Rattle.std.specs.FinMap as finite
use Rattle.std.specs.FinMap.{find}
use Rattle.std.specs.List.{AllByRecursion}
use Rattle.std.specs.Ordering.{eq_by_cmp, nat_cmp}
use Rattle.std.proofs.lemmas.Bool.Decides.{nat_tests}
use Rattle.osm_base.specs.declared.values.key.Kind.{Kind}
use Rattle.osm_base.specs.declared.values.key.Kind.TheVariants as kinds
use Rattle.osm_base.specs.declared.values.object.Object.{Object}
use Rattle.value_bytes.specs.Maps.{ReadAs}
use Rattle.value_bytes.specs.Objects.{object_bytes, IsStored}
use Rattle.value_bytes.specs.StoreMap.{map_number}
use Rattle.value_bytes.specs.declared.store_map.StoreMap.TheVariants as stored
use Rattle.bucket_store.specs.Image.{Image, IsBucketOf}
use Rattle.bucket_store.proofs.Images.{part_gives}
use Rattle.row_store.specs.Loading.{Among}
use Rattle.store_check.specs.declared.wrong.Wrong.{Wrong}
use Rattle.store_check.specs.Held.{HeldOf}
use Rattle.store_check.specs.Judging.{IsAbsentAt, IsFirstOf, IsHeldAt, IsHeldFor, IsPartOf, IsRightAt, IsRightOf}
use Rattle.store_check.specs.Judging.{Judges, Takes, bytes_in, map_for}
use Rattle.store_check.specs.Wrong.{IsLeastOf, IsWrongIn}
use Rattle.store_check.proofs.Exist.{all_found, same}

pub is_below : (n k : ℕ) → nat_lt n k ≡ true → n < k
is_below n k is = grind (arith, nat_tests)

pub below_is : (n k : ℕ) → n < k → nat_lt n k ≡ true
below_is n k low = grind (arith, nat_tests)

-- behind the last bucket all keys were met
pub all_below : (key buckets bucket : ℕ) → 1 ≤ buckets → buckets ≤ bucket → key % buckets < bucket
all_below key buckets bucket some past = let low : key % buckets < buckets = mod-lt key (omega (arith, some)) in omega (arith, low, past)

nothing : (bytes : List ℕ) → None ≡ Some bytes → ⊥
nothing bytes e = cc

found_among : (es : List (ℕ × List ℕ)) (n : ℕ) (bytes : List ℕ) → find nat_cmp n es ≡ Some bytes → Among es n
found_among [] n bytes found = absurd (nothing bytes found)
found_among (e ∷ es) n bytes found =
    elim (eq_by_cmp nat_cmp n e.0) as (λ b. eq_by_cmp nat_cmp n e.0 ≡ b → cond b (Some e.1) (find nat_cmp n es) ≡ Some bytes
    → (e.0 ≡ n) ⊎ Among es n) [
      | true ↦ λ tied here. inl (sym (same n e.0 tied))
      | false ↦ λ apart later. inr (found_among es n bytes later)
    ] refl found

-- the records of a bucket are those of its map
module _ (image : Image) (which bucket : ℕ) (records : List (ℕ × List ℕ)) (are : IsBucketOf image which bucket records) where
  in_map : (n : ℕ) (bytes : List ℕ) → finite.get are.own n ≡ Some bytes → finite.get (image.maps which) n ≡ Some bytes
  in_map n bytes there =
      elim (n % image.root.buckets == bucket) as (λ b. finite.get are.own n ≡ (if b then finite.get (image.maps which) n else None)
      → finite.get (image.maps which) n ≡ Some bytes) [
        | true ↦ λ is. sym is ∙ there
        | false ↦ λ is. absurd (nothing bytes (sym is ∙ there))
      ] (are.part.each n)

  pub records_in : AllByRecursion (λ one. finite.get (image.maps which) one.0 ≡ Some one.1) records
  records_in =
      let Is = λ (one : ℕ × List ℕ). finite.get (image.maps which) one.0 ≡ Some one.1 in
      subst (λ (l : List (ℕ × List ℕ)). AllByRecursion Is l) (sym are.are)
      (all_found Is (finite.entries are.own) (finite.entries_sorted are.own)
      (λ key bytes found. in_map key bytes (finite.get-entries are.own key ∙ found)))

  pub key_among : (n : ℕ) (bytes : List ℕ) → finite.get (image.maps which) n ≡ Some bytes → n % image.root.buckets ≡ bucket → Among records n
  key_among n bytes there mine =
      subst (λ (l : List (ℕ × List ℕ)). Among l n) (sym are.are)
      (found_among (finite.entries are.own) n bytes (sym (finite.get-entries are.own n)
      ∙ part_gives image.root.buckets bucket (image.maps which) are.own n are.part mine ∙ there))

-- a key without bytes
none_right : (asked : Bool) (kind : Kind) (key : ℕ) → IsRightAt asked kind key None
none_right asked kinds.Node key = tt
none_right asked kinds.Way key = tt
none_right asked kinds.Relation key = tt

none_held : (kind : Kind) (key : ℕ) (own : HeldOf) → IsAbsentAt kind key own → IsHeldFor kind None key own
none_held kinds.Node key own absent = record { found = None; read = tt; place_is = absent }
none_held kinds.Way key own absent = subst (λ (o : Option Object). ReadAs object_bytes (IsStored kinds.Way) None o) (sym absent) tt
none_held kinds.Relation key own absent =
    subst (λ (o : Option Object). ReadAs object_bytes (IsStored kinds.Relation) None o) (sym absent) tt

module _ (asked : Bool) (image : Image) (kind : Kind) (bucket : ℕ) (records : List (ℕ × List ℕ))
    (are : IsBucketOf image (map_number (map_for kind)) bucket records) where
  either_held : (key : ℕ) (own : HeldOf) → IsAbsentAt kind key own ⊎ IsHeldAt image kind key own
      → ((bytes : List ℕ) → bytes_in image kind key ≡ Some bytes → IsHeldAt image kind key own) → IsHeldAt image kind key own
  either_held key own part there =
      elim (bytes_in image kind key) as (λ o. bytes_in image kind key ≡ o → IsHeldAt image kind key own) [
        | None ↦ λ is. elim part [
          | inl absent ↦ subst (λ (o : Option (List ℕ)). IsHeldFor kind o key own) (sym is) (none_held kind key own absent)
          | inr held ↦ held
        ]
        | Some bytes ↦ λ is. there bytes is
      ] refl

  -- all keys of the bucket are held
  pub bucket_taken : (old new : HeldOf) → Takes asked image kind (Among records) old new
      → Takes asked image kind (λ key. key % image.root.buckets ≡ bucket) old new
  bucket_taken old new takes = record {
    part_of = takes.part_of;
    keeps = takes.keeps;
    gives = λ part key mine right. either_held key new ((takes.part_of part).each kind key)
        (λ bytes is. takes.gives part key (key_among image (map_number (map_for kind)) bucket records are key bytes is mine) right);
  }

  right_of_bucket : (Seen : ℕ → Type 0) (key : ℕ) → (Seen key ⊎ Among records key → IsRightOf asked image kind key)
      → Seen key ⊎ (key % image.root.buckets ≡ bucket) → IsRightOf asked image kind key
  right_of_bucket Seen key right part =
      elim (bytes_in image kind key) as (λ o. bytes_in image kind key ≡ o → IsRightOf asked image kind key) [
        | None ↦ λ is. subst (λ (o : Option (List ℕ)). IsRightAt asked kind key o) (sym is) (none_right asked kind key)
        | Some bytes ↦ λ is. elim part [
          | inl seen ↦ right (inl seen)
          | inr mine ↦ right (inr (key_among image (map_number (map_for kind)) bucket records are key bytes is mine))
        ]
      ] refl

  -- and were seen
  pub bucket_seen : (Seen : ℕ → Type 0) (found : Option ℕ)
      → IsLeastOf (λ key. Seen key ⊎ Among records key) (IsRightOf asked image kind) found
      → IsLeastOf (λ key. Seen key ⊎ (key % image.root.buckets ≡ bucket)) (IsRightOf asked image kind) found
  bucket_seen Seen None least = λ key part. right_of_bucket Seen key (least key) part
  bucket_seen Seen (Some own) least = (least.0, λ key less part. right_of_bucket Seen key (least.1 key less) part)

module _ (asked : Bool) (image : Image) where
  -- the first wrong value of a map is that of all, where the maps before have none
  pub first_of : (kind : Kind) (own : Wrong) → IsWrongIn (λ map key. IsRightOf asked image kind key) (map_for kind) (Some own)
      → ((other : Kind) → map_number (map_for other) < map_number (map_for kind) → (key : ℕ) → IsRightOf asked image other key)
      → IsFirstOf asked image own
  first_of kind own wrong before = record {
    kind = kind;
    map_is = wrong.0;
    maps_before = before;
    keys_before = wrong.2;
    wrong = wrong.1;
  }

  pub before_nodes : (other : Kind) → map_number (map_for other) < 0 → (key : ℕ) → IsRightOf asked image other key
  before_nodes other less = absurd (omega (arith, less))

  module _ (nodes : (key : ℕ) → IsRightOf asked image kinds.Node key) where
    pub before_ways : (other : Kind) → map_number (map_for other) < 1 → (key : ℕ) → IsRightOf asked image other key
    before_ways kinds.Node less = nodes
    before_ways kinds.Way less = absurd (omega (arith, less))
    before_ways kinds.Relation less = absurd (omega (arith, less))

    pub before_relations : ((key : ℕ) → IsRightOf asked image kinds.Way key) → (other : Kind) → map_number (map_for other) < 2 → (key : ℕ)
        → IsRightOf asked image other key
    before_relations ways kinds.Node less = nodes
    before_relations ways kinds.Way less = ways
    before_relations ways kinds.Relation less = absurd (omega (arith, less))

    module _ (ways : (key : ℕ) → IsRightOf asked image kinds.Way key) (old one two new : HeldOf)
        (first : Takes asked image kinds.Node (λ key. Unit {0}) old one)
        (second : Takes asked image kinds.Way (λ key. Unit {0}) one two)
        (third : Takes asked image kinds.Relation (λ key. Unit {0}) two new) where
      all_held : ((key : ℕ) → IsRightOf asked image kinds.Relation key) → IsPartOf image old → (kind : Kind) (key : ℕ)
          → IsHeldAt image kind key new
      all_held relations part kinds.Node key =
          third.keeps kinds.Node key (second.keeps kinds.Node key (first.gives part key tt (nodes key)))
      all_held relations part kinds.Way key = third.keeps kinds.Way key (second.gives (first.part_of part) key tt (ways key))
      all_held relations part kinds.Relation key = third.gives (second.part_of (first.part_of part)) key tt (relations key)

      all_right : ((key : ℕ) → IsRightOf asked image kinds.Relation key) → (kind : Kind) (key : ℕ) → IsRightOf asked image kind key
      all_right relations kinds.Node = nodes
      all_right relations kinds.Way = ways
      all_right relations kinds.Relation = relations

      -- what the last of the maps decides
      pub last_judged : (found : Option Wrong) → IsWrongIn (λ map key. IsRightOf asked image kinds.Relation key) stored.Relations found
          → Judges asked image old new found
      last_judged None relations = record {
        right = all_right relations;
        part_of = λ part. third.part_of (second.part_of (first.part_of part));
        held = all_held relations;
      }
      last_judged (Some own) wrong = first_of kinds.Relation own wrong (before_relations ways)
