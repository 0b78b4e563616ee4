-- A store that stands for something refuses no question to its index, and no change of it, but for the disk or for want of memory.
use Rattle.std.proofs.Common.{◌≡◌, inl, inr, ℕ, List, [], ◌∷◌, ◌++◌, append_assoc, length, Option, Some, None, refl, sym, ap, subst, ◌∙◌}
use Rattle.std.proofs.Common.{arith}
use Rattle.std.specs.List.{AllByRecursion}
use Rattle.std.specs.Option.{IsSome}
use Rattle.std.specs.FinMap as finite
use Rattle.osm_base.specs.declared.values.key.Kind.TheVariants as kinds
use Rattle.osm_base.specs.declared.values.object.Object.{Object}
use Rattle.osm_base.specs.declared.values.object.Object.TheVariants.{Node, Way, Relation}
use Rattle.osm_base.specs.values.Ids.{has}
use Rattle.osm_base.specs.values.Key.{KeyOf}
use Rattle.outside.specs.declared.disk.Disk.{Ghosts}
use Rattle.page_journal.specs.declared.fault.StoreFault.{StoreFault}
use Rattle.object_fold.specs.Listing.{ListingOf, listers}
use Rattle.value_bytes.specs.Objects.{object_bytes, IsStored}
use Rattle.value_bytes.specs.Forms.{Begins, IsFront}
use Rattle.value_bytes.specs.Lists.{list_bytes, IsList}
use Rattle.value_bytes.specs.Maps.{Decodes, HoldsMap}
use Rattle.value_bytes.specs.Numbers.{number_bytes, IsNumber}
use Rattle.value_bytes.specs.Tags.{tags_bytes}
use Rattle.value_bytes.proofs.NumberLaws.{front_same, behind_same, number_same, length-number_bytes}
use Rattle.bucket_store.specs.Image.{Image}
use Rattle.bucket_store.specs.declared.buckets.Buckets.{Buckets}
use Rattle.store_maps.specs.Maps.{Maps}
use Rattle.store_maps.specs.Named.{WaysAreThere}
use Rattle.store_maps.specs.Step.{AreTold}
use Rattle.back_index.specs.Ids.{ids_bytes, AreListed}
use Rattle.back_index.specs.Index.{HasNodes, HoldsIndex, HoldsWays, IsDamaged, all_visits}
use Rattle.back_index.specs.Relisting.{IsUnread}
use Rattle.back_index.specs.Visits.{IsFine, Refuses, StopsAt}
use Rattle.value_bytes.specs.StoreMap.{map_number}
use Rattle.value_bytes.specs.declared.store_map.StoreMap.{StoreMap}
use Rattle.value_bytes.specs.declared.store_map.StoreMap.TheVariants.{Ways, WaysOfBlocks, RelationsOfNodes, RelationsOfWays}
use Rattle.back_index.specs.declared.visit.Visit.{Visit}
use Rattle.back_index.proofs.Held.{decoded_reads, reads_one}
use Rattle.back_index.proofs.Reading.{refuses_more, unread_not}
use Rattle.back_index.proofs.Relists.{told_fine}
use Rattle.back_index.proofs.Turning.{stops_never}

-- the front of a list of numbers is its only one
front_one : (one other rest behind : List ℕ) → length one ≡ length other → AllByRecursion IsNumber one → AllByRecursion IsNumber other
    → ids_bytes one ++ rest ≡ ids_bytes other ++ behind → (one ≡ other) × (rest ≡ behind)
front_one [] [] rest behind long are all same = (refl, same)
front_one [] (id ∷ others) rest behind long are all same = absurd (omega (arith, long))
front_one (id ∷ ids) [] rest behind long are all same = absurd (omega (arith, long))
front_one (id ∷ ids) (next ∷ others) rest behind long are all same =
    let eights : length (number_bytes id) ≡ length (number_bytes next) = length-number_bytes id ∙ sym (length-number_bytes next) in
    let turned = sym (append_assoc (number_bytes id) (ids_bytes ids) rest) ∙ same
    ∙ append_assoc (number_bytes next) (ids_bytes others) behind in
    let first = number_same id next are.0 all.0
    (front_same (number_bytes id) (number_bytes next) (ids_bytes ids ++ rest) (ids_bytes others ++ behind) eights turned) in
    let later = front_one ids others rest behind (omega (arith, long)) are.1 all.1
    (behind_same (number_bytes id) (number_bytes next) (ids_bytes ids ++ rest) (ids_bytes others ++ behind) eights turned) in
    (λ i. first i ∷ later.0 i, later.1)

list_front : (bytes own rest : List ℕ) → Begins (list_bytes number_bytes) (IsList IsNumber) bytes own rest
    → IsFront (list_bytes number_bytes) (IsList IsNumber) bytes own rest
unfolding list_bytes
list_front bytes own rest begins = record {
  begins = begins;
  alone = λ other behind again.
      let eights : length (number_bytes (length other)) ≡ length (number_bytes (length own))
      = length-number_bytes (length other) ∙ sym (length-number_bytes (length own)) in
      let same = sym (append_assoc (number_bytes (length other)) (ids_bytes other) behind) ∙ sym again.bytes_are ∙ begins.bytes_are
      ∙ append_assoc (number_bytes (length own)) (ids_bytes own) rest in
      let long = number_same (length other) (length own) again.is.few begins.is.few
      (front_same (number_bytes (length other)) (number_bytes (length own)) (ids_bytes other ++ behind)
      (ids_bytes own ++ rest) eights same) in
      front_one other own behind rest long again.is.each begins.is.each
      (behind_same (number_bytes (length other)) (number_bytes (length own)) (ids_bytes other ++ behind)
      (ids_bytes own ++ rest) eights same);
}

-- a way that is kept has its nodes in front
way_nodes : (bytes : Option (List ℕ)) (object : Option Object) → IsSome object → Decodes object_bytes (IsStored kinds.Way) bytes object
    → (nodes : List ℕ) × HasNodes bytes nodes
unfolding object_bytes IsStored
way_nodes bytes None some is = absurd (cc)
way_nodes None (Some object) some is = absurd is
way_nodes (Some bytes) (Some (Node place tags)) some is = absurd is.0
way_nodes (Some bytes) (Some (Relation members tags)) some is = absurd is.0
way_nodes (Some bytes) (Some (Way nodes tags)) some is =
    (nodes, (tags_bytes tags, list_front bytes nodes (tags_bytes tags) (record { is = is.0.0.few; bytes_are = is.1 })))

unread_held : (now : Image) (which id : ℕ) (listing : ListingOf) → HoldsMap ids_bytes AreListed (now.maps which) listing
    → IsUnread (finite.get (now.maps which) id) → ⊥
unread_held now which id listing holds unread =
    unread_not (finite.get (now.maps which) id) (listers listing id) unread
    (decoded_reads (finite.get (now.maps which) id) (finite.get listing id) (holds id))

module _ {D : Type 0} {g : Ghosts D} (buckets : Buckets D g) (now : Image) (maps : Maps) (index : HoldsIndex now maps)
    (holds : HoldsWays now maps) (are : WaysAreThere maps) where
  none_damaged : (at : ℕ) → IsDamaged buckets now at → ⊥
  none_damaged at (inl bad) = elim bad.is_index [
    | inl is ↦ unread_held now (map_number WaysOfBlocks) bad.id maps.ways_of_blocks index.ways_of_blocks
        (subst (λ (m : StoreMap). IsUnread (finite.get (now.maps (map_number m)) bad.id)) is bad.unread)
    | inr other ↦ elim other [
      | inl is ↦ unread_held now (map_number RelationsOfNodes) bad.id maps.relations_of_nodes index.relations_of_nodes
          (subst (λ (m : StoreMap). IsUnread (finite.get (now.maps (map_number m)) bad.id)) is bad.unread)
      | inr is ↦ unread_held now (map_number RelationsOfWays) bad.id maps.relations_of_ways index.relations_of_ways
          (subst (λ (m : StoreMap). IsUnread (finite.get (now.maps (map_number m)) bad.id)) is bad.unread)
    ]
  ]
  none_damaged at (inr bad) =
      let found = finite.get (now.maps (map_number WaysOfBlocks)) bad.block in
      let same = reads_one found bad.ids (finite.get maps.ways_of_blocks bad.block) bad.reads (index.ways_of_blocks bad.block) in
      let some = are bad.block bad.way (ap (λ (l : List ℕ). has l bad.way) (sym same) ∙ bad.said) in
      bad.none (way_nodes (finite.get (now.maps (map_number Ways)) bad.way) (finite.get maps.ways bad.way) some (holds bad.way))

  -- a question is refused for the disk or for want of memory alone
  pub questions_allowed : (fault : StoreFault) → Refuses (IsDamaged buckets now) fault → Refuses (λ at. ⊥) fault
  questions_allowed fault refuses = refuses_more (IsDamaged buckets now) (λ at. ⊥) none_damaged fault refuses

-- and a change of the index too
pub relist_allowed : (key : KeyOf) (old new : Option Object) (now : Image) (maps : Maps) (page : Visit → ℕ) (fault : StoreFault)
    → HoldsIndex now maps
    → AreTold maps key old → Refuses (StopsAt (IsFine now key.id) page (all_visits key old new)) fault → Refuses (λ at. ⊥) fault
relist_allowed key old new now maps page fault index told refuses =
    refuses_more (StopsAt (IsFine now key.id) page (all_visits key old new)) (λ at. ⊥)
    (λ at stops. stops_never (IsFine now key.id) page (all_visits key old new) at (told_fine key old new now maps index told) stops) fault
    refuses
