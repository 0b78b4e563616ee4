-- The laws of tags in bytes.
use Rattle.std.proofs.Common.{◌≡◌, ℕ, List, T, sym, ◌∙◌, refl, subst}
use Rattle.std.specs.Ordering.{nat_cmp}
use Rattle.std.specs.Cmp.Lexicographic.{slice_cmp}
use Rattle.std.specs.FinMap as map
use Rattle.osm_base.specs.values.Tags.{TagMap, TagPairs}
use Rattle.osm_base.proofs.TagPlaces.{entries-from_entries}
use Rattle.value_bytes.specs.Forms.{IsFront, IsFrontless}
use Rattle.value_bytes.specs.Lists.{list_bytes, IsList}
use Rattle.value_bytes.specs.Tags.{tag_bytes, IsTag, tags_bytes, AreTags}
use Rattle.value_bytes.proofs.Seen.{AreSeen, front_seen, frontless_seen, unseen}

tags_seen : AreSeen (list_bytes tag_bytes) (IsList IsTag) tags_bytes AreTags (λ tags. map.entries tags)
unfolding tags_bytes AreTags
tags_seen = record { is = λ tags are. are; told = λ tags. refl }

pub tags_front : (bytes : List ℕ) (pairs : TagPairs) (rest : List ℕ) → T (map.is_sorted (slice_cmp nat_cmp) pairs)
    → IsFront (list_bytes tag_bytes) (IsList IsTag) bytes pairs rest → IsFront tags_bytes AreTags bytes (map.from_entries pairs) rest
unfolding AreTags
tags_front bytes pairs rest rising front =
    let again = entries-from_entries pairs rising in
    front_seen (list_bytes tag_bytes) (IsList IsTag) tags_bytes AreTags (λ tags. map.entries tags) tags_seen bytes pairs rest front
    (map.from_entries pairs)
    (subst (λ l. IsList IsTag l) (sym again) front.begins.is) again
    (λ other are here. map.same_entries_map other (map.from_entries pairs) (here ∙ sym again))

pub tags_frontless : (bytes : List ℕ) → IsFrontless (list_bytes tag_bytes) (IsList IsTag) bytes → IsFrontless tags_bytes AreTags bytes
tags_frontless bytes none = frontless_seen (list_bytes tag_bytes) (IsList IsTag) tags_bytes AreTags
    (λ tags. map.entries tags) tags_seen bytes none

pub tags_unseen : (bytes : List ℕ) (pairs : TagPairs) (rest : List ℕ) → (T (map.is_sorted (slice_cmp nat_cmp) pairs) → ⊥)
    → IsFront (list_bytes tag_bytes) (IsList IsTag) bytes pairs rest → IsFrontless tags_bytes AreTags bytes
tags_unseen bytes pairs rest disorder front =
    unseen (list_bytes tag_bytes) (IsList IsTag) tags_bytes AreTags (λ tags. map.entries tags) tags_seen bytes pairs rest front
    (λ tags are here. disorder (subst (λ l. T (map.is_sorted (slice_cmp nat_cmp) l)) here (map.entries_sorted tags)))

-- what was put
pub tags_put : (tags : TagMap) → list_bytes tag_bytes (map.entries tags) ≡ tags_bytes tags
unfolding tags_bytes
tags_put tags = refl

pub tags_are : (tags : TagMap) → IsList IsTag (map.entries tags) → AreTags tags
unfolding AreTags
tags_are tags are = are
