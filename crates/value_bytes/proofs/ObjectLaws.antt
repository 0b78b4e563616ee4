-- The laws of ways and relations in bytes.
use Rattle.std.proofs.Common.{◌≡◌, ℕ, List, ◌++◌, refl, get_or, length, ◌<◌, zero, suc, arith, [], ◌∷◌}
use Rattle.std.specs.List.{AllByRecursion}
use Rattle.osm_base.specs.values.Key.{IsId}
use Rattle.osm_base.specs.values.Tags.{TagMap}
use Rattle.osm_base.specs.declared.values.key.Kind.{Kind}
use Rattle.osm_base.specs.declared.values.key.Kind.TheVariants as kinds
use Rattle.osm_base.specs.declared.values.object.Member.{Member}
use Rattle.osm_base.specs.declared.values.object.Object.{Object}
use Rattle.osm_base.specs.declared.values.object.Object.TheVariants.{Node, Way, Relation}
use Rattle.value_bytes.specs.Objects.{object_bytes, IsStored, IsKept}
use Rattle.value_bytes.specs.Forms.{both_bytes, Both}
use Rattle.value_bytes.specs.Lists.{list_bytes, IsList}
use Rattle.value_bytes.specs.Members.{member_bytes, IsMember}
use Rattle.value_bytes.specs.Numbers.{number_bytes, IsNumber}
use Rattle.value_bytes.specs.Tags.{tags_bytes, AreTags}
use Rattle.value_bytes.proofs.Made.{AreMade}

-- numbers and tags, members and tags
abbrev pub way_parts : List ℕ × TagMap → List ℕ
way_parts p = both_bytes (list_bytes number_bytes) tags_bytes p

abbrev pub AreWayParts : List ℕ × TagMap → Type 0
AreWayParts p = Both (IsList IsNumber) AreTags p

abbrev pub way_of : List ℕ × TagMap → Object
way_of p = Way p.0 p.1

way_split : (object : Object) → IsStored kinds.Way object → (p : List ℕ × TagMap) × AreWayParts p × (object ≡ way_of p)
unfolding IsStored
way_split (Node place tags) is = absurd is
way_split (Way nodes tags) is = ((nodes, tags), (is.0.few, is.1), refl)
way_split (Relation members tags) is = absurd is

pub ways_made : AreMade way_parts AreWayParts object_bytes (IsStored kinds.Way) way_of
unfolding object_bytes
ways_made = record { parts = way_split; told = λ p. refl }

pub way_stored : (nodes : List ℕ) (tags : TagMap) → IsList IsNumber nodes → AreTags tags → AllByRecursion IsId nodes
    → IsStored kinds.Way (Way nodes tags)
unfolding IsStored
way_stored nodes tags few are ids = (record { few = few; ids = ids }, are)

pub way_ids : (nodes : List ℕ) (tags : TagMap) → IsStored kinds.Way (Way nodes tags) → AllByRecursion IsId nodes
unfolding IsStored
way_ids nodes tags is = is.0.ids

abbrev pub relation_parts : List Member × TagMap → List ℕ
relation_parts p = both_bytes (list_bytes member_bytes) tags_bytes p

abbrev pub AreRelationParts : List Member × TagMap → Type 0
AreRelationParts p = Both (IsList IsMember) AreTags p

abbrev pub relation_of : List Member × TagMap → Object
relation_of p = Relation p.0 p.1

relation_split : (object : Object) → IsStored kinds.Relation object
    → (p : List Member × TagMap) × AreRelationParts p × (object ≡ relation_of p)
unfolding IsStored
relation_split (Node place tags) is = absurd is
relation_split (Way nodes tags) is = absurd is
relation_split (Relation members tags) is = ((members, tags), is, refl)

pub relations_made : AreMade relation_parts AreRelationParts object_bytes (IsStored kinds.Relation) relation_of
unfolding object_bytes
relations_made = record { parts = relation_split; told = λ p. refl }

pub relation_stored : (members : List Member) (tags : TagMap) → IsList IsMember members → AreTags tags
    → IsStored kinds.Relation (Relation members tags)
unfolding IsStored
relation_stored members tags are tagged = (are, tagged)

-- each of these ids is one
pub each_at : (numbers : List ℕ) (place : ℕ) → AllByRecursion IsId numbers → place < length numbers → IsId (get_or numbers place 0)
each_at [] place each within = absurd (omega arith)
each_at (number ∷ numbers) zero each within = each.0
each_at (number ∷ numbers) (suc place) each within = each_at numbers place each.1 (omega arith)

-- what was put, of a kind that is kept
pub way_put : (nodes : List ℕ) (tags : TagMap) (old : List ℕ)
    → old ++ (list_bytes number_bytes nodes ++ tags_bytes tags) ≡ old ++ object_bytes (Way nodes tags)
unfolding object_bytes
way_put nodes tags old = refl

pub relation_put : (members : List Member) (tags : TagMap) (old : List ℕ)
    → old ++ (list_bytes member_bytes members ++ tags_bytes tags) ≡ old ++ object_bytes (Relation members tags)
unfolding object_bytes
relation_put members tags old = refl

pub kept_way : (kind : Kind) (nodes : List ℕ) (tags : TagMap) → IsKept kind (Way nodes tags) → IsList IsNumber nodes → AreTags tags
    → IsStored kind (Way nodes tags)
kept_way kinds.Node nodes tags kept few are = absurd kept
kept_way kinds.Way nodes tags kept few are = way_stored nodes tags few are kept
kept_way kinds.Relation nodes tags kept few are = absurd kept

pub kept_relation : (kind : Kind) (members : List Member) (tags : TagMap) → IsKept kind (Relation members tags) → IsList IsMember members
    → AreTags tags
    → IsStored kind (Relation members tags)
kept_relation kinds.Node members tags kept are tagged = absurd kept
kept_relation kinds.Way members tags kept are tagged = absurd kept
kept_relation kinds.Relation members tags kept are tagged = relation_stored members tags are tagged
