-- What a store keeps of a way or a relation.
use Rattle.std.specs.Prelude.{ℕ, List, [], ◌++◌}
use Rattle.std.specs.List.{AllByRecursion}
use Rattle.osm_base.specs.values.Key.{IsId}
use Rattle.osm_base.specs.declared.values.key.Kind.{Kind}
use Rattle.osm_base.specs.declared.values.key.Kind.TheVariants as kinds
use Rattle.osm_base.specs.declared.values.object.Member.{Member}
use Rattle.osm_base.specs.declared.values.object.Object.{Object}
use Rattle.osm_base.specs.declared.values.object.Object.TheVariants.{Node, Way, Relation}
use Rattle.value_bytes.specs.Lists.{list_bytes, IsList}
use Rattle.value_bytes.specs.Members.{member_bytes, IsMember}
use Rattle.value_bytes.specs.Numbers.{number_bytes, IsNumber}
use Rattle.value_bytes.specs.Tags.{tags_bytes, AreTags}

-- the nodes of a way: their number and their ids
abbrev pub nodes_bytes : List ℕ → List ℕ
nodes_bytes nodes = list_bytes number_bytes nodes

-- the nodes of a way that have a spelling
pub record AreNodes (nodes : List ℕ) : Type 0 where
  pub few : IsList IsNumber nodes
  pub ids : AllByRecursion IsId nodes

-- the members of a relation
abbrev pub members_bytes : List Member → List ℕ
members_bytes members = list_bytes member_bytes members

abbrev pub AreMembers : List Member → Type 0
AreMembers members = IsList IsMember members

-- the nodes of a way and its tags, or the members of a relation and its tags; a node is kept elsewhere
unfoldable pub object_bytes : Object → List ℕ
object_bytes (Node place tags) = []
object_bytes (Way nodes tags) = nodes_bytes nodes ++ tags_bytes tags
object_bytes (Relation members tags) = members_bytes members ++ tags_bytes tags

-- an object of this kind that has a spelling
unfoldable pub IsStored : Kind → Object → Type 0
IsStored kinds.Way (Way nodes tags) = AreNodes nodes × AreTags tags
IsStored kinds.Relation (Relation members tags) = AreMembers members × AreTags tags
IsStored _ _ = ⊥

-- an object of this kind whose nodes have ids, as they are kept here
abbrev pub IsKept : Kind → Object → Type 0
IsKept kinds.Way (Way nodes tags) = AllByRecursion IsId nodes
IsKept kinds.Relation (Relation members tags) = Unit {0}
IsKept _ _ = ⊥
