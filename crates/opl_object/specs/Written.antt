-- The line of an entry as it is written.
-- osmium "OPL File Format": each line contains one object: the letter of its kind with the id, and then its fields,
-- each behind a space. Of the many lines that spell an entry this is the one that is written: d with D for a deleted
-- object; else T with the tags, and x and y, N or M.
use Rattle.std.specs.Prelude.{◌≡◌, ℕ, Option, None, Some, List, ◌++◌, codes, IfSome}
use Rattle.std.specs.List.{AllByRecursion}
use Rattle.osm_base.specs.declared.values.key.Kind.{Kind}
use Rattle.osm_base.specs.declared.values.key.Kind.TheVariants as kinds
use Rattle.osm_base.specs.declared.values.object.Entry.{Entry}
use Rattle.osm_base.specs.declared.values.object.Member.{Member}
use Rattle.osm_base.specs.declared.values.object.Object.{Object}
use Rattle.osm_base.specs.declared.values.object.Object.TheVariants.{Node, Way, Relation}
use Rattle.osm_base.specs.values.Degrees.{degrees}
use Rattle.osm_base.specs.values.Key.{IsId}
use Rattle.osm_base.specs.values.Place.{PlaceOf, IsOnEarth}
use Rattle.osm_base.specs.values.Tags.{TagMap}
use Rattle.opl_object.specs.Escapes.{IsText, IsWithoutZero}
use Rattle.opl_object.specs.Lists.{key_text, tags_text, nodes_text, members_text, OfTags, IsMember}

-- the longitude and the latitude, or their letters alone
abbrev pub place_text : Option PlaceOf → List ℕ
place_text None = codes " x y"
place_text (Some place) = codes " x" ++ degrees place.lon ++ (codes " y" ++ degrees place.lat)

-- the fields of an object
abbrev pub object_text : Object → List ℕ
object_text (Node place tags) = codes " T" ++ tags_text tags ++ place_text place
object_text (Way nodes tags) = codes " T" ++ tags_text tags ++ (codes " N" ++ nodes_text nodes)
object_text (Relation members tags) = codes " T" ++ tags_text tags ++ (codes " M" ++ members_text members)

-- the field of the tags, of the nodes of a way and of the members of a relation
abbrev pub tag_field : TagMap → List ℕ
tag_field tags = codes " T" ++ tags_text tags

abbrev pub node_field : List ℕ → List ℕ
node_field nodes = codes " N" ++ nodes_text nodes

abbrev pub member_field : List Member → List ℕ
member_field members = codes " M" ++ members_text members

-- the tags of an object
unfoldable pub tags_in : Object → TagMap
tags_in (Node place tags) = tags
tags_in (Way nodes tags) = tags
tags_in (Relation members tags) = tags

-- the fields behind the tags, which only objects of this kind have
unfoldable pub own_text : Object → List ℕ
own_text (Node place tags) = place_text place
own_text (Way nodes tags) = node_field nodes
own_text (Relation members tags) = member_field members

-- or of one that is deleted
abbrev pub fields_text : Option Object → List ℕ
fields_text None = codes " dD"
fields_text (Some object) = object_text object

-- the line without its newline
unfoldable pub line_text : Entry → List ℕ
line_text entry = key_text entry.key ++ fields_text entry.object

-- the line
abbrev pub entry_text : Entry → List ℕ
entry_text entry = line_text entry ++ codes "\n"

-- the object is of this kind
abbrev pub IsOfKind : Kind → Object → Type 0
IsOfKind kind (Node place tags) = kind ≡ kinds.Node
IsOfKind kind (Way nodes tags) = kind ≡ kinds.Way
IsOfKind kind (Relation members tags) = kind ≡ kinds.Relation

-- the ids of nodes are ids
abbrev pub HasIds : Object → Type 0
HasIds (Way nodes tags) = AllByRecursion IsId nodes
HasIds _ = Unit {0}

-- no text of the object has the code point zero
abbrev pub HasNoZero : Object → Type 0
HasNoZero (Node place tags) = OfTags IsWithoutZero tags
HasNoZero (Way nodes tags) = OfTags IsWithoutZero tags
HasNoZero (Relation members tags) = OfTags IsWithoutZero tags × AllByRecursion (λ member. IsWithoutZero member.role) members

-- an entry that can be written: an object of the kind of its key, with ids of nodes that are ids and texts without the
-- code point zero
pub record IsWritable (entry : Entry) : Type 0 where
  pub kind : IfSome entry.object (IsOfKind entry.key.kind)
  pub ids : IfSome entry.object HasIds
  pub no_zero : IfSome entry.object HasNoZero

-- what the types say of an object: its place is on the earth, its members have ids, its texts are texts
abbrev pub IsSound : Object → Type 0
IsSound (Node place tags) = IfSome place (λ place. IsOnEarth place.lon place.lat) × OfTags IsText tags
IsSound (Way nodes tags) = OfTags IsText tags
IsSound (Relation members tags) = OfTags IsText tags × AllByRecursion IsMember members

-- the same without its tags
unfoldable pub IsOwnSound : Object → Type 0
IsOwnSound (Node place tags) = IfSome place (λ place. IsOnEarth place.lon place.lat)
IsOwnSound (Way nodes tags) = Unit {0}
IsOwnSound (Relation members tags) = AllByRecursion IsMember members
