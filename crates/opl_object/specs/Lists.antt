-- The lists of a line as they are written: tags, node references and members, with commas between them.
-- osmium "OPL File Format": a tag is its key, an equals sign and its value; a node reference is n and the id; a member
-- is the letter of its kind, the id, an at sign and its role.
use Rattle.std.specs.Prelude.{ℕ, ◌==◌, if◌then◌else◌, List, [], ◌∷◌, ◌++◌, codes, decimal}
use Rattle.std.specs.List.{AllByRecursion, join_by}
use Rattle.std.specs.FinMap as map
use Rattle.osm_base.specs.declared.values.object.Member.{Member}
use Rattle.osm_base.specs.values.Key.{KeyOf, IsId}
use Rattle.osm_base.specs.values.Tags.{TagMap}
use Rattle.opl_object.specs.declared.ascii.TheConstants.{SMALL_N}
use Rattle.opl_object.specs.Escapes.{written_text, IsText}
use Rattle.opl_object.specs.Spelling.{kind_byte}

-- the letter of a kind and an id
abbrev pub key_text : KeyOf → List ℕ
key_text key = kind_byte key.kind ∷ decimal key.id

-- a comma before each item but the first
abbrev pub comma_before : ℕ → List ℕ
comma_before index = if index == 0 then [] else codes ","

-- a key and a value
abbrev pub tag_text : List ℕ × List ℕ → List ℕ
tag_text tag = written_text tag.0 ++ codes "=" ++ written_text tag.1

-- tags by rising keys
unfoldable pub tags_text : TagMap → List ℕ
tags_text tags = join_by tag_text (codes ",") (map.entries tags)

-- the id of a node, as a reference
abbrev pub node_text : ℕ → List ℕ
node_text id = SMALL_N ∷ decimal id

-- the nodes of a way, in order
unfoldable pub nodes_text : List ℕ → List ℕ
nodes_text nodes = join_by node_text (codes ",") nodes

-- a member with its role
abbrev pub member_text : Member → List ℕ
member_text member = key_text member.key ++ codes "@" ++ written_text member.role

-- the members of a relation, in order
unfoldable pub members_text : List Member → List ℕ
members_text members = join_by member_text (codes ",") members

-- this holds of each key and each value
abbrev pub OfTag : (List ℕ → Type 0) → List ℕ × List ℕ → Type 0
OfTag P tag = P tag.0 × P tag.1

abbrev pub OfTags : (List ℕ → Type 0) → TagMap → Type 0
OfTags P tags = AllByRecursion (OfTag P) (map.entries tags)

-- an id and a role as the types have them
abbrev pub IsMember : Member → Type 0
IsMember member = IsId member.key.id × IsText member.role
