-- Members of a relation in bytes: a byte for the kind, the id, and the role.
use Rattle.std.specs.Prelude.{ℕ, List, ◌∷◌, ◌++◌}
use Rattle.osm_base.specs.values.Key.{KeyOf, IsId}
use Rattle.osm_base.specs.declared.values.key.Kind.{Kind}
use Rattle.osm_base.specs.declared.values.key.Kind.TheVariants.{Node, Way, Relation}
use Rattle.osm_base.specs.declared.values.object.Member.{Member}
use Rattle.value_bytes.specs.Numbers.{number_bytes}
use Rattle.value_bytes.specs.Texts.{text_bytes, IsText}

-- the byte of a kind
abbrev pub kind_byte : Kind → ℕ
kind_byte Node = 0
kind_byte Way = 1
kind_byte Relation = 2

-- a key
unfoldable pub key_bytes : KeyOf → List ℕ
key_bytes key = kind_byte key.kind ∷ number_bytes key.id

abbrev pub IsKey : KeyOf → Type 0
IsKey key = IsId key.id

-- a member
unfoldable pub member_bytes : Member → List ℕ
member_bytes member = key_bytes member.key ++ text_bytes member.role

-- a member that has a spelling
pub record IsMember (member : Member) : Type 0 where
  pub key : IsKey member.key
  pub role : IsText member.role
