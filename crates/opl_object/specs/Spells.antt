-- Which lines spell which entry, apart from how they are read.
-- osmium "OPL File Format": each line contains one object; its fields stand in any order behind the first.
use Rattle.std.specs.Prelude.{◌≡◌, ◌≢◌, ℕ, ℤ, Bool, true, false, IsTrue, List, [], ◌∷◌, Option, None, Some, map, nat_abs}
use Rattle.std.specs.FinMap as finite
use Rattle.std.specs.List.{AllByRecursion}
use Rattle.std.specs.Str.{IsUtf8}
use Rattle.osm_base.specs.declared.values.key.Kind.{Kind}
use Rattle.osm_base.specs.declared.values.key.Kind.TheVariants as kinds
use Rattle.osm_base.specs.declared.values.object.Entry.{Entry}
use Rattle.osm_base.specs.declared.values.object.Object.{Object}
use Rattle.osm_base.specs.declared.values.object.Object.TheVariants as objects
use Rattle.osm_base.specs.declared.values.place.TheConstants.{MAX_LON, MAX_LAT}
use Rattle.osm_base.specs.values.Place.{PlaceOf}
use Rattle.opl_object.specs.declared.ascii.TheConstants.{CAPITAL_D, CAPITAL_V}
use Rattle.opl_object.specs.declared.letter.Letter.{Letter}
use Rattle.opl_object.specs.declared.letter.Letter.TheVariants.{Version, Visible, Changeset, Time, UserId, User, Tags, Lon, Lat, Nodes}
use Rattle.opl_object.specs.declared.letter.Letter.TheVariants.{Members}
use Rattle.opl_object.specs.declared.parts.Parts.{Parts}
use Rattle.opl_object.specs.Fields.{fields_of}
use Rattle.opl_object.specs.Letter.{byte_of}
use Rattle.opl_object.specs.Line.{IsSkipped}
use Rattle.opl_object.specs.Number.{is_whole, is_time}
use Rattle.opl_object.specs.Spelling.{AreDistinct, SpellsText, SpellsId, SpellsCoordinate, SpellsTags, SpellsList, SpellsNode, SpellsMember}
use Rattle.opl_object.specs.Spelling.{kind_byte}

-- a letter that lines of this kind have
abbrev pub Belongs : Kind → Letter → Type 0
Belongs kind Lon = kind ≡ kinds.Node
Belongs kind Lat = kind ≡ kinds.Node
Belongs kind Nodes = kind ≡ kinds.Way
Belongs kind Members = kind ≡ kinds.Relation
Belongs kind _ = Unit {0}

-- nothing, or a coordinate
abbrev pub SpellsDegrees : ℕ → List ℕ → Option ℤ → Type 0
SpellsDegrees greatest text None = text ≡ []
SpellsDegrees greatest text (Some value) = SpellsCoordinate greatest text value

-- V for an object that is there, D for one that is deleted
abbrev pub SpellsVisible : List ℕ → Bool → Type 0
SpellsVisible text false = text ≡ CAPITAL_V ∷ []
SpellsVisible text true = text ≡ CAPITAL_D ∷ []

-- the value of a letter is in its form, and these parts have what it says
abbrev pub Says : Letter → List ℕ → Parts → Type 0
Says Version value parts = IsTrue (is_whole value)
Says Visible value parts = SpellsVisible value parts.deleted
Says Changeset value parts = IsTrue (is_whole value)
Says Time value parts = IsTrue (is_time value)
Says UserId value parts = IsTrue (is_whole value)
Says User value parts = (name : List ℕ) × SpellsText value name
Says Tags value parts = SpellsTags value parts.tags
Says Lon value parts = SpellsDegrees (nat_abs MAX_LON) value parts.lon
Says Lat value parts = SpellsDegrees (nat_abs MAX_LAT) value parts.lat
Says Nodes value parts = SpellsList SpellsNode value parts.nodes
Says Members value parts = SpellsList SpellsMember value parts.members

-- these parts have what a line says that lacks the letter
abbrev pub Lacks : Letter → Parts → Type 0
Lacks Visible parts = parts.deleted ≡ false
Lacks Tags parts = parts.tags ≡ finite.empty
Lacks Lon parts = parts.lon ≡ None
Lacks Lat parts = parts.lat ≡ None
Lacks Nodes parts = parts.nodes ≡ []
Lacks Members parts = parts.members ≡ []
Lacks _ parts = Unit {0}

-- a letter and its value as a field
abbrev pub field_text : Letter × List ℕ → List ℕ
field_text field = byte_of field.0 ∷ field.1

-- these fields, whose letters are distinct and belong to the kind, say these parts
pub record SayParts (kind : Kind) (fields : List (Letter × List ℕ)) (parts : Parts) : Type 0 where
  pub belong : AllByRecursion (λ field. Belongs kind field.0) fields
  pub distinct : AreDistinct (map (λ field. field.0) fields)
  pub says : AllByRecursion (λ field. Says field.0 field.1 parts) fields
  pub lacks : (letter : Letter) → AllByRecursion (λ field. letter ≢ field.0) fields → Lacks letter parts

-- the place of both coordinates or of none
abbrev pub IsPlace : Option ℤ → Option ℤ → Option PlaceOf → Type 0
IsPlace None None place = place ≡ None
IsPlace (Some lon) (Some lat) place = place ≡ Some (record { lon = lon; lat = lat })
IsPlace _ _ place = ⊥

-- the object that the parts make of a kind
abbrev pub IsObject : Kind → Parts → Object → Type 0
IsObject kinds.Node parts object = (place : Option PlaceOf) × IsPlace parts.lon parts.lat place × (object ≡ objects.Node place parts.tags)
IsObject kinds.Way parts object = object ≡ objects.Way parts.nodes parts.tags
IsObject kinds.Relation parts object = object ≡ objects.Relation parts.members parts.tags

-- that object, or none where it is deleted
abbrev pub IsObjectOf : Bool → Object → Option Object → Type 0
IsObjectOf true object entry = entry ≡ None
IsObjectOf false object entry = entry ≡ Some object

-- the line is UTF-8 and not skipped, its fields are a key and parts, and the entry has these
pub record Spells (line : List ℕ) (entry : Entry) : Type 0 where
  pub digits : List ℕ
  pub fields : List (Letter × List ℕ)
  pub parts : Parts
  pub object : Object
  pub counts : IsSkipped line → ⊥
  pub utf8 : IsUtf8 line
  pub form : fields_of line ≡ (kind_byte entry.key.kind ∷ digits) ∷ map field_text fields
  pub number : SpellsId digits entry.key.id
  pub say : SayParts entry.key.kind fields parts
  pub made : IsObject entry.key.kind parts object
  pub is : IsObjectOf parts.deleted object entry.object
