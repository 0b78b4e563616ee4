-- What is wrong with a line, apart from how it is read: the first fault from left to right, over whole fields and lists.
-- osmium "OPL File Format" says what each value is, and specs/Spelling.antt which texts spell it. Of several faults this
-- program tells the first: the line's bytes, its first field, each other field in order, its place. Of a field it looks at
-- the letter, whether it stood before, and the value; of an item of a list at what stands in front first.
use Rattle.std.specs.Prelude.{◌≡◌, ◌≢◌, ◌⊎◌, ℕ, IsFalse, List, [], ◌∷◌, ◌++◌, Option, None, Some, Result, Ok, Err, map, nat_abs}
use Rattle.std.specs.List.{slice_split}
use Rattle.std.specs.Str.{IsUtf8}
use Rattle.osm_base.specs.declared.values.key.Kind.{Kind}
use Rattle.osm_base.specs.declared.values.object.Member.{Member}
use Rattle.osm_base.specs.declared.values.place.TheConstants.{MAX_LON, MAX_LAT}
use Rattle.osm_base.specs.values.Key.{KeyOf}
use Rattle.opl_object.specs.declared.ascii.TheConstants.{COMMA, EQUALS, AT, CAPITAL_D, CAPITAL_V}
use Rattle.opl_object.specs.declared.letter.Letter.{Letter}
use Rattle.opl_object.specs.declared.letter.Letter.TheVariants.{Version, Visible, Changeset, Time, UserId, User, Tags, Lon, Lat, Nodes}
use Rattle.opl_object.specs.declared.letter.Letter.TheVariants.{Members}
use Rattle.opl_object.specs.declared.parts.Parts.{Parts}
use Rattle.opl_object.specs.declared.why.Why.{Why}
use Rattle.opl_object.specs.declared.why.Why.TheVariants as causes
use Rattle.opl_object.specs.Coordinate.{coordinate}
use Rattle.opl_object.specs.Fields.{is, is_empty, cut_at, behind, fields_of}
use Rattle.opl_object.specs.Letter.{letter_at}
use Rattle.opl_object.specs.Line.{IsSkipped, key_of, object_of}
use Rattle.opl_object.specs.Members.{kind_at}
use Rattle.opl_object.specs.Nodes.{numbered, node_of}
use Rattle.opl_object.specs.Number.{is_whole, is_time}
use Rattle.opl_object.specs.Spelling.{AreDistinct, SpellEach, SpellsText, SpellsTag, SpellsNode, SpellsMember}
use Rattle.opl_object.specs.Spells.{field_text, SayParts}

-- this is one of these
abbrev pub IsAmong : {A : Type 0} → A → List A → Type 0
IsAmong x [] = ⊥
IsAmong x (y ∷ ys) = (x ≡ y) ⊎ IsAmong x ys

-- no text is spelled so
abbrev pub SpellsNoText : List ℕ → Type 0
SpellsNoText spelled = (text : List ℕ) → SpellsText spelled text → ⊥

-- The first piece of a list that has a fault. Those before it spell items that may stand together, and the fault may
-- be one beside these items alone.
pub record FirstFault {A : Type 0} (Spell : List ℕ → A → Type 0) (MayStand : List A → Type 0) (Fault : List A → List ℕ → Why → Type 0)
    (pieces : List (List ℕ)) (why : Why) : Type 0 where
  pub before : List (List ℕ)
  pub items : List A
  pub piece : List ℕ
  pub after : List (List ℕ)
  pub form : pieces ≡ before ++ piece ∷ after
  pub spelled : SpellEach Spell before items
  pub stand : MayStand items
  pub fault : Fault items piece why

-- ---- tags

-- no key twice
abbrev pub HaveOwnKeys : List (List ℕ × List ℕ) → Type 0
HaveOwnKeys tags = AreDistinct (map (λ tag. tag.0) tags)

-- a key without an equals sign; a key or a value that is no text; a key that stands among these tags
abbrev pub PairFault : List (List ℕ × List ℕ) → List ℕ × Option (List ℕ) → Why → Type 0
PairFault tags (key, None) why = why ≡ causes.Tag
PairFault tags (key, Some value) why =
    ((SpellsNoText key ⊎ SpellsNoText value) × (why ≡ causes.Escape))
    ⊎ ((name : List ℕ) × (text : List ℕ) × SpellsText key name × SpellsText value text × IsAmong name (map (λ tag. tag.0) tags)
    × (why ≡ causes.RepeatedKey))

-- the key stands before the first equals sign, the value behind it
abbrev pub TagFault : List (List ℕ × List ℕ) → List ℕ → Why → Type 0
TagFault tags piece why = PairFault tags (cut_at (is EQUALS) piece) why

-- ---- members

-- behind the id: an at sign and a role that is a text
abbrev pub RoleFault : Option (List ℕ) → Why → Type 0
RoleFault None why = why ≡ causes.Member
RoleFault (Some role) why = SpellsNoText role × (why ≡ causes.Escape)

-- behind the kind: an id
abbrev pub NumberFault : Result (ℕ × List ℕ) Why → Why → Type 0
NumberFault (Err cause) why = why ≡ cause
NumberFault (Ok found) why = RoleFault (behind AT found.1) why

-- in front: the letter of a kind
abbrev pub FrontFault : Option (Kind × List ℕ) → Why → Type 0
FrontFault None why = why ≡ causes.Member
FrontFault (Some front) why = NumberFault (numbered front.1) why

abbrev pub MemberFault : List Member → List ℕ → Why → Type 0
MemberFault members piece why = FrontFault (kind_at piece) why

-- ---- node references

abbrev pub NodeFault : List ℕ → List ℕ → Why → Type 0
NodeFault nodes piece why = node_of piece ≡ Err why

-- ---- fields

-- any items may stand together
abbrev pub AreAny : {A : Type 0} → List A → Type 0
AreAny items = Unit {0}

-- the value of a letter is not in its form
abbrev pub ValueFault : Letter → List ℕ → Why → Type 0
ValueFault Version value why = IsFalse (is_whole value) × (why ≡ causes.Number)
ValueFault Visible value why = (value ≢ CAPITAL_V ∷ []) × (value ≢ CAPITAL_D ∷ []) × (why ≡ causes.Field)
ValueFault Changeset value why = IsFalse (is_whole value) × (why ≡ causes.Number)
ValueFault Time value why = IsFalse (is_time value) × (why ≡ causes.Number)
ValueFault UserId value why = IsFalse (is_whole value) × (why ≡ causes.Number)
ValueFault User value why = SpellsNoText value × (why ≡ causes.Escape)
ValueFault Tags value why = IsFalse (is_empty value) × FirstFault SpellsTag HaveOwnKeys TagFault (slice_split (is COMMA) value) why
ValueFault Lon value why = IsFalse (is_empty value) × (coordinate (nat_abs MAX_LON) value ≡ Err why)
ValueFault Lat value why = IsFalse (is_empty value) × (coordinate (nat_abs MAX_LAT) value ≡ Err why)
ValueFault Nodes value why = IsFalse (is_empty value) × FirstFault SpellsNode AreAny NodeFault (slice_split (is COMMA) value) why
ValueFault Members value why = IsFalse (is_empty value) × FirstFault SpellsMember AreAny MemberFault (slice_split (is COMMA) value) why

-- no letter of the kind; a letter that stands among these fields; a value that is not in its form
abbrev pub LetterFault : List (Letter × List ℕ) → Option (Letter × List ℕ) → Why → Type 0
LetterFault before None why = why ≡ causes.Field
LetterFault before (Some field) why =
    (IsAmong field.0 (map (λ other. other.0) before) × (why ≡ causes.Repeated))
    ⊎ ((IsAmong field.0 (map (λ other. other.0) before) → ⊥) × ValueFault field.0 field.1 why)

-- the first field with a fault: those before it say some parts
pub record FieldsFault (kind : Kind) (fields : List (List ℕ)) (why : Why) : Type 0 where
  pub before : List (Letter × List ℕ)
  pub parts : Parts
  pub field : List ℕ
  pub after : List (List ℕ)
  pub form : fields ≡ map field_text before ++ field ∷ after
  pub say : SayParts kind before parts
  pub fault : LetterFault before (letter_at kind field) why

-- no field has a fault, and the parts that they say make no object
pub record PlaceFault (kind : Kind) (fields : List (List ℕ)) (why : Why) : Type 0 where
  pub pairs : List (Letter × List ℕ)
  pub parts : Parts
  pub form : fields ≡ map field_text pairs
  pub say : SayParts kind pairs parts
  pub fault : object_of kind parts ≡ Err why

-- ---- lines

-- the fields behind a first field that is a key, or is none
abbrev pub KeyFault : Result KeyOf Why → List (List ℕ) → Why → Type 0
KeyFault (Err cause) fields why = why ≡ cause
KeyFault (Ok key) fields why = FieldsFault key.kind fields why ⊎ PlaceFault key.kind fields why

-- the fields of a line
abbrev pub EntryFault : List (List ℕ) → Why → Type 0
EntryFault [] why = why ≡ causes.Kind
EntryFault (first ∷ fields) why = KeyFault (key_of first) fields why

-- a line that counts has this fault: it is not UTF-8, or its fields have it
pub record HasFault (line : List ℕ) (why : Why) : Type 0 where
  pub counts : IsSkipped line → ⊥
  pub first : ((IsUtf8 line → ⊥) × (why ≡ causes.Utf8)) ⊎ (IsUtf8 line × EntryFault (fields_of line) why)
