-- What reading a value of maps 0 to 2 finds, and what is held after it.
use Rattle.std.specs.Prelude.{◌≡◌, ◌≢◌, ◌⊎◌, ◌<◌, ℕ, Bool, true, List, Option, None, Some}
use Rattle.std.specs.FinMap as finite
use Rattle.std.specs.List.{AllByRecursion}
use Rattle.std.specs.Option.{option_map}
use Rattle.osm_base.specs.declared.values.key.Kind.{Kind}
use Rattle.osm_base.specs.declared.values.key.Kind.TheVariants as kinds
use Rattle.osm_base.specs.map.Objects.{place_in}
use Rattle.osm_base.specs.values.Key.{IsId, relation_key}
use Rattle.osm_base.specs.values.Place.{PlaceOf}
use Rattle.value_bytes.specs.Forms.{Spells}
use Rattle.value_bytes.specs.Maps.{ReadAs}
use Rattle.value_bytes.specs.Nodes.{record_bytes, IsRecord}
use Rattle.value_bytes.specs.Objects.{object_bytes, IsStored}
use Rattle.value_bytes.specs.StoreMap.{map_number}
use Rattle.value_bytes.specs.declared.nodes.NodeRecord.{NodeRecord}
use Rattle.value_bytes.specs.declared.store_map.StoreMap.{StoreMap}
use Rattle.value_bytes.specs.declared.store_map.StoreMap.TheVariants as stored
use Rattle.bucket_store.specs.Image.{Image}
use Rattle.store_check.specs.declared.wrong.Wrong.{Wrong}
use Rattle.store_check.specs.Held.{HeldOf}
use Rattle.store_check.specs.Values.{IsSpelledAt, bare}

-- a record of a node, whose tags are known where they are asked for
pub record IsKnownIf (asked : Bool) (own : NodeRecord) : Type 0 where
  pub is : IsRecord own
  pub known : asked ≡ true → own.tags ≢ None

-- the bytes of a key are those of this value and of no other, and the key is an id
pub record IsRightValue {V : Type 0} (spell : V → List ℕ) (Reads Is : V → Type 0) (key : ℕ) (bytes : List ℕ) (value : V) : Type 0 where
  pub id : IsId key
  pub spells : Spells spell Reads bytes value
  pub is : Is value

-- so they are, or they are not right
abbrev pub FindsRight : {V : Type 0} → (V → List ℕ) → (Reads Is : V → Type 0) → ℕ → List ℕ → Option V → Type 0
FindsRight spell Reads Is key bytes None = ¬ IsSpelledAt spell Is (Some bytes) key
FindsRight spell Reads Is key bytes (Some value) = IsRightValue spell Reads Is key bytes value

-- the map of the objects of a kind
abbrev pub map_for : Kind → StoreMap
map_for kinds.Node = stored.Nodes
map_for kinds.Way = stored.Ways
map_for kinds.Relation = stored.Relations

abbrev pub bytes_in : Image → Kind → ℕ → Option (List ℕ)
bytes_in image kind key = finite.get (image.maps (map_number (map_for kind))) key

-- what the map of a kind has for a key is right
abbrev pub IsRightAt : (asked : Bool) → Kind → ℕ → Option (List ℕ) → Type 0
IsRightAt asked kinds.Node key bytes = IsSpelledAt record_bytes (IsKnownIf asked) bytes key
IsRightAt asked kinds.Way key bytes = IsSpelledAt object_bytes (IsStored kinds.Way) bytes key
IsRightAt asked kinds.Relation key bytes = IsSpelledAt object_bytes (IsStored kinds.Relation) bytes key

abbrev pub IsRightOf : (asked : Bool) → Image → Kind → ℕ → Type 0
IsRightOf asked image kind key = IsRightAt asked kind key (bytes_in image kind key)

-- a node with these bytes, if there are any, has this place
pub record HasPlaceOf (bytes : Option (List ℕ)) (place : Option PlaceOf) : Type 0 where
  pub found : Option NodeRecord
  pub read : ReadAs record_bytes IsRecord bytes found
  pub place_is : place ≡ place_in (option_map bare found)

-- what is held for a key of a kind is what the map has for it; nothing is; and the same is as before
abbrev pub IsHeldFor : Kind → Option (List ℕ) → ℕ → HeldOf → Type 0
IsHeldFor kinds.Node bytes key own = HasPlaceOf bytes (finite.get own.places key)
IsHeldFor kinds.Way bytes key own = ReadAs object_bytes (IsStored kinds.Way) bytes (finite.get own.ways key)
IsHeldFor kinds.Relation bytes key own = ReadAs object_bytes (IsStored kinds.Relation) bytes (finite.get own.relations key)

abbrev pub IsHeldAt : Image → Kind → ℕ → HeldOf → Type 0
IsHeldAt image kind key own = IsHeldFor kind (bytes_in image kind key) key own

abbrev pub IsAbsentAt : Kind → ℕ → HeldOf → Type 0
IsAbsentAt kinds.Node key own = finite.get own.places key ≡ None
IsAbsentAt kinds.Way key own = finite.get own.ways key ≡ None
IsAbsentAt kinds.Relation key own = finite.get own.relations key ≡ None

abbrev pub IsSameAt : Kind → ℕ → (old new : HeldOf) → Type 0
IsSameAt kinds.Node key old new = finite.get new.places key ≡ finite.get old.places key
IsSameAt kinds.Way key old new = finite.get new.ways key ≡ finite.get old.ways key
IsSameAt kinds.Relation key old new = finite.get new.relations key ≡ finite.get old.relations key

-- nothing else is held, and the relations are held twice
pub record IsPartOf (image : Image) (own : HeldOf) : Type 0 where
  pub each : (kind : Kind) (key : ℕ) → IsAbsentAt kind key own ⊎ IsHeldAt image kind key own
  pub members : (id : ℕ) → finite.get own.members (relation_key id) ≡ finite.get own.relations id

-- nothing wrong comes, what is held stays, and the right values of these keys of a map are held then
pub record Takes (asked : Bool) (image : Image) (kind : Kind) (Part : ℕ → Type 0) (old new : HeldOf) : Type 0 where
  pub part_of : IsPartOf image old → IsPartOf image new
  pub keeps : (other : Kind) (key : ℕ) → IsHeldAt image other key old → IsHeldAt image other key new
  pub gives : IsPartOf image old → (key : ℕ) → Part key → IsRightOf asked image kind key → IsHeldAt image kind key new

-- the records are those of the map of a kind
abbrev pub AreIn : Image → Kind → List (ℕ × List ℕ) → Type 0
AreIn image kind records = AllByRecursion (λ one. bytes_in image kind one.0 ≡ Some one.1) records

-- all values of maps 0 to 2 are right, and held
pub record JudgesAll (asked : Bool) (image : Image) (old new : HeldOf) : Type 0 where
  pub right : (kind : Kind) (key : ℕ) → IsRightOf asked image kind key
  pub part_of : IsPartOf image old → IsPartOf image new
  pub held : IsPartOf image old → (kind : Kind) (key : ℕ) → IsHeldAt image kind key new

-- this is the first that is not right
pub record IsFirstOf (asked : Bool) (image : Image) (own : Wrong) : Type 0 where
  pub kind : Kind
  pub map_is : own.map ≡ map_for kind
  pub maps_before : (other : Kind) → map_number (map_for other) < map_number (map_for kind) → (key : ℕ) → IsRightOf asked image other key
  pub keys_before : (key : ℕ) → key < own.key → IsRightOf asked image kind key
  pub wrong : ¬ IsRightOf asked image kind own.key

abbrev pub Judges : (asked : Bool) → Image → (old new : HeldOf) → Option Wrong → Type 0
Judges asked image old new None = JudgesAll asked image old new
Judges asked image old new (Some own) = IsFirstOf asked image own
