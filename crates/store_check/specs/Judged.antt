-- What judging the rows of a store finds, key by key.
-- docs/FILES.md, "Buckets, and the eight maps": the rows of a node stand in a map of their own, those of ways and relations in another.
use Rattle.std.specs.Prelude.{◌≡◌, ◌⊎◌, ◌+◌, ◌*◌, ◌/◌, ◌%◌, ◌<◌, ℕ, nat_eq, Bool, true, false, if◌then◌else◌, List, Option, None, Some, IfSome, IsSome}
use Rattle.std.specs.FinMap as finite
use Rattle.std.proofs.Props.{props}
use Rattle.std.specs.List.{AllByRecursion}
use Rattle.osm_base.specs.declared.values.key.Kind.{Kind}
use Rattle.osm_base.specs.declared.values.key.Kind.TheVariants as kinds
use Rattle.osm_base.specs.declared.values.object.Object.{Object}
use Rattle.osm_base.specs.declared.values.row.TableRow.{TableRow}
use Rattle.osm_base.specs.map.Known.{Known}
use Rattle.osm_base.specs.map.Objects.{ObjectSet}
use Rattle.osm_base.specs.values.Key.{KeyOf}
use Rattle.osm_base.specs.values.Place.{PlaceOf}
use Rattle.style_read.specs.Style.{StyleOf}
use Rattle.style_read.specs.declared.style.TableDef.{TableDef}
use Rattle.object_fold.specs.Listings.{HasIds}
use Rattle.value_bytes.specs.Maps.{Decodes}
use Rattle.value_bytes.specs.StoreMap.{map_number}
use Rattle.value_bytes.specs.declared.nodes.NodeRecord.{NodeRecord}
use Rattle.value_bytes.specs.declared.store_map.StoreMap.{StoreMap}
use Rattle.value_bytes.specs.declared.store_map.StoreMap.TheVariants as stored
use Rattle.bucket_store.specs.Image.{Image}
use Rattle.row_rules.specs.Rows.{rows_known}
use Rattle.row_store.specs.Loading.{Among, key_of}
use Rattle.row_store.specs.Rows.{AreRows, rows_bytes}
use Rattle.store_maps.specs.Maps.{kept_rows, unless_empty}
use Rattle.store_check.specs.Held.{HeldOf, IsHeldOf, held_known}
use Rattle.store_check.specs.Values.{ByTags, IsPlaced, NodeMap, ObjectMap, ReadsObjects, bare, objects_of}
use Rattle.store_check.specs.Wrong.{IsRightIn}

-- what is known of the objects that are held, and of one node beside them: of the other nodes no more than their places
abbrev pub known_with : HeldOf → Option Object → Known
known_with own node = record {
  place = (held_known own).place;
  object = λ key. elim key.kind as (λ _. Option Object) [ kinds.Node ↦ node | _ ↦ (held_known own).object key ];
  relations_of_way = (held_known own).relations_of_way;
  relations_of_node = (held_known own).relations_of_node;
}

-- these are the bytes of these rows, and there are none where there are no rows
abbrev pub IsSpellingOf : List TableDef → List TableRow → Option (List ℕ) → Type 0
IsSpellingOf tables rows kept = Decodes rows_bytes (AreRows tables) kept (unless_empty rows)

-- these are the bytes of rows of a node at this place
abbrev pub AreAtPlace : List TableDef → Option PlaceOf → Option (List ℕ) → Type 0
AreAtPlace tables place kept = (rows : Option (List TableRow)) × Decodes rows_bytes (AreRows tables) kept rows
    × AllByRecursion (IsPlaced tables place) (kept_rows rows)

-- these are the bytes of the rows of a node that is kept so
abbrev pub IsRightNode : StyleOf → HeldOf → KeyOf → Option (List ℕ) → NodeRecord → Type 0
IsRightNode style own key kept node = ByTags node.tags (AreAtPlace style.tables node.place kept)
    (IsSpellingOf style.tables (rows_known style (known_with own (Some (bare node))) key) kept)

-- the map of rows that goes with a map of objects, or this map itself
abbrev pub rows_map : StoreMap → StoreMap
rows_map stored.Nodes = stored.NodeRows
rows_map stored.NodeRows = stored.NodeRows
rows_map _ = stored.OtherRows

-- the maps whose keys are asked for the rows in a map
abbrev pub GoesWith : (map source : StoreMap) → Type 0
GoesWith stored.NodeRows stored.Nodes = Unit {0}
GoesWith stored.NodeRows stored.NodeRows = Unit {0}
GoesWith stored.OtherRows stored.Ways = Unit {0}
GoesWith stored.OtherRows stored.Relations = Unit {0}
GoesWith stored.OtherRows stored.OtherRows = Unit {0}
GoesWith _ _ = ⊥

-- a map is one of these in one way at most
pub GoesWith-prop : (source : StoreMap) → IsProp (GoesWith (rows_map source) source)
GoesWith-prop stored.Nodes = hlevel props
GoesWith-prop stored.Ways = hlevel props
GoesWith-prop stored.Relations = hlevel props
GoesWith-prop stored.WaysOfBlocks = hlevel props
GoesWith-prop stored.RelationsOfNodes = hlevel props
GoesWith-prop stored.RelationsOfWays = hlevel props
GoesWith-prop stored.NodeRows = hlevel props
GoesWith-prop stored.OtherRows = hlevel props

-- the kind of the objects of a map, and whether a map has the rows of nodes
abbrev pub kind_kept : StoreMap → Option Kind
kind_kept stored.Nodes = Some kinds.Node
kind_kept stored.Ways = Some kinds.Way
kind_kept stored.Relations = Some kinds.Relation
kind_kept _ = None

abbrev pub is_node_rows : StoreMap → Bool
is_node_rows stored.NodeRows = true
is_node_rows _ = false

-- the key there of the rows of an object with this id, or this key itself
abbrev pub rows_key : StoreMap → ℕ → ℕ
rows_key stored.Ways id = 2 * id
rows_key stored.Relations id = 2 * id + 1
rows_key _ id = id

-- what the keys of a map are asked for: those of a map of rows are where they have no object
abbrev pub IsAsked : ObjectSet → StoreMap → ℕ → Type 0
IsAsked objects stored.NodeRows number = finite.get objects (key_of (map_number stored.NodeRows) number) ≡ None
IsAsked objects stored.OtherRows number = finite.get objects (key_of (map_number stored.OtherRows) number) ≡ None
IsAsked objects _ number = Unit {0}

-- the way or the relation whose rows have this key, of those that are held
abbrev pub other_at : HeldOf → ℕ → Option Object
other_at own number = if nat_eq (number % 2) 0 then finite.get own.ways (number / 2) else finite.get own.relations (number / 2)

-- maps 0 to 2 of a store read as these objects, which have ids, and this is held of them
pub record Tells (own : HeldOf) (image : Image) (nodes : NodeMap) (ways relations : ObjectMap) : Type 0 where
  pub read : ReadsObjects image nodes ways relations
  pub held : IsHeldOf nodes ways relations own
  pub ids : HasIds (objects_of nodes ways relations)

-- a key of a map of rows was found wrong, or, if it was asked for, it is right
abbrev pub IsFound : (Is : ℕ → Type 0) → (Asked : Type 0) → ℕ → Option ℕ → Type 0
IsFound Is Asked key None = Asked → Is key
IsFound Is Asked key (Some own) = (own ≡ key) × ¬ Is key

-- a key below the least wrong one that was found, if one was
abbrev pub IsBelow : Option ℕ → ℕ → Type 0
IsBelow None key = Unit {0}
IsBelow (Some least) key = key < least

-- what was found is wrong, and of a part of the keys all below it are right
pub record Sees (Is : ℕ → Type 0) (Asked Part : StoreMap → ℕ → Type 0) (old new : Option ℕ) : Type 0 where
  pub wrong : IfSome old (λ key. ¬ Is key) → IfSome new (λ key. ¬ Is key)
  pub lower : (key : ℕ) → IsBelow new key → IsBelow old key
  pub seen : (source : StoreMap) (number : ℕ) → Part source number → Asked source number → IsBelow new (rows_key source number)
      → Is (rows_key source number)

-- so it is with the rows of a store
abbrev pub SeesRows : StyleOf → Image → NodeMap → ObjectMap → ObjectMap → StoreMap → (StoreMap → ℕ → Type 0) → (old new : Option ℕ) → Type 0
SeesRows style image nodes ways relations map Part old new =
    Sees (IsRightIn style image nodes ways relations map) (IsAsked (objects_of nodes ways relations)) Part old new

-- so it is whatever objects maps 0 to 2 read as of which this is held
abbrev pub SeesHeld : StyleOf → HeldOf → Image → StoreMap → (StoreMap → ℕ → Type 0) → (old new : Option ℕ) → Type 0
SeesHeld style own image map Part old new = (nodes : NodeMap) (ways relations : ObjectMap) → Tells own image nodes ways relations
    → SeesRows style image nodes ways relations map Part old new

-- one key of a map; those of records; those of a bucket; those of a bucket of ways and one of relations; those of a bucket of each map
-- that goes with a map of rows; and those of all buckets below one
abbrev pub IsOne : StoreMap → ℕ → StoreMap → ℕ → Type 0
IsOne own key source number = (own ≡ source) × (key ≡ number)

abbrev pub IsAmong : StoreMap → List (ℕ × List ℕ) → StoreMap → ℕ → Type 0
IsAmong own records source number = (own ≡ source) × Among records number

abbrev pub IsOfBucket : StoreMap → Image → ℕ → StoreMap → ℕ → Type 0
IsOfBucket own image bucket source number = (own ≡ source) × IsSome (finite.get (image.maps (map_number source)) number)
    × (number % image.root.buckets ≡ bucket % image.root.buckets)

abbrev pub IsOfBoth : Image → ℕ → StoreMap → ℕ → Type 0
IsOfBoth image bucket source number =
    IsOfBucket stored.Ways image bucket source number ⊎ IsOfBucket stored.Relations image bucket source number

abbrev pub IsOfBuckets : StoreMap → Image → ℕ → StoreMap → ℕ → Type 0
IsOfBuckets map image bucket source number = GoesWith map source × IsSome (finite.get (image.maps (map_number source)) number)
    × (number % image.root.buckets ≡ bucket % image.root.buckets)

abbrev pub IsBefore : StoreMap → Image → ℕ → StoreMap → ℕ → Type 0
IsBefore map image bucket source number = GoesWith map source × IsSome (finite.get (image.maps (map_number source)) number)
    × (number % image.root.buckets < bucket)
