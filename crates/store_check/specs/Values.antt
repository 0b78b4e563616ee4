-- Which value of which map is right.
-- docs/FILES.md, "Buckets, and the eight maps": maps 0 to 2 are what is kept of objects. What the others have for a key follows from these:
-- who lists what, and the rows that an import of the objects makes.
use Rattle.std.specs.Prelude.{◌≡◌, ◌≢◌, ◌<◌, ℕ, List, [], ◌∷◌, true, Option, None, Some, IfSome}
use Rattle.std.specs.FinMap as finite
use Rattle.std.specs.List.{AllByRecursion, slice_get}
use Rattle.std.specs.Option.{option_map, unwrap_or}
use Rattle.std.specs.Ordering.{nat_cmp}
use Rattle.osm_base.specs.declared.values.key.Kind.{Kind}
use Rattle.osm_base.specs.declared.values.key.Kind.TheVariants as kinds
use Rattle.osm_base.specs.declared.values.object.Object.{Object}
use Rattle.osm_base.specs.declared.values.object.Object.TheVariants.{Node}
use Rattle.osm_base.specs.declared.values.row.Geometry.TheVariants.{Point}
use Rattle.osm_base.specs.declared.values.row.TableRow.{TableRow}
use Rattle.osm_base.specs.map.Listers.{listed}
use Rattle.osm_base.specs.map.Objects.{ObjectSet}
use Rattle.osm_base.specs.values.Key.{IsId, KeyOf}
use Rattle.osm_base.specs.values.Place.{PlaceOf}
use Rattle.osm_base.specs.values.Tags.{TagMap}
use Rattle.style_read.specs.Style.{StyleOf}
use Rattle.style_read.specs.declared.style.Source.TheVariants as sources
use Rattle.style_read.specs.declared.style.TableDef.{TableDef}
use Rattle.value_bytes.specs.Maps.{Decodes, ReadAs}
use Rattle.value_bytes.specs.Nodes.{record_bytes, IsRecord}
use Rattle.value_bytes.specs.Objects.{object_bytes, IsStored}
use Rattle.value_bytes.specs.StoreMap.{map_number}
use Rattle.value_bytes.specs.declared.nodes.NodeRecord.{NodeRecord}
use Rattle.value_bytes.specs.declared.store_map.StoreMap.{StoreMap}
use Rattle.value_bytes.specs.declared.store_map.StoreMap.TheVariants as stored
use Rattle.bucket_store.specs.Image.{Image}
use Rattle.row_store.specs.Rows.{rows_bytes, AreRows}
use Rattle.row_store.specs.Loading.{key_of}
use Rattle.row_rules.specs.Condition.{reaches_nodes}
use Rattle.row_rules.specs.Rows.{rows_in}
use Rattle.store_maps.specs.Maps.{kept_rows, unless_empty}
use Rattle.store_maps.specs.Turns.{blocks_in, told_by}
use Rattle.back_index.specs.Filling.{IsKeptAt}

-- what is kept of nodes, and ways or relations, each by its id
abbrev pub NodeMap : Type 0
NodeMap = finite.FinMap nat_cmp NodeRecord

abbrev pub ObjectMap : Type 0
ObjectMap = finite.FinMap nat_cmp Object

-- a node that is kept so; one with unknown tags stands with none
abbrev pub bare : NodeRecord → Object
bare own = Node own.place (unwrap_or own.tags finite.empty)

abbrev pub itself : Object → Object
itself object = object

-- objects of one kind, each under its id, beside others
abbrev pub put_all : {X : Type 0} → Kind → (X → Object) → ObjectSet → List (ℕ × X) → ObjectSet
put_all kind form rest [] = rest
put_all kind form rest (one ∷ entries) = finite.insert (put_all kind form rest entries) (record { kind = kind; id = one.0 }) (form one.1)

-- the objects that nodes, ways and relations are
unfoldable pub objects_of : NodeMap → (ways relations : ObjectMap) → ObjectSet
objects_of nodes ways relations =
    put_all kinds.Node bare
    (put_all kinds.Way itself (put_all kinds.Relation itself finite.empty (finite.entries relations)) (finite.entries ways))
    (finite.entries nodes)

-- what a map of objects has for a key is absent, or it is the spelling of a value, and the key is an id
abbrev pub IsSpelledAt : {V : Type 0} → (V → List ℕ) → (V → Type 0) → Option (List ℕ) → ℕ → Type 0
IsSpelledAt spell Is None key = Unit {0}
IsSpelledAt {V} spell Is (Some bytes) key = IsId key × ((value : V) × Is value × (bytes ≡ spell value))

-- a record of a node, whose tags are known where the selections of the style ask for them
pub record IsKnownRecord (style : StyleOf) (own : NodeRecord) : Type 0 where
  pub is : IsRecord own
  pub known : reaches_nodes style ≡ true → own.tags ≢ None

-- maps 0 to 2 read as these nodes, ways and relations, and as no others
pub record ReadsObjects (image : Image) (nodes : NodeMap) (ways relations : ObjectMap) : Type 0 where
  pub nodes_read : (id : ℕ) → ReadAs record_bytes IsRecord (finite.get (image.maps (map_number stored.Nodes)) id) (finite.get nodes id)
  pub ways_read : (id : ℕ)
      → ReadAs object_bytes (IsStored kinds.Way) (finite.get (image.maps (map_number stored.Ways)) id) (finite.get ways id)
  pub relations_read : (id : ℕ)
      → ReadAs object_bytes (IsStored kinds.Relation) (finite.get (image.maps (map_number stored.Relations)) id) (finite.get relations id)

-- a row of a node whose tags nobody knows: it stands in a table of nodes, at the place of the node
pub record IsPlaced (tables : List TableDef) (place : Option PlaceOf) (row : TableRow) : Type 0 where
  pub table : IfSome (slice_get tables row.table) (λ own. own.source ≡ sources.Node)
  pub here : option_map Point place ≡ Some row.row.geometry

-- of a node the first where nobody knows its tags, by its place, and else the second; of all else the second too
abbrev pub ByTags : Option TagMap → Type 0 → Type 0 → Type 0
ByTags None Unknown Known = Unknown
ByTags (Some tags) Unknown Known = Known

abbrev pub IfUnknown : Option NodeRecord → (Option PlaceOf → Type 0) → Type 0 → Type 0
IfUnknown None Unknown Known = Known
IfUnknown (Some own) Unknown Known = ByTags own.tags (Unknown own.place) Known

-- the record of a key, where it is that of a node
abbrev pub record_at : NodeMap → KeyOf → Option NodeRecord
record_at nodes key = elim key.kind as (λ _. Option NodeRecord) [ kinds.Node ↦ finite.get nodes key.id | _ ↦ None ]

-- these rows of a key are those of an import of the objects. Of a node whose tags nobody knows no more is known than its place.
abbrev pub AreRightRows : StyleOf → NodeMap → ObjectSet → KeyOf → Option (List TableRow) → Type 0
AreRightRows style nodes objects key rows = IfUnknown (record_at nodes key)
    (λ place. AllByRecursion (IsPlaced style.tables place) (kept_rows rows))
    (rows ≡ unless_empty (rows_in style objects key))

-- what a map of rows has for a key is absent, or it is the spelling of rows, and these are right
pub record HasRightBytes (style : StyleOf) (image : Image) (nodes : NodeMap) (objects : ObjectSet) (map : StoreMap) (key : ℕ) : Type 0 where
  pub rows : Option (List TableRow)
  pub read : Decodes rows_bytes (AreRows style.tables) (finite.get (image.maps (map_number map)) key) rows
  pub right : AreRightRows style nodes objects (key_of (map_number map) key) rows

-- what a map has for a key is right. What maps 0 to 2 read as is told for the others: the nodes, and all objects.
abbrev pub IsRight : StyleOf → Image → NodeMap → ObjectSet → StoreMap → (key : ℕ) → Type 0
IsRight style image nodes objects stored.Nodes key =
    IsSpelledAt record_bytes (IsKnownRecord style) (finite.get (image.maps (map_number stored.Nodes)) key) key
IsRight style image nodes objects stored.Ways key =
    IsSpelledAt object_bytes (IsStored kinds.Way) (finite.get (image.maps (map_number stored.Ways)) key) key
IsRight style image nodes objects stored.Relations key =
    IsSpelledAt object_bytes (IsStored kinds.Relation) (finite.get (image.maps (map_number stored.Relations)) key) key
IsRight style image nodes objects stored.WaysOfBlocks key =
    IsKeptAt (told_by kinds.Way blocks_in objects) (image.maps (map_number stored.WaysOfBlocks)) key
IsRight style image nodes objects stored.RelationsOfNodes key =
    IsKeptAt (told_by kinds.Relation (listed kinds.Node) objects) (image.maps (map_number stored.RelationsOfNodes)) key
IsRight style image nodes objects stored.RelationsOfWays key =
    IsKeptAt (told_by kinds.Relation (listed kinds.Way) objects) (image.maps (map_number stored.RelationsOfWays)) key
IsRight style image nodes objects stored.NodeRows key = HasRightBytes style image nodes objects stored.NodeRows key
IsRight style image nodes objects stored.OtherRows key = HasRightBytes style image nodes objects stored.OtherRows key

-- each value of each map is
abbrev pub AreRight : StyleOf → Image → NodeMap → ObjectSet → Type 0
AreRight style image nodes objects = (map : StoreMap) (key : ℕ) → IsRight style image nodes objects map key

-- the least value that is not right: of the least map, and there of the least key
pub record IsLeastWrong (style : StyleOf) (image : Image) (nodes : NodeMap) (objects : ObjectSet) (map : StoreMap) (key : ℕ) : Type 0 where
  pub maps_before : (other : StoreMap) → map_number other < map_number map → (own : ℕ) → IsRight style image nodes objects other own
  pub keys_before : (own : ℕ) → own < key → IsRight style image nodes objects map own
  pub wrong : ¬ IsRight style image nodes objects map key
