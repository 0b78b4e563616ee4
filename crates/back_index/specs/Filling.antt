-- The lists of a store that has none, out of what the objects of entries tell.
use Rattle.std.specs.Prelude.{◌≡◌, ◌≢◌, ◌≤◌, ℕ, ◌&&◌, true, List, nat_eq, None}
use Rattle.std.specs.FinMap as finite
use Rattle.std.specs.List.{AllByRecursion, list_any}
use Rattle.osm_base.specs.declared.values.object.Entry.{Entry}
use Rattle.osm_base.specs.values.Ids.{AreRisingIds, has}
use Rattle.osm_base.specs.values.Key.{IsId}
use Rattle.bucket_records.specs.Records.{BucketMap}
use Rattle.bucket_store.specs.Image.{Has, Image}
use Rattle.store_maps.specs.Asked.{May}
use Rattle.outside.specs.declared.disk.Disk.{Ghosts}
use Rattle.bucket_store.specs.declared.buckets.Buckets.{Buckets}
use Rattle.store_maps.specs.Turns.{Told}
use Rattle.value_bytes.specs.StoreMap.{map_number}
use Rattle.value_bytes.specs.declared.store_map.StoreMap.{StoreMap}
use Rattle.value_bytes.specs.declared.store_map.StoreMap.TheVariants.{WaysOfBlocks, RelationsOfNodes, RelationsOfWays}
use Rattle.back_index.specs.Listed.{map_told}
use Rattle.back_index.specs.Relisting.{kept_list}
use Rattle.back_index.specs.Visits.{OnlyMap}
use Rattle.back_index.specs.declared.mentions.Mention.{Mention}

-- the id that is listed
abbrev pub id_of : Mention → ℕ
id_of mention = mention.id

-- whether an id is told to be listed by that one
abbrev pub is_told : Mention → Told
is_told mention id by = nat_eq mention.id id && nat_eq mention.own by

abbrev pub mentions_tell : List Mention → Told
mentions_tell mentions id by = list_any (λ (mention : Mention). is_told mention id by) mentions

-- what lists something has an id of objects
abbrev pub ByIds : Told → Type 0
ByIds told = (id by : ℕ) → told id by ≡ true → IsId by

abbrev pub AreIds : List ℕ → Type 0
AreIds ids = (id : ℕ) → has ids id ≡ true → IsId id

-- each list of a map that is told of may be asked
abbrev pub MayTold : May → ℕ → Told → Type 0
MayTold may which told = (id by : ℕ) → told id by ≡ true → may which id ≡ true

-- no list is kept
abbrev pub IsVoid : BucketMap → Type 0
IsVoid kept = (id : ℕ) → finite.get kept id ≡ None

-- the list of an id is kept: who is told to list it, rising
pub record IsKeptAt (told : Told) (kept : BucketMap) (id : ℕ) : Type 0 where
  pub ids : List ℕ
  pub rising : AreRisingIds ids
  pub same : (by : ℕ) → has ids by ≡ told id by
  pub list : finite.get kept id ≡ kept_list ids

-- each list of a map is
abbrev pub AreKept : Told → BucketMap → Type 0
AreKept told kept = (id : ℕ) → IsKeptAt told kept id

-- in the transaction the lists of this map, where it had none, are those that are told, and all else is as before
abbrev pub FillsMap : {D : Type 0} {g : Ghosts D} → StoreMap → Told → Buckets D g → Buckets D g → Type 0
FillsMap own told old new = (rest now : Image) → Has rest now old → (after : Image) × Has rest after new
    × OnlyMap (map_number own) now after × (IsVoid (now.maps (map_number own)) → AreKept told (after.maps (map_number own)))

-- in the order of their ids so much is told: each list but the last is kept, and of that one the ids are these
pub record MentionRuns (done : List Mention) (at : ℕ) (ids : List ℕ) (kept : BucketMap) : Type 0 where
  pub beside : (id : ℕ) → id ≢ at → IsKeptAt (mentions_tell done) kept id
  pub here : (by : ℕ) → has ids by ≡ mentions_tell done at by
  pub below : AllByRecursion (λ (mention : Mention). mention.id ≤ at) done

-- no list of the index is kept
pub record HasNoIndex (now : Image) : Type 0 where
  pub ways_of_blocks : IsVoid (now.maps (map_number WaysOfBlocks))
  pub relations_of_nodes : IsVoid (now.maps (map_number RelationsOfNodes))
  pub relations_of_ways : IsVoid (now.maps (map_number RelationsOfWays))

-- the store's index is what the objects of entries list, and all else is as before
pub record Fills (entries : List Entry) (now after : Image) : Type 0 where
  pub root : after.root ≡ now.root
  pub texts : (n : ℕ) → after.texts n ≡ now.texts n
  pub maps : (m : ℕ) → m ≢ map_number WaysOfBlocks → m ≢ map_number RelationsOfNodes → m ≢ map_number RelationsOfWays
      → after.maps m ≡ now.maps m
  pub ways_of_blocks : AreKept (map_told WaysOfBlocks entries) (after.maps (map_number WaysOfBlocks))
  pub relations_of_nodes : AreKept (map_told RelationsOfNodes entries) (after.maps (map_number RelationsOfNodes))
  pub relations_of_ways : AreKept (map_told RelationsOfWays entries) (after.maps (map_number RelationsOfWays))
