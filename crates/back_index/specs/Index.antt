-- The index of a store: who lists a node or a way.
-- osm2pgsql manual, "Updating an Existing Database": a way is processed again when a node of it changes, and a relation
-- when a node or a way that is a member of it changes. Ways are kept by blocks of nodes, and a way of a node's block is
-- then looked at for its nodes; relations are kept by each node and by each way.
use Rattle.std.specs.Prelude.{◌≡◌, ◌≢◌, ◌⊎◌, ◌≤◌, ◌||◌, ℕ, Bool, true, false, nat_eq, List, ◌++◌, Option, None, Some}
use Rattle.std.specs.FinMap as finite
use Rattle.std.specs.List.{AllByRecursion}
use Rattle.osm_base.specs.declared.values.key.Kind.TheVariants as kinds
use Rattle.osm_base.specs.declared.values.object.Object.{Object}
use Rattle.osm_base.specs.map.Known.{Index, Question, WaysOfNode}
use Rattle.osm_base.specs.values.Ids.{has}
use Rattle.osm_base.specs.values.Key.{KeyOf}
use Rattle.outside.specs.Causes.{Rose}
use Rattle.outside.specs.declared.disk.Disk.{Ghosts}
use Rattle.page_journal.specs.Journal.{is_broken}
use Rattle.page_journal.specs.declared.fault.StoreFault.{StoreFault}
use Rattle.page_journal.specs.declared.fault.StoreFault.TheVariants.{BadStore, DiskFault, OutOfMemory}
use Rattle.chain_store.specs.Chains.{OnlyRead, disk_of, journal_of}
use Rattle.bucket_store.specs.Buckets.{bucket_count}
use Rattle.bucket_store.specs.Image.{Has, Image}
use Rattle.bucket_store.specs.Transaction.{chains_of, has_refused}
use Rattle.bucket_store.specs.declared.buckets.Buckets.{Buckets}
use Rattle.value_bytes.specs.Forms.{IsAtFront, IsFrontless}
use Rattle.value_bytes.specs.Lists.{list_bytes, IsList}
use Rattle.value_bytes.specs.Maps.{HoldsMap}
use Rattle.value_bytes.specs.Numbers.{number_bytes, IsNumber}
use Rattle.value_bytes.specs.Objects.{object_bytes, IsStored}
use Rattle.store_maps.specs.Asked.{May, MayAnswer}
use Rattle.store_maps.specs.Maps.{Maps}
use Rattle.store_maps.specs.Named.{index_on}
use Rattle.store_maps.specs.Turns.{ids_for}
use Rattle.value_bytes.specs.StoreMap.{map_number}
use Rattle.value_bytes.specs.declared.store_map.StoreMap.{StoreMap}
use Rattle.value_bytes.specs.declared.store_map.StoreMap.TheVariants.{Ways, WaysOfBlocks, RelationsOfNodes, RelationsOfWays}
use Rattle.back_index.specs.Calls.{page_in}
use Rattle.back_index.specs.Ids.{ids_bytes, AreListed}
use Rattle.back_index.specs.Listed.{ids_in, lister_in}
use Rattle.back_index.specs.Reads.{HasReadOnly, ReadsBuckets}
use Rattle.back_index.specs.Relisting.{IsUnread, ReadsIds, Turns}
use Rattle.back_index.specs.Visits.{Refuses, visits}
use Rattle.back_index.specs.declared.visit.Visit.{Visit}

-- what a map of the index is told of an object
abbrev pub listed_for : StoreMap → KeyOf → Option Object → List ℕ
listed_for own key object = ids_for (lister_in own) (ids_in own) key.kind object

-- of one map the lists are turned from the one form of an object to the other
abbrev pub TurnsMap : StoreMap → KeyOf → Option Object → Option Object → Image → Image → Type 0
TurnsMap own key old new now after =
    Turns key.id (listed_for own key old) (listed_for own key new) (now.maps (map_number own)) (after.maps (map_number own))

-- the store's index is turned from the one form of an object to the other, and all else is as before
pub record Relists (key : KeyOf) (old new : Option Object) (now after : Image) : Type 0 where
  pub root : after.root ≡ now.root
  pub texts : (n : ℕ) → after.texts n ≡ now.texts n
  pub maps : (m : ℕ) → m ≢ map_number WaysOfBlocks → m ≢ map_number RelationsOfNodes → m ≢ map_number RelationsOfWays
      → after.maps m ≡ now.maps m
  pub ways_of_blocks : TurnsMap WaysOfBlocks key old new now after
  pub relations_of_nodes : TurnsMap RelationsOfNodes key old new now after
  pub relations_of_ways : TurnsMap RelationsOfWays key old new now after

-- the lists that are visited for this, in their order
abbrev pub visits_for : StoreMap → KeyOf → Option Object → Option Object → List Visit
visits_for own key old new = visits own (listed_for own key old) (listed_for own key new)

abbrev pub all_visits : KeyOf → Option Object → Option Object → List Visit
all_visits key old new = visits_for WaysOfBlocks key old new
    ++ (visits_for RelationsOfNodes key old new ++ visits_for RelationsOfWays key old new)

-- the store's index is that of these maps
pub record HoldsIndex (image : Image) (maps : Maps) : Type 0 where
  pub ways_of_blocks : HoldsMap ids_bytes AreListed (image.maps (map_number WaysOfBlocks)) maps.ways_of_blocks
  pub relations_of_nodes : HoldsMap ids_bytes AreListed (image.maps (map_number RelationsOfNodes)) maps.relations_of_nodes
  pub relations_of_ways : HoldsMap ids_bytes AreListed (image.maps (map_number RelationsOfWays)) maps.relations_of_ways

-- its ways are those of these maps
abbrev pub HoldsWays : Image → Maps → Type 0
HoldsWays image maps = HoldsMap object_bytes (IsStored kinds.Way) (image.maps (map_number Ways)) maps.ways

-- a store within a transaction answers by this index
pub record Knows {D : Type 0} {g : Ghosts D} (buckets : Buckets D g) (index : Index) : Type 0 where
  pub rest : Image
  pub now : Image
  pub has_it : Has rest now buckets
  pub maps : Maps
  pub listings : HoldsIndex now maps
  pub ways : HoldsWays now maps
  pub index_is : index ≡ index_on maps

-- the nodes at the front of what is kept of a way
abbrev pub HasNodes : Option (List ℕ) → List ℕ → Type 0
HasNodes None nodes = ⊥
HasNodes (Some bytes) nodes = IsAtFront (list_bytes number_bytes) (IsList IsNumber) bytes nodes

-- each of these ways is there and begins with its nodes
abbrev pub AreThere : Image → List ℕ → Type 0
AreThere now ways = AllByRecursion (λ way. (nodes : List ℕ) × HasNodes (finite.get (now.maps (map_number Ways)) way) nodes) ways

-- the list of a node's block reads, and each way in it is there
abbrev pub HasWays : Image → ℕ → Type 0
HasWays now block = (ways : List ℕ) × ReadsIds (finite.get (now.maps (map_number WaysOfBlocks)) block) ways × AreThere now ways

-- there are none
abbrev pub IsNodeless : Option (List ℕ) → Type 0
IsNodeless None = Unit {0}
IsNodeless (Some bytes) = IsFrontless (list_bytes number_bytes) (IsList IsNumber) bytes

-- no index may be asked: the transaction has refused a call, an earlier call met a disk fault, or the maps have no buckets
abbrev pub is_spent : {D : Type 0} {g : Ghosts D} → Buckets D g → Bool
is_spent buckets = has_refused buckets || (is_broken (journal_of (chains_of buckets)) || nat_eq (bucket_count (chains_of buckets)) 0)

-- a map of the index
abbrev pub IsIndexMap : StoreMap → Type 0
IsIndexMap own = (own ≡ WaysOfBlocks) ⊎ ((own ≡ RelationsOfNodes) ⊎ (own ≡ RelationsOfWays))

-- a list of the index is not read
pub record HasUnread {D : Type 0} {g : Ghosts D} (buckets : Buckets D g) (now : Image) (at : ℕ) : Type 0 where
  pub own : StoreMap
  pub id : ℕ
  pub is_index : IsIndexMap own
  pub unread : IsUnread (finite.get (now.maps (map_number own)) id)
  pub page_is : at ≡ page_in buckets (map_number own) id

-- a way that is said to list a node of a block is not there, or has no nodes
pub record HasNodeless {D : Type 0} {g : Ghosts D} (buckets : Buckets D g) (now : Image) (at : ℕ) : Type 0 where
  pub block : ℕ
  pub ids : List ℕ
  pub reads : ReadsIds (finite.get (now.maps (map_number WaysOfBlocks)) block) ids
  pub way : ℕ
  pub said : has ids way ≡ true
  pub none : ¬ ((nodes : List ℕ) × HasNodes (finite.get (now.maps (map_number Ways)) way) nodes)
  pub page_is : at ≡ page_in buckets (map_number WaysOfBlocks) block

-- the ways that list a node may be asked for, by the index that the transaction has
pub record MayWays {D : Type 0} {g : Ghosts D} (buckets : Buckets D g) (id : ℕ) (may : May) : Type 0 where
  pub rest : Image
  pub now : Image
  pub has_it : Has rest now buckets
  pub maps : Maps
  pub listings : HoldsIndex now maps
  pub allowed : MayAnswer may maps (WaysOfNode id)

-- the page of one of these
abbrev pub IsDamaged : {D : Type 0} {g : Ghosts D} → Buckets D g → Image → ℕ → Type 0
IsDamaged buckets now at = HasUnread buckets now at ⊎ HasNodeless buckets now at

-- a question may be refused so, where the disk had met so many faults before it
abbrev pub Causes : {D : Type 0} {g : Ghosts D} → Buckets D g → ℕ → StoreFault → Type 0
Causes buckets count (BadStore at) = is_broken (journal_of (chains_of buckets)) ≡ false
Causes buckets count DiskFault = Rose count (disk_of (chains_of buckets)).faults
Causes buckets count OutOfMemory = is_broken (journal_of (chains_of buckets)) ≡ false
Causes buckets count _ = ⊥

-- the last question that was refused was refused so
abbrev pub Bears : {D : Type 0} {g : Ghosts D} → Buckets D g → Option StoreFault → ℕ → StoreFault → Type 0
Bears buckets stopped count fault = (stopped ≡ Some fault) × Causes buckets count fault

-- these questions were asked: the store was only read, and but for a disk fault the transaction has what it had. The first that is
-- refused is the last, and a store that means something refuses it for the disk, for want of memory, or for damage.
-- Of the index no more was read than answers them.
pub record Asked {D : Type 0} {g : Ghosts D} (questions : List Question) (old : Buckets D g) (was : Option StoreFault) (new : Buckets D g)
    (stopped : Option StoreFault) : Type 0 where
  pub stays : OnlyRead (chains_of old) (chains_of new)
  pub later : (disk_of (chains_of old)).faults ≤ (disk_of (chains_of new)).faults
  pub broken : is_broken (journal_of (chains_of old)) ≡ true → is_broken (journal_of (chains_of new)) ≡ true
  pub has_still : is_broken (journal_of (chains_of new)) ≡ false → (rest now : Image) → Has rest now old → Has rest now new
  pub whole : has_refused new ≡ false → is_broken (journal_of (chains_of new)) ≡ is_broken (journal_of (chains_of old))
  pub refused : has_refused old ≡ true → has_refused new ≡ true
  pub kept : has_refused old ≡ true → stopped ≡ was
  pub going : has_refused new ≡ false → stopped ≡ was
  pub why : has_refused old ≡ false → has_refused new ≡ true → (fault : StoreFault) → stopped ≡ Some fault → (rest now : Image)
      → Has rest now old
      → Refuses (IsDamaged old now) fault
  pub reads : has_refused new ≡ false → ReadsBuckets old new
  pub within : (rest now : Image) → Has rest now old → (maps : Maps) → HoldsIndex now maps → (may : May)
      → AllByRecursion (MayAnswer may maps) questions
      → HasReadOnly may old → HasReadOnly may new
