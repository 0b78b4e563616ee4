-- The lists that are visited where an object comes, goes or changes.
use Rattle.std.specs.Prelude.{◌≡◌, ◌≢◌, ℕ, List, ◌∷◌, ◌++◌, map, Option}
use Rattle.std.specs.List.{AllByRecursion}
use Rattle.std.specs.FinMap as finite
use Rattle.osm_base.specs.values.Ids.{has}
use Rattle.bucket_store.specs.Image.{Image}
use Rattle.page_journal.specs.declared.fault.StoreFault.{StoreFault}
use Rattle.page_journal.specs.declared.fault.StoreFault.TheVariants.{BadStore, DiskFault, OutOfMemory}
use Rattle.value_bytes.specs.StoreMap.{map_number}
use Rattle.value_bytes.specs.declared.store_map.StoreMap.{StoreMap}
use Rattle.back_index.specs.Relisting.{CanTurn, in_order}
use Rattle.back_index.specs.declared.visit.Visit.{Visit}

-- of a store all stays but one map
pub record OnlyMap (m : ℕ) (now after : Image) : Type 0 where
  pub root : after.root ≡ now.root
  pub texts : (n : ℕ) → after.texts n ≡ now.texts n
  pub maps : (k : ℕ) → k ≢ m → after.maps k ≡ now.maps k

-- and of that map all but the value of one key
pub record Sets (m key : ℕ) (value : Option (List ℕ)) (now after : Image) : Type 0 where
  pub only : OnlyMap m now after
  pub here : finite.get (after.maps m) key ≡ value
  pub beside : (other : ℕ) → other ≢ key → finite.get (after.maps m) other ≡ finite.get (now.maps m) other

-- the lists that are visited in one map, in their order
abbrev pub visit_of : StoreMap → List ℕ → List ℕ → ℕ → Visit
visit_of own old new id = record { map = own; id = id; was = has old id; is = has new id }

abbrev pub visits_at : StoreMap → List ℕ → List ℕ → List ℕ → List Visit
visits_at own old new ids = map (visit_of own old new) ids

abbrev pub visits : StoreMap → List ℕ → List ℕ → List Visit
visits own old new = visits_at own old new (in_order (old ++ new))

-- the list can be turned, in a store that means this
abbrev pub IsFine : Image → ℕ → Visit → Type 0
IsFine now own visit = (ids : List ℕ) × CanTurn visit.was own (finite.get (now.maps (map_number visit.map)) visit.id) ids

-- the first of these that is not so comes with this page
pub record StopsAt {X : Type 0} (Fine : X → Type 0) (page : X → ℕ) (things : List X) (at : ℕ) : Type 0 where
  pub front : List X
  pub thing : X
  pub behind : List X
  pub parts : things ≡ front ++ thing ∷ behind
  pub fine : AllByRecursion Fine front
  pub bad : ¬ Fine thing
  pub page_is : at ≡ page thing

-- a call on a store that means something is refused for the disk, for want of memory, or for a page of which this is so
abbrev pub Refuses : (ℕ → Type 0) → StoreFault → Type 0
Refuses Bad (BadStore at) = Bad at
Refuses Bad DiskFault = Unit {0}
Refuses Bad OutOfMemory = Unit {0}
Refuses Bad _ = ⊥
